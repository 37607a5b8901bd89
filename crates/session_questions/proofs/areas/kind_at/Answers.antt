use Rattle.std.proofs.Common.{◌∙◌, sym, ap, option_map}
use Rattle.grid_store.specs.Grid.{cells_of}
use Rattle.kept_book.specs.Frame.{numbered_at}
use Rattle.kept_book.specs.Kept.{at_of}
use Rattle.kept_book.specs.Stored.{content_of}
use Rattle.kept_book.proofs.Contents.{get-contents}
use Rattle.session_questions.specs.Areas.{kind_of}
use Rattle.session_questions.proofs.areas.kind_at.Goals as goal

pub returns : goal.returns
returns c =
    let b = c.args.parts.now.session.book in
    let stands = numbered_at (at_of b) b.lazy.line.cursor in
    c.kind_in.ensures stands ∙ ap (λ r. kind_of (option_map (content_of stands) r)) c.cell.ensures ∙ ap kind_of (sym (get-contents stands (cells_of b.grid) c.args.at))
