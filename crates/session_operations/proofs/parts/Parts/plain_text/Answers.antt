use Rattle.std.proofs.Common.{◌≡◌, ◌∙◌, sym, ap, subst, option_map, IfOk}
use Rattle.grid_store.specs.Grid.{cells_of}
use Rattle.name_table.specs.Listed.{listed}
use Rattle.book_model.specs.Content.{content_shown}
use Rattle.kept_book.proofs.Contents.{get-contents}
use Rattle.kept_book.specs.Frame.{numbered_at}
use Rattle.kept_book.specs.Kept.{at_of}
use Rattle.kept_book.specs.Stored.{content_of}
use Rattle.session_operations.specs.internal.Contents.{holds_formula}
use Rattle.session_operations.proofs.ReadContents.{no-formula}
use Rattle.session_operations.proofs.parts.Parts.plain_text.Goals as goal

pub plain_in-requires : goal.plain_in-requires
plain_in-requires c =
    let b = c.args.self.now.session.book in
    ap holds_formula c.cell.ensures ∙ no-formula (numbered_at (at_of b) b.lazy.line.cursor) (cells_of b.grid) c.args.at c.requires

pub returns : goal.returns
returns c =
    let b = c.args.self.now.session.book in
    let stands = numbered_at (at_of b) b.lazy.line.cursor in
    subst (λ z. IfOk c.plain_in.result (λ x. x ≡ content_shown (listed b.names) c.args.at.sheet z))
    (ap (option_map (content_of stands)) c.cell.ensures ∙ sym (get-contents stands (cells_of b.grid) c.args.at)) c.plain_in.ensures
