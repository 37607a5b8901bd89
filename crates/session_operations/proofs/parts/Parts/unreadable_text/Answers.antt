use Rattle.std.proofs.Common.{◌≡◌, ◌∙◌, sym, ap, subst, option_map, IfOk}
use Rattle.grid_store.specs.Grid.{cells_of}
use Rattle.name_table.specs.Listed.{listed}
use Rattle.book_model.specs.Content.{formula_shown}
use Rattle.kept_book.proofs.Contents.{get-contents}
use Rattle.kept_book.specs.Frame.{numbered_at}
use Rattle.kept_book.specs.Kept.{at_of}
use Rattle.kept_book.specs.Stored.{content_of}
use Rattle.session_operations.specs.internal.Contents.{holds_formula}
use Rattle.session_operations.proofs.ReadContents.{no-formula}
use Rattle.session_operations.proofs.parts.Parts.unreadable_text.Goals as goal

pub unreadable_in-requires : goal.unreadable_in-requires
unreadable_in-requires c =
    let b = c.args.self.now.session.book in
    ap holds_formula c.cell.ensures ∙ no-formula (numbered_at (at_of b) b.lazy.line.cursor) (cells_of b.grid) c.args.at c.requires

pub returns : goal.returns
returns c =
    let b = c.args.self.now.session.book in
    let stands = numbered_at (at_of b) b.lazy.line.cursor in
    subst (λ z. IfOk c.unreadable_in.result (λ x. x ≡ formula_shown (listed b.names) c.args.at.sheet z))
    (ap (option_map (content_of stands)) c.cell.ensures ∙ sym (get-contents stands (cells_of b.grid) c.args.at)) c.unreadable_in.ensures
