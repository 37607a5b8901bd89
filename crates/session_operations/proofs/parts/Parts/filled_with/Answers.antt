use Rattle.std.proofs.Common.{◌∙◌, sym, ap, ◌==◌, length}
use Rattle.std.proofs.lemmas.List.{drop_all}
use Rattle.grid_store.specs.Grid.{cells_of}
use Rattle.kept_book.specs.Frame.{numbered_at}
use Rattle.kept_book.specs.Kept.{at_of}
use Rattle.session_operations.specs.Seen.{state_of}
use Rattle.session_operations.specs.internal.Giving.{counted, counted_all}
use Rattle.session_operations.proofs.FilledCells.{len-contents}
use Rattle.session_operations.proofs.WrittenCells.{counted_more, filled_counted}
use Rattle.session_operations.proofs.parts.Parts.filled_with.Goals as goal

pub loop-at-init : goal.loop-at-init
loop-at-init c =
    let stands = numbered_at (at_of c.args.self.now.session.book) c.args.self.now.session.book.lazy.line.cursor in
    ap (counted_all (state_of c.args.self.now).book.cells c.args.cells.now) (c.filled-count.ensures ∙ sym (len-contents stands (cells_of c.args.self.now.session.book.grid)))

pub loop-at-preserved : goal.loop-at-preserved
loop-at-preserved c =
    let b = (state_of c.args.self.now).book in
    counted_more b.cells c.args.cells.now c.loop-at.at-index c.loop-at-item.result c.loop-at.count _ _ c.loop-at-test.true c.loop-at-item.is
    (c.in_ok-count.ensures ∙ (λ i. counted (c.is_filled.ensures i) ((c.is_empty.ensures ∙ ap (λ w. length w == 0) c.as_str.ensures) i) c.loop-at.count)) c.loop-at.invariant

pub returns : goal.returns
returns c =
    let b = (state_of c.args.self.now).book in
    ap (λ es. counted_all b.cells es c.loop-at.count) (sym (drop_all c.loop-at.at-index c.args.cells.now c.loop-at-test.false)) ∙ c.loop-at.invariant ∙ filled_counted b.sheets c.args.cells.now b.cells c.requires.distinct
