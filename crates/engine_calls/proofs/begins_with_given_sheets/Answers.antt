-- An engine can begin with one sheet that has one cell.
use Rattle.std.proofs.Common.{◌≡◌, ◌∙◌, ap, arith, ◌++◌, ◌∷◌, [], length}
use Rattle.book_model.specs.declared.given.BookCell.{BookCell}
use Rattle.book_engine.proofs.GivenExamples.{one_cell}
use Rattle.engine_calls.proofs.begins_with_given_sheets.Goals as goal

pub begun-requires-clause-can : goal.begun-requires-clause-can
begun-requires-clause-can c =
    let cell : BookCell = record { row = 0; col = 0; text = c.in_ok-from_str.field-0 } in
    let short = ap length c.in_ok-from_str.ensures in
    one_cell (record { name = c.in_ok-from_str-2.field-0; cells = c.push.new.self.list.items }) cell c.in_ok-from_str-2.ensures (c.in_ok-push.ensures.ok ∙ ap (λ l. l ++ cell ∷ []) c.in_ok-cells.ensures)
    (omega arith, omega arith, omega (arith, short))
