use Rattle.std.proofs.Common.{◌≡◌, ◌∙◌, ap, sym, subst, ℕ, ◌+◌, ◌*◌, true, drop, arith}
use Rattle.std.specs.List.{list_all}
use Rattle.cell_value.specs.declared.scalar.Scalar.{Scalar}
use Rattle.cell_value.specs.Cells.{Cells, with_value}
use Rattle.cell_value.specs.Scalar.{is_empty}
use Rattle.cell_value.proofs.Filling.{empty_after, empty_from_any}
use Rattle.function_cases.proofs.block.filled.Goals as goal

-- from the cell after the one that was filled all are empty
next : (cells : Cells) (row col cols : ℕ) (value : Scalar) → cells.cols ≡ cols → list_all is_empty (drop (row * cols + col) cells.values) ≡ true
    → list_all is_empty (drop (row * cols + (col + 1)) (with_value cells row col value).values) ≡ true
next cells row col cols value e h =
    let here : row * cells.cols + col ≡ row * cols + col = ap (λ n. row * n + col) e in
    let after : row * cols + (col + 1) ≡ row * cells.cols + col + 1 = omega arith in
    ap (λ n. list_all is_empty (drop n (with_value cells row col value).values)) after
    ∙ empty_after cells.values (row * cells.cols + col) value (ap (λ n. list_all is_empty (drop n cells.values)) here ∙ h)

pub rows-init : goal.rows-init
rows-init c = record {
  rows = ap (λ (x : Cells). x.rows) c.new-area.ensures;
  cols = ap (λ (x : Cells). x.cols) c.new-area.ensures;
  rest = subst (λ (x : Cells). list_all is_empty (drop (0 * c.args.cols) x.values) ≡ true) (sym c.new-area.ensures) (empty_from_any (c.args.rows * c.args.cols) (0 * c.args.cols));
}

pub cols-preserved : goal.cols-preserved
cols-preserved c =
    let i = c.cols.invariant in
    record {
      rows = ap (λ (x : Cells). x.rows) c.in_ok-push.ensures.ok ∙ i.rows;
      cols = ap (λ (x : Cells). x.cols) c.in_ok-push.ensures.ok ∙ i.cols;
      rest = subst (λ (x : Cells). list_all is_empty (drop (c.rows.row * c.args.cols + (c.cols.col + 1)) x.values) ≡ true) (sym c.in_ok-push.ensures.ok) (next c.cols.area c.rows.row c.cols.col c.args.cols _ i.cols i.rest);
    }
