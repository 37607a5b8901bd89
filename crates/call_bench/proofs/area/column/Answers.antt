use Rattle.std.proofs.Common.{◌≡◌, ◌∙◌, ap, sym, subst, ℕ, ◌+◌, ◌*◌, true, drop, arith}
use Rattle.std.specs.List.{list_all}
use Rattle.cell_value.specs.declared.scalar.Scalar.{Scalar}
use Rattle.cell_value.specs.Cells.{Cells, with_value}
use Rattle.cell_value.specs.Scalar.{is_empty}
use Rattle.cell_value.proofs.Filling.{empty_after, empty_from_any}
use Rattle.call_bench.proofs.area.column.Goals as goal

-- from the row after the one that was filled all are empty
next : (cells : Cells) (row : ℕ) (value : Scalar) → cells.cols ≡ 1 → list_all is_empty (drop row cells.values) ≡ true
    → list_all is_empty (drop (row + 1) (with_value cells row 0 value).values) ≡ true
next cells row value e h =
    let here : row * cells.cols + 0 ≡ row = ap (λ n. row * n + 0) e ∙ omega arith in
    let after : row + 1 ≡ row * cells.cols + 0 + 1 = omega arith in
    ap (λ n. list_all is_empty (drop n (with_value cells row 0 value).values)) after
    ∙ empty_after cells.values (row * cells.cols + 0) value (ap (λ n. list_all is_empty (drop n cells.values)) here ∙ h)

pub rows-init : goal.rows-init
rows-init c = record {
  rows = ap (λ (x : Cells). x.rows) c.new-area.ensures;
  cols = ap (λ (x : Cells). x.cols) c.new-area.ensures;
  rest = subst (λ (x : Cells). list_all is_empty (drop 0 x.values) ≡ true) (sym c.new-area.ensures) (empty_from_any (c.args.rows * 1) 0);
}

pub rows-preserved : goal.rows-preserved
rows-preserved c =
    let i = c.rows.invariant in
    record {
      rows = ap (λ (x : Cells). x.rows) c.in_ok-push.ensures.ok ∙ i.rows;
      cols = ap (λ (x : Cells). x.cols) c.in_ok-push.ensures.ok ∙ i.cols;
      rest = subst (λ (x : Cells). list_all is_empty (drop (c.rows.row + 1) x.values) ≡ true) (sym c.in_ok-push.ensures.ok) (next c.rows.area c.rows.row _ i.cols i.rest);
    }
