use Rattle.std.proofs.Common.{ℕ, ◌∙◌, sym, ap, arith, append_assoc, ◌+◌, ◌-◌, ◌++◌, ◌∷◌, [], map}
use Rattle.std.specs.List.{range_with_len}
use Rattle.range_table.specs.Cells.{nonempty, seen_values}
use Rattle.range_table.proofs.Sums.{cell_more, nonempty-append}
use Rattle.call_bench.proofs.ranges.Alike.list_row.Goals as goal

pub cols-preserved : goal.cols-preserved
cols-preserved c =
    let i = c.cols.invariant in
    let b = c.args.b in
    let value = c.value_at.result.now in
    let f = λ (col : ℕ). c.args.self.now.value in
    let col = c.cols.col in
    let n = col - b.left in
    let first = seen_values c.args.list.now.items in
    let before = map f (range_with_len b.left n) in record {
      listed = c.in_ok-add_nonempty.ensures ∙ ap (λ xs. xs ++ nonempty (value ∷ [])) i.listed ∙ append_assoc first (nonempty before) (nonempty (value ∷ []))
          ∙ ap (λ xs. first ++ xs)
          (sym (nonempty-append before (value ∷ []))
          ∙ ap nonempty (ap (λ x. before ++ x ∷ []) c.value_at.ensures ∙ cell_more f b.left n col (col + 1 - b.left) (omega (arith, i.from)) (omega (arith, i.from))));
      from = omega (arith, i.from);
    }
