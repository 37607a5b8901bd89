use Rattle.std.proofs.Common.{sym, subst}
use Rattle.range_table.specs.Ranges.{table_of}
use Rattle.range_table.specs.Table.{AreFolds, RangeTable}
use Rattle.dep_graph.specs.declared.node.Node.TheVariants.{Cell}
use Rattle.recalc_core.specs.Recalc.{kept_in}
use Rattle.recalc_core.specs.internal.KeptValues.{kept_by}
use Rattle.recalc_core.specs.internal.Seen.{shown_at}
use Rattle.recalc_core.proofs.Touched.{cells_alike}
use Rattle.recalc_core.proofs.recalc.Recalc.copied.Goals as goal

pub invariant_of-result : goal.invariant_of-result
invariant_of-result c = record {
  right = cells_alike (kept_in c.args.self.now) (kept_by c.in_ok-copied.field-0) (table_of c.in_ok-copied-3.field-0).kept (λ p. c.in_ok-copied.ensures (Cell p))
      (subst (λ (t : RangeTable). AreFolds (shown_at (kept_in c.args.self.now)) t.kept) (sym c.in_ok-copied-3.ensures) c.args.self.now.right);
}
