use Rattle.dep_graph.specs.declared.node.Node.TheVariants.{Cell}
use Rattle.range_table.specs.Ranges.{table_of}
use Rattle.recalc_core.specs.Recalc.{kept_in}
use Rattle.recalc_core.specs.internal.KeptValues.{kept_by}
use Rattle.recalc_core.specs.internal.Seen.{shown_at}
use Rattle.recalc_core.proofs.MovedMarks.{takes_values}
use Rattle.recalc_core.proofs.Touched.{cells_alike}
use Rattle.recalc_core.proofs.recalc.Recalc.shift.Goals as goal

pub invariant_of-self : goal.invariant_of-self
invariant_of-self c = record {
  right = cells_alike (kept_in c.args.self.now) (kept_by c.shift.new.self) (table_of c.args.self.now.ranges).kept (λ p. c.in_err-shift.ensures.err (Cell p)) c.args.self.now.right;
}

pub invariant_of-self-2 : goal.invariant_of-self-2
invariant_of-self-2 c =
    let old = kept_in c.args.self.now in
    let new = kept_by c.shift.new.self in record {
      right = c.shift_summaries.ensures.right (shown_at old) (shown_at new) (takes_values c.args.s.now c.requires old new c.in_ok-shift.ensures.ok) c.args.self.now.right;
    }
