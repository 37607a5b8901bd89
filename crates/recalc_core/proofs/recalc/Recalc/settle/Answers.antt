use Rattle.std.proofs.Common.{Some, None}
use Rattle.recalc_core.specs.Recalc.{kept_in}
use Rattle.recalc_core.specs.internal.KeptValues.{kept_by}
use Rattle.recalc_core.proofs.Touched.{either_differs, put_differs}
use Rattle.recalc_core.proofs.recalc.Recalc.settle.Goals as goal

pub invariant_of-self : goal.invariant_of-self
invariant_of-self c = record {
  right = c.touch.ensures.right (kept_in c.args.self.now) (kept_by c.put.new.self)
      (either_differs c.args.a (Some c.in-Some.value) (kept_in c.args.self.now) (kept_by c.put.new.self) c.put.result c.put.ensures.ok c.put.ensures.err) c.args.self.now.right;
}

pub invariant_of-self-in-None : goal.invariant_of-self-in-None
invariant_of-self-in-None c = record {
  right = c.touch.ensures.right (kept_in c.args.self.now) (kept_by c.remove.new.self) (put_differs c.args.a None (kept_in c.args.self.now) (kept_by c.remove.new.self) c.remove.ensures) c.args.self.now.right;
}
