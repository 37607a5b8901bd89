use Rattle.std.proofs.Common.{arith}
use Rattle.kept_steps.specs.internal.Listed.{goes_on}
use Rattle.kept_steps.proofs.Settled.{filtered-all}
use Rattle.kept_steps.proofs.settling.going_on.Goals as goal

pub returns : goal.returns
returns c = filtered-all (goes_on c.args.lazy.now c.args.position) c.args.listed.now c.as_slice-id-items.result.now c.loop-id.id-index c.loop-id.ids c.as_slice-id-items.ensures.keys (omega (arith, c.loop-id-test.false)) c.loop-id.invariant
