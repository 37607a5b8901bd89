use Rattle.std.proofs.Common.{take, map}
use Rattle.kept_steps.specs.internal.Listed.{Adds}
use Rattle.kept_steps.proofs.listing.add_named.Given as goal

abbrev pub invariant-loop-id : goal.invariant-loop-id
invariant-loop-id l = Adds (map (λ e. e.1) (take l.id-index l.names)) l.fn.ids l.ids
