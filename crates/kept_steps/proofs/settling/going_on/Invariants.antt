use Rattle.std.proofs.Common.{◌≡◌, ℕ, filter, take}
use Rattle.std.specs.HashSet.{contains}
use Rattle.std.specs.Prelude.{nat_eq}
use Rattle.kept_steps.specs.internal.Listed.{goes_on, has}
use Rattle.kept_steps.proofs.settling.going_on.Given as goal

abbrev pub invariant-loop-id : goal.invariant-loop-id
invariant-loop-id l = (id : ℕ) → contains nat_eq l.ids id ≡ has (filter (goes_on l.lazy l.position) (take l.id-index l.id-items)) id
