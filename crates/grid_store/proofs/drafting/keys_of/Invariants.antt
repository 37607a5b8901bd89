use Rattle.std.proofs.Common.{◌≡◌, ◌++◌, drop, map}
use Rattle.grid_store.proofs.drafting.keys_of.Given as goal

abbrev pub invariant-loop-key : goal.invariant-loop-key
invariant-loop-key _ l = l.keys.items ++ map (λ e. e.0) (drop l.key-index l.list) ≡ map (λ e. e.0) l.list
