use Rattle.std.proofs.Common.{◌≡◌, ◌++◌, drop, filter, not}
use Rattle.grid_store.specs.internal.Exchange.{is_among}
use Rattle.grid_store.proofs.exchange.left_over.Given as goal

abbrev pub invariant-loop-at : goal.invariant-loop-at
invariant-loop-at l = l.left.items ++ filter (λ p. not (is_among l.fn.targets p)) (drop l.at-index l.places) ≡ filter (λ p. not (is_among l.fn.targets p)) l.places
