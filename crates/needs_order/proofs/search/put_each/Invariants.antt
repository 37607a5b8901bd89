use Rattle.std.proofs.Common.{◌≡◌, drop}
use Rattle.needs_order.specs.internal.Search.{with_each}
use Rattle.needs_order.proofs.search.put_each.Given as goal

-- the places left make of the list what all of them do
abbrev pub invariant-places : goal.invariant-places
invariant-places g l = with_each l.list (drop l.place-index l.places) l.value ≡ with_each l.initial.list l.places l.value
