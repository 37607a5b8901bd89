use Rattle.std.proofs.Common.{◌≡◌, get_or, map, take}
use Rattle.node_reach.proofs.walk.read.Given as goal

-- the places gone by are read
abbrev pub invariant-places : goal.invariant-places
invariant-places g l = (d : _) → l.found.items ≡ map (λ p. get_or l.list p d) (take l.place-index l.places)
