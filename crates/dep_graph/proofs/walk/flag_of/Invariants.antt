use Rattle.std.proofs.Common.{◌≢◌, ◌<◌, ℕ, get_or}
use Rattle.dep_graph.proofs.walk.flag_of.Given as goal

-- the places gone by hold other nodes
abbrev pub invariant-walk : goal.invariant-walk
invariant-walk l = (k : ℕ) → k < l.place → get_or l.walk.nodes.items k 0 ≢ l.node
