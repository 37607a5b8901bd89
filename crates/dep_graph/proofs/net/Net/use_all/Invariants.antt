use Rattle.std.proofs.Common.{◌≡◌, ℕ, true, map, take}
use Rattle.needs_order.specs.Needs.{has}
use Rattle.dep_graph.specs.internal.Numbers.{IsAlive, IsFiled, node_at}
use Rattle.dep_graph.specs.internal.Nets.{Grows}
use Rattle.dep_graph.proofs.net.Net.use_all.Given as goal

-- the nodes gone by have their numbers, and are filed
abbrev pub invariant-needs : goal.invariant-needs
invariant-needs l = record {
  grown : Grows l.fn.self l.self;
  nodes : map (node_at l.self.nodes) l.numbers.items ≡ take l.need-index l.needs;
  alive : (n : ℕ) → has n l.numbers.items ≡ true → IsAlive l.self.nodes n;
  filed : (n : ℕ) → has n l.numbers.items ≡ true → IsFiled l.self.nodes l.self.files n;
}
