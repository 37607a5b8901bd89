use Rattle.std.proofs.Common.{◌≡◌, ℕ, true, take}
use Rattle.needs_order.specs.Needs.{has}
use Rattle.node_links.specs.Nodes.{needs_of, node_count}
use Rattle.node_links.specs.internal.Few.{AreOwn, AreRows, IsMarked, StillMarked}
use Rattle.node_links.proofs.links.Links.mark_around.Given as goal

-- the node is marked, and the users gone by
abbrev pub invariant-users : goal.invariant-users
invariant-users l = record {
  own : AreOwn l.few (needs_of l.self) l.lists;
  rows : AreRows (node_count l.self) l.lists;
  still : StillMarked l.fn.lists l.lists;
  node : IsMarked l.few l.lists l.node;
  users : (u : ℕ) → has u (take l.user-index l.user-items) ≡ true → IsMarked l.few l.lists u;
}
