use Rattle.std.proofs.Common.{◌≡◌, ℕ, take}
use Rattle.needs_order.specs.Needs.{has}
use Rattle.node_links.specs.internal.Sets.{nodes_in}
use Rattle.node_links.proofs.users.set_of.Given as goal

-- the items gone by are in the set
abbrev pub invariant-items : goal.invariant-items
invariant-items l = (x : ℕ) → has x (nodes_in l.set) ≡ has x (take l.item-index l.items)
