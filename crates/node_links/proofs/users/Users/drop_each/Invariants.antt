use Rattle.std.proofs.Common.{◌≡◌, ℕ, ◌&&◌, not, eqb, length, take}
use Rattle.needs_order.specs.Needs.{has}
use Rattle.node_links.specs.internal.Sets.{is_in, nodes_in}
use Rattle.node_links.proofs.users.Users.drop_each.Given as goal

-- the node is gone from those that need the ones gone by that aren't kept
abbrev pub invariant-needs : goal.invariant-needs
invariant-needs l = record { count : length l.self.sets.items ≡ length l.initial.self.sets.items; rest : (i x : ℕ) → is_in l.self.sets.items i x ≡ (is_in l.initial.self.sets.items i x && not ((has i (take l.need-index l.needs) && not (has i (nodes_in l.kept))) && eqb x l.node)) }
