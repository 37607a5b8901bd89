use Rattle.std.proofs.Common.{◌≡◌, ℕ, ◌&&◌, ◌||◌, eqb, length, take}
use Rattle.needs_order.specs.Needs.{has}
use Rattle.node_links.specs.internal.Sets.{is_in}
use Rattle.node_links.proofs.users.Users.put_each.Given as goal

-- the node is with those that need the ones gone by
abbrev pub invariant-needs : goal.invariant-needs
invariant-needs l = record { count : length l.self.sets.items ≡ length l.initial.self.sets.items; put : (i x : ℕ) → is_in l.self.sets.items i x ≡ (is_in l.initial.self.sets.items i x || (has i (take l.need-index l.needs) && eqb x l.node)) }
