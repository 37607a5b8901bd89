use Rattle.std.proofs.Common.{◌≡◌, ℕ, ◌&&◌, not, length, take}
use Rattle.node_links.specs.internal.Few.{drops}
use Rattle.node_links.specs.internal.Sets.{is_in}
use Rattle.node_links.proofs.users.Users.drop_changes.Given as goal

-- the changes gone by are dropped
abbrev pub invariant-changes : goal.invariant-changes
invariant-changes l = record {
  count : length l.self.sets.items ≡ length l.initial.self.sets.items;
  rest : (i x : ℕ) → is_in l.self.sets.items i x ≡ (is_in l.initial.self.sets.items i x && not (drops (take l.change-index l.changes) i x));
}
