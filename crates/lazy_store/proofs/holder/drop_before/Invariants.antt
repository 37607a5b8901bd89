use Rattle.std.proofs.Common.{◌≡◌, ◌≤◌, ℕ, btree_map_len}
use Rattle.std.specs.BTreeMap.{get}
use Rattle.std.specs.Ordering.{nat_cmp}
use Rattle.lazy_store.proofs.holder.drop_before.Given as goal

-- all but the trees before the position are as they were
abbrev pub invariant-saved : goal.invariant-saved
invariant-saved l = (k : ℕ) → l.position ≤ k → get nat_cmp l.saved k ≡ get nat_cmp l.fn.saved k

abbrev pub decreases-saved : goal.decreases-saved
decreases-saved l = btree_map_len l.saved
