use Rattle.std.proofs.Common.{◌≡◌, ℕ, true, take}
use Rattle.std.specs.List.{list_any}
use Rattle.block_index.specs.Index.{filed_in}
use Rattle.needs_order.specs.Needs.{has}
use Rattle.touch_index.specs.internal.Points.{StillFound}
use Rattle.touch_index.proofs.touched.find_at.Given as goal

-- what is filed under the slots gone by is found
abbrev pub invariant-slots : goal.invariant-slots
invariant-slots l = record {
  still : StillFound l.initial.found.items l.found.items;
  found : (n : ℕ) → list_any (λ s. has n (filed_in l.index s)) (take l.slot-index l.slot-items) ≡ true → has n l.found.items ≡ true;
}
