-- The places that copied cells come to.
use Rattle.std.specs.Prelude.{◌≡◌, ℕ, ◌+◌, Bool, List, [], ◌∷◌, Option, Some, None, if◌then◌else◌}
use Rattle.std.specs.List.{list_any}
use Rattle.std.specs.Ordering.{eq_by_cmp}
use Rattle.cell_addr.specs.Order.{place_cmp}
use Rattle.cell_addr.specs.Place.{covers}
use Rattle.cell_addr.specs.declared.place.Block.{Block}
use Rattle.cell_addr.specs.declared.place.Place.{Place}
use Rattle.clip_board.specs.declared.clip.CopyItem.{CopyItem}
use Rattle.shift_core.specs.Carried.{carried_place}

-- where a copied cell of a block comes to; one beside the block comes nowhere
abbrev pub place_pasted : Block → Place → Place × CopyItem → Option Place
place_pasted area at e = if covers area e.0 then Some (carried_place area at e.0) else None

-- the place is one of these
abbrev pub is_among : List Place → Place → Bool
is_among ps q = list_any (eq_by_cmp place_cmp q) ps

-- how many places these are, each counted once
abbrev pub count_apart : List Place → ℕ
count_apart [] = 0
count_apart (p ∷ ps) = if is_among ps p then count_apart ps else count_apart ps + 1

-- a set that has these places, and no others
abbrev pub ArePlaces : List Place → (Place → Bool) → ℕ → Type 0
ArePlaces ps has count = ((q : Place) → has q ≡ is_among ps q) × (count ≡ count_apart ps)
