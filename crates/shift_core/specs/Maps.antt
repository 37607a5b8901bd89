-- Finite maps from places, as a structural operation moves them. Source: this project's own.
use Rattle.std.specs.Prelude.{◌≡◌, ◌++◌, List, filter, Option, option_map, option_and_then, is_none, IsSome}
use Rattle.std.specs.List.{filter_map}
use Rattle.std.specs.FinMap as map
use Rattle.cell_addr.specs.Order.{place_cmp}
use Rattle.cell_addr.specs.Place.{IsInside}
use Rattle.cell_addr.specs.declared.place.Place.{Place}
use Rattle.shift_core.specs.declared.shift.Shift.{Shift}
use Rattle.shift_core.specs.Sound.{IsSound}
use Rattle.shift_core.specs.Tables.{place_after, place_before}

-- a finite map from places
abbrev pub PlaceMap : Type 0 → Type 0
PlaceMap X = map.FinMap place_cmp X

-- an entry at the place that it moves to; none where its place is lost
abbrev pub entry_after : {X : Type 0} → Shift → Place × X → Option (Place × X)
entry_after s e = option_map (λ q. (q, e.1)) (place_after s e.0)

-- an entry at the place that it came from; none where it came from nowhere
abbrev pub entry_before : {X : Type 0} → Shift → Place × X → Option (Place × X)
entry_before s e = option_map (λ p. (p, e.1)) (place_before s e.0)

-- the map after the operation: each entry at the place that it moves to, those of lost places gone
abbrev pub moved_map : {X : Type 0} → Shift → PlaceMap X → PlaceMap X
moved_map s m = map.from_entries (filter_map (entry_after s) (map.entries m))

-- the entries whose places the operation loses, in the order of their places
abbrev pub lost_entries : {X : Type 0} → Shift → PlaceMap X → List (Place × X)
lost_entries s m = filter (λ e. is_none (place_after s e.0)) (map.entries m)

-- the map before the operation: the lost entries at their old places, and each other one at the place that it came from
abbrev pub restored_map : {X : Type 0} → Shift → List (Place × X) → PlaceMap X → PlaceMap X
restored_map s lost m = map.from_entries (lost ++ filter_map (entry_before s) (map.entries m))

-- only places of the sheet have an entry
abbrev pub AreInside : {X : Type 0} → PlaceMap X → Type 0
AreInside m = (p : Place) → IsSome (map.get m p) → IsInside p

-- at a place of the sheet stands what the operation moved there
abbrev pub MovedEntriesAreFound : Type 0 → Type 0
MovedEntriesAreFound X =
    (s : Shift) (m : PlaceMap X) (q : Place) → IsSound s → AreInside m → IsInside q → map.get (moved_map s m) q ≡ option_and_then (map.get m) (place_before s q)

-- entries that are all on the sheet stay on it
abbrev pub MovedEntriesStayInside : Type 0 → Type 0
MovedEntriesStayInside X = (s : Shift) (m : PlaceMap X) → IsSound s → AreInside m → AreInside (moved_map s m)

-- the lost entries bring back the map from before
abbrev pub LostEntriesRestore : Type 0 → Type 0
LostEntriesRestore X = (s : Shift) (m : PlaceMap X) → IsSound s → AreInside m → restored_map s (lost_entries s m) (moved_map s m) ≡ m
