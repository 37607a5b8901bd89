-- Cells that are emptied and filled together: lists of places, and maps over them.
use Rattle.std.specs.Prelude.{◌≡◌, Bool, true, false, List, [], ◌∷◌, map, None, IsSome}
use Rattle.std.specs.FinMap as fin
use Rattle.std.specs.List.{AllByRecursion, list_any}
use Rattle.std.specs.Ordering.{eq_by_cmp}
use Rattle.cell_addr.specs.Order.{place_cmp}
use Rattle.cell_addr.specs.declared.place.Place.{Place}
use Rattle.shift_core.specs.Maps.{PlaceMap}

-- the place is one of these
abbrev pub is_among : List Place → Place → Bool
is_among places q = list_any (eq_by_cmp place_cmp q) places

-- the maps have the same but at these places
abbrev pub HasSame : {X : Type 0} → List Place → PlaceMap X → PlaceMap X → Type 0
HasSame places old new = (q : Place) → is_among places q ≡ false → fin.get new q ≡ fin.get old q

-- none of these places is filled
abbrev pub LacksAll : {X : Type 0} → List Place → PlaceMap X → Type 0
LacksAll places m = (q : Place) → is_among places q ≡ true → fin.get m q ≡ None

-- the places of entries
abbrev pub places_of : {X : Type 0} → List (Place × X) → List Place
places_of es = map (λ e. e.0) es

-- the place of each entry is filled
abbrev pub AreFilled : {X : Type 0} → List (Place × X) → PlaceMap X → Type 0
AreFilled es m = AllByRecursion (λ e. IsSome (fin.get m e.0)) es

-- one cell is placed, and no place is emptied but its own
abbrev pub is_one_cell : {X : Type 0} → List Place → List (Place × X) → Bool
is_one_cell [] (e ∷ []) = true
is_one_cell (p ∷ []) (e ∷ []) = eq_by_cmp place_cmp p e.0
is_one_cell _ _ = false
