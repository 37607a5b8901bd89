-- Maps without the places of a list, and lists of entries.
use Rattle.std.specs.Prelude.{List, [], ◌∷◌, Option, Some, None, option_map}
use Rattle.std.specs.FinMap as map
use Rattle.std.specs.List.{AllByRecursion}
use Rattle.cell_addr.specs.Place.{IsInside}
use Rattle.cell_addr.specs.declared.place.Place.{Place}
use Rattle.shift_core.specs.Maps.{PlaceMap}

-- the map without the places of the list
abbrev pub without : {X : Type 0} → List (Place × X) → PlaceMap X → PlaceMap X
without [] m = m
without (e ∷ es) m = without es (map.remove m e.0)

-- the first of two that is there
abbrev pub or_else : {X : Type 0} → Option X → Option X → Option X
or_else None s = s
or_else (Some x) s = Some x

-- an entry where its place goes; none where it is lost
abbrev pub carried_entry : {X : Type 0} → (Place → Option Place) → Place × X → Option (Place × X)
carried_entry f e = option_map (λ q. (q, e.1)) (f e.0)

-- each place of a list is on the sheet
abbrev pub AreEachInside : {X : Type 0} → List (Place × X) → Type 0
AreEachInside es = AllByRecursion (λ e. IsInside e.0) es
