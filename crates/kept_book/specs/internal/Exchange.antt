-- Several exchanges of cells as one.
use Rattle.std.specs.Prelude.{◌≡◌, ◌||◌, List}
use Rattle.std.specs.BTreeSet.{BTreeSet, contains}
use Rattle.cell_addr.specs.Order.{place_cmp}
use Rattle.cell_addr.specs.declared.place.Place.{Place}
use Rattle.grid_store.specs.Grid.{AreListedInside, items_of, with_entries, without_places}
use Rattle.grid_store.specs.declared.cell.Cell.{Cell}
use Rattle.grid_store.specs.internal.Exchange.{is_among}
use Rattle.shift_core.specs.Maps.{PlaceMap}
use Rattle.kept_book.specs.Change.{places_of}
use Rattle.kept_book.specs.declared.exchange.Exchange.{Exchange}

-- the map that it makes of one
abbrev pub exchanged : Exchange → PlaceMap Cell → PlaceMap Cell
exchanged x m = with_entries (items_of x.placed) (without_places x.emptied.keys m)

-- it makes this of each map
abbrev pub Makes : Exchange → (PlaceMap Cell → PlaceMap Cell) → Type 0
Makes x f = (m : PlaceMap Cell) → exchanged x m ≡ f m

-- what it places is all on the sheets
abbrev pub IsPlacedInside : Exchange → Type 0
IsPlacedInside x = AreListedInside (items_of x.placed)

-- it is the old one after these cells are emptied and those are placed
abbrev pub Changes : Exchange → List (Place × Cell) → List (Place × Cell) → Exchange → Type 0
Changes old emptied placed new = (m : PlaceMap Cell) → exchanged new m ≡ exchanged old (with_entries placed (without_places (places_of emptied) m))

-- the set has the places of the cells too
abbrev pub AddsPlaces : BTreeSet Place → List (Place × Cell) → BTreeSet Place → Type 0
AddsPlaces old cells new = (q : Place) → contains place_cmp new q ≡ (contains place_cmp old q || is_among (places_of cells) q)
