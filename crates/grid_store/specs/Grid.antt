-- What a grid stands for: a finite map from places to cells. Source: this project's own.
use Rattle.std.specs.Prelude.{◌≡◌, ⊤, true, List, [], ◌∷◌, Option, None, IsSome, option_map, filter_map, map, not}
use Rattle.std.specs.Borrow.{Bor}
use Rattle.std.specs.FinMap as fin
use Rattle.std.specs.List.{All}
use Rattle.cell_addr.specs.Place.{IsInside, covers}
use Rattle.cell_addr.specs.declared.place.Block.{Block}
use Rattle.cell_addr.specs.declared.place.Place.{Place}
use Rattle.shift_core.specs.Form.{form_of}
use Rattle.shift_core.specs.Maps.{PlaceMap}
use Rattle.shift_core.specs.Tables.{place_after}
use Rattle.shift_core.specs.declared.edit.Edit.TheVariants.{Insert}
use Rattle.shift_core.specs.declared.form.Form.{Form}
use Rattle.shift_core.specs.declared.form.Form.TheVariants.{Lines}
use Rattle.shift_core.specs.declared.shift.Shift.{Shift}
use Rattle.stable_lines.specs.declared.sheets.SheetLines.{SheetLines}
use Rattle.grid_store.specs.Keys.{place_at}
use Rattle.grid_store.specs.declared.grid.Grid.{Grid}
use Rattle.grid_store.specs.declared.key.CellKey.{CellKey}
use Rattle.grid_store.specs.declared.list.CellList.{CellList}

-- a kept cell at the place of its key
abbrev pub placed : {X : Type 0} → SheetLines → SheetLines → CellKey × X → Option (Place × X)
placed rows cols e = option_map (λ p. (p, e.1)) (place_at rows cols e.0)

-- the map that a grid stands for
abbrev pub cells_of : {X : Type 0} → Grid X → PlaceMap X
cells_of g = fin.from_entries (filter_map (placed g.rows g.cols) g.cells.entries)

-- the cells of a list with their places
abbrev pub items_of : {X : Type 0} → CellList X → List (Place × X)
items_of l = l.list.items

-- cells with their places, and what they hold
abbrev pub seen_items : {X : Type 0} → List (Place × Bor X) → List (Place × X)
seen_items es = map (λ e. (e.0, e.1.now)) es

-- the entries of a block
abbrev pub within : {X : Type 0} → Block → PlaceMap X → PlaceMap X
within area m = fin.retain_keys m (covers area)

-- the entries that are in no place of a block
abbrev pub outside : {X : Type 0} → Block → PlaceMap X → PlaceMap X
outside area m = fin.retain_keys m (λ p. not (covers area p))

-- the map without the places of the list
abbrev pub without_places : {X : Type 0} → List Place → PlaceMap X → PlaceMap X
without_places [] m = m
without_places (p ∷ ps) m = without_places ps (fin.remove m p)

-- the map with the entries of the list over its own; of those at one place the first counts
abbrev pub with_entries : {X : Type 0} → List (Place × X) → PlaceMap X → PlaceMap X
with_entries [] m = m
with_entries (e ∷ es) m = fin.insert (with_entries es m) e.0 e.1

-- the lines of all sheets are as they were
abbrev pub KeepsLines : {X : Type 0} → Grid X → Grid X → Type 0
KeepsLines old new = (new.rows ≡ old.rows) × (new.cols ≡ old.cols)

-- the places of a list are all on the sheet
abbrev pub AreListedInside : {X : Type 0} → List (Place × X) → Type 0
AreListedInside es = All (λ e. IsInside e.0) es

-- some entry is in the block
abbrev pub HasAny : {X : Type 0} → Block → PlaceMap X → Type 0
HasAny area m = (p : Place) × (covers area p ≡ true) × IsSome (fin.get m p)

-- the operation inserts rows or columns
abbrev pub IsInsert : Form → Type 0
IsInsert (Lines sheet axis (Insert start count)) = ⊤
IsInsert _ = ⊥

-- the operation is an insert that pushes some entry off the sheet
abbrev pub PushesEntryOff : {X : Type 0} → Shift → PlaceMap X → Type 0
PushesEntryOff s m = IsInsert (form_of s) × ((p : Place) × IsSome (fin.get m p) × (place_after s p ≡ None))
