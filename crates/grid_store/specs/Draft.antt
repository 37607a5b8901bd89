-- What a draft stands for: the cells of its grid once its changes are in place. Source: this project's own.
use Rattle.std.specs.Prelude.{◌≡◌, ◌⊎◌, ◌<◌, Bool, true, List, [], ◌∷◌, Option, Some, None, IsSome, filter_map}
use Rattle.std.specs.BTreeMap as tree
use Rattle.std.specs.BTreeMap.{is_at}
use Rattle.std.specs.FinMap as fin
use Rattle.std.specs.List.{list_any}
use Rattle.cell_addr.specs.declared.place.Place.{Place}
use Rattle.shift_core.specs.Maps.{PlaceMap}
use Rattle.stable_lines.specs.Sheets.{table_of}
use Rattle.stable_lines.specs.declared.sheets.SheetLines.{SheetLines}
use Rattle.grid_store.specs.Grid.{cells_of, placed}
use Rattle.grid_store.specs.Keys.{key_cmp, place_at}
use Rattle.grid_store.specs.declared.draft.Draft.{Draft}
use Rattle.grid_store.specs.declared.grid.Grid.{Grid}
use Rattle.grid_store.specs.declared.key.CellKey.{CellKey}

-- the map with one change: this cell at the place, or none
abbrev pub with_change : {X : Type 0} → Place → Option X → PlaceMap X → PlaceMap X
with_change p None m = fin.remove m p
with_change p (Some x) m = fin.insert m p x

-- the map with the changes of the list; of those at one place the first counts
abbrev pub with_changes : {X : Type 0} → List (Place × Option X) → PlaceMap X → PlaceMap X
with_changes [] m = m
with_changes (e ∷ es) m = with_change e.0 e.1 (with_changes es m)

-- the grid's cells where the draft has their lines, those of lost lines gone
abbrev pub carried_along : {X : Type 0} → Grid X → Draft X → PlaceMap X
carried_along g d = fin.from_entries (filter_map (placed d.changes.rows d.changes.cols) g.cells.entries)

-- the cells once the draft's changes are in place
abbrev pub drafted : {X : Type 0} → Grid X → Draft X → PlaceMap X
drafted g d = with_changes (fin.entries (cells_of d.changes)) (carried_along g d)

-- the draft makes this of the cells, whatever grid it goes on from
abbrev pub Makes : {X : Type 0} → (PlaceMap X → PlaceMap X) → Draft X → Draft X → Type 0
Makes f old new = (g : Grid _) → drafted g new ≡ f (drafted g old)

-- both lines of the key have been given out
abbrev pub AreGivenOut : SheetLines → SheetLines → CellKey → Type 0
AreGivenOut rows cols k = (k.row < (table_of rows k.sheet).next) × (k.col < (table_of cols k.sheet).next)

-- the key is one of these
abbrev pub is_one_of : List CellKey → CellKey → Bool
is_one_of keys k = list_any (is_at (key_cmp k)) keys

-- the draft goes on from the grid: the lines of each kept cell have been given out, and they stand or are noted as lost
abbrev pub IsDraftOf : {X : Type 0} → Grid X → Draft X → Type 0
IsDraftOf g d =
    (k : CellKey) → IsSome (tree.get key_cmp g.cells k)
    → AreGivenOut d.changes.rows d.changes.cols k × (IsSome (place_at d.changes.rows d.changes.cols k) ⊎ (is_one_of d.lost.items k ≡ true))
