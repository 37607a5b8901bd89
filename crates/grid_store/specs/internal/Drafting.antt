-- How a draft's changes come to their cells, key by key.
use Rattle.std.specs.Prelude.{◌≡◌, Bool, ◌&&◌, if◌then◌else◌, true, List, Option, Some, None, option_map, IsSome, is_some, is_none, filter_map, unwrap_or}
use Rattle.std.specs.Borrow.{Bor}
use Rattle.std.specs.BTreeMap as tree
use Rattle.std.specs.BTreeMap.{BTreeMap, is_at}
use Rattle.std.specs.FinMap as fin
use Rattle.std.specs.List.{AllByRecursion}
use Rattle.std.specs.Map.{lookup}
use Rattle.cell_addr.specs.Order.{place_cmp}
use Rattle.cell_addr.specs.Place.{covers}
use Rattle.cell_addr.specs.declared.place.Block.{Block}
use Rattle.cell_addr.specs.declared.place.Place.{Place}
use Rattle.stable_lines.specs.declared.sheets.SheetLines.{SheetLines}
use Rattle.grid_store.specs.Draft.{is_one_of}
use Rattle.grid_store.specs.Keys.{key_cmp, place_at}
use Rattle.grid_store.specs.declared.draft.Draft.{Draft}
use Rattle.grid_store.specs.declared.grid.Grid.{Grid}
use Rattle.grid_store.specs.declared.key.CellKey.{CellKey}
use Rattle.grid_store.specs.internal.Listing.{look_in}
use Rattle.grid_store.specs.internal.Lists.{or_else}

-- the lines and what is noted as lost are as they were
abbrev pub KeepsBase : {X : Type 0} → Draft X → Draft X → Type 0
KeepsBase old new = (new.changes.rows ≡ old.changes.rows) × (new.changes.cols ≡ old.changes.cols) × (new.lost ≡ old.lost)

-- these changes are laid over what was found
abbrev pub AreLaidOver : {X : Type 0} → List (Place × Option X) → BTreeMap Place (Bor X) → BTreeMap Place (Bor X) → Type 0
AreLaidOver es old new = (q : Place) → look_in new.entries q ≡ unwrap_or (fin.find place_cmp q es) (look_in old.entries q)

-- one change is laid over what was found
abbrev pub IsLaidOver : {X : Type 0} → Place → Option X → BTreeMap Place (Bor X) → BTreeMap Place (Bor X) → Type 0
IsLaidOver at change old new = (q : Place) → look_in new.entries q ≡ (if is_at (place_cmp at) q then change else look_in old.entries q)

-- the keys have that of each of the grid's cells in the block, as the draft has its lines
abbrev pub HasKeysOf : {X : Type 0} → Grid X → Draft X → Block → List CellKey → Type 0
HasKeysOf g d area keys =
    (k : CellKey) (p : Place) → IsSome (tree.get key_cmp g.cells k) → place_at d.changes.rows d.changes.cols k ≡ Some p → covers area p ≡ true → is_one_of keys k ≡ true

-- each key of the grid's cells whose place is lost is noted
abbrev pub NotesLost : {X : Type 0} → (Place → Option Place) → Grid X → Draft X → Draft X → Type 0
NotesLost goes g old new =
    (k : CellKey) (p : Place) → IsSome (tree.get key_cmp g.cells k) → place_at old.changes.rows old.changes.cols k ≡ Some p → goes p ≡ None → is_one_of new.lost.items k ≡ true

-- what was noted is noted still
abbrev pub StillNotes : {X : Type 0} → Draft X → Draft X → Type 0
StillNotes old new = (k : CellKey) → is_one_of old.lost.items k ≡ true → is_one_of new.lost.items k ≡ true

-- what entries have under a key
abbrev pub under : {X : Type 0} → List (CellKey × X) → CellKey → Option X
under es k = lookup (is_at (key_cmp k)) es

-- the same is kept under each key
abbrev pub KeepsAll : {X : Type 0} → BTreeMap CellKey X → BTreeMap CellKey X → Type 0
KeepsAll old new = (k : CellKey) → tree.get key_cmp new k ≡ tree.get key_cmp old k

-- these cells are kept over the others
abbrev pub AreKeptOver : {X : Type 0} → List (CellKey × X) → BTreeMap CellKey X → BTreeMap CellKey X → Type 0
AreKeptOver es old new = (k : CellKey) → tree.get key_cmp new k ≡ or_else (under es k) (tree.get key_cmp old k)

-- nothing is kept under keys that pass the test, and all else as it was
abbrev pub AreTakenOut : {X : Type 0} → (CellKey → Bool) → BTreeMap CellKey X → BTreeMap CellKey X → Type 0
AreTakenOut out old new = (k : CellKey) → tree.get key_cmp new k ≡ (if out k then None else tree.get key_cmp old k)

-- the changes are made: a cell in place of what was kept under its key, or nothing
abbrev pub AreMade : {X : Type 0} → BTreeMap CellKey (Option X) → BTreeMap CellKey X → BTreeMap CellKey X → Type 0
AreMade changes old new = (k : CellKey) → tree.get key_cmp new k ≡ unwrap_or (tree.get key_cmp changes k) (tree.get key_cmp old k)

-- something is kept under each key of the entries
abbrev pub AreAllKept : {X : Type 0} → List (CellKey × X) → BTreeMap CellKey X → Type 0
AreAllKept es cells = AllByRecursion (λ e. IsSome (tree.get key_cmp cells e.0)) es

-- nothing is kept under any key of the entries
abbrev pub AreAllFresh : {X : Type 0} → List (CellKey × X) → BTreeMap CellKey X → Type 0
AreAllFresh es cells = (k : CellKey) → IsSome (under es k) → tree.get key_cmp cells k ≡ None

-- the key is noted as lost, and its lines stand nowhere
abbrev pub is_gone : SheetLines → SheetLines → List CellKey → CellKey → Bool
is_gone rows cols lost k = is_one_of lost k && is_none (place_at rows cols k)

-- a change that places a cell, if it is wanted
abbrev pub placed_if : {X : Type 0} → Bool → CellKey × Option X → Option (CellKey × X)
placed_if wanted e = if wanted then option_map (λ x. (e.0, x)) e.1 else None

-- the key of a change that empties
abbrev pub emptied_by : {X : Type 0} → CellKey × Option X → Option CellKey
emptied_by e = if is_none e.1 then Some e.0 else None

-- of changes, the cells that they place where nothing is kept, those that they place over others, and the keys that they empty
abbrev pub fresh_of : {X : Type 0} → BTreeMap CellKey X → List (CellKey × Option X) → List (CellKey × X)
fresh_of cells es = filter_map (λ e. placed_if (is_none (tree.get key_cmp cells e.0)) e) es

abbrev pub over_of : {X : Type 0} → BTreeMap CellKey X → List (CellKey × Option X) → List (CellKey × X)
over_of cells es = filter_map (λ e. placed_if (is_some (tree.get key_cmp cells e.0)) e) es

abbrev pub emptied_of : {X : Type 0} → List (CellKey × Option X) → List CellKey
emptied_of es = filter_map emptied_by es
