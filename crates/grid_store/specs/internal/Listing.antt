-- How far the cells of a block have been found.
use Rattle.std.specs.Prelude.{◌≡◌, ℕ, ◌+◌, ◌<◌, ◌≤◌, ◌&&◌, Bool, true, if◌then◌else◌, List, [], ◌∷◌, Option, Some, None, IsSome, option_copied, filter_map, Vec}
use Rattle.std.specs.Global.{Global}
use Rattle.std.specs.Borrow.{Bor}
use Rattle.std.specs.BTreeMap as tree
use Rattle.std.specs.BTreeMap.{is_at}
use Rattle.std.specs.Map.{keys_of, lookup}
use Rattle.std.specs.List.Sorted.{IsStrictlySortedBy}
use Rattle.std.specs.FinMap as map
use Rattle.std.specs.Ordering.{is_lt}
use Rattle.cell_addr.specs.Order.{place_cmp}
use Rattle.cell_addr.specs.Place.{covers}
use Rattle.cell_addr.specs.declared.place.Block.{Block}
use Rattle.cell_addr.specs.declared.place.Place.{Place}
use Rattle.shift_core.specs.Maps.{PlaceMap}
use Rattle.stable_lines.specs.Lines.{line_at}
use Rattle.stable_lines.specs.declared.run.Run.{Run}
use Rattle.stable_lines.specs.declared.table.LineTable.{LineTable}
use Rattle.grid_store.specs.Keys.{key_cmp, place_at}
use Rattle.grid_store.specs.Grid.{placed}
use Rattle.grid_store.specs.declared.key.CellKey.{CellKey}
use Rattle.grid_store.specs.declared.view.View.{View}
use Rattle.grid_store.specs.internal.Lists.{or_else}

-- the map that is seen
abbrev pub shown : {X : Type 0} → View X → PlaceMap X
shown v = map.from_entries (filter_map (placed v.rows.now v.cols.now) v.cells.now.entries)

-- cells that were found, in the order in which they were
abbrev pub Found : Type 0 → Type 0
Found X = Vec (Place × Bor X) Global

-- what a list has at a place: the first that it has there
abbrev pub look_in : {X : Type 0} → List (Place × Bor X) → Place → Option X
look_in es q = option_copied (lookup (is_at (place_cmp q)) es)

-- what was found at a place
abbrev pub look : {X : Type 0} → Found X → Place → Option X
look found q = look_in found.items q

-- two lists have the same at each place
abbrev pub HasSame : {X : Type 0} → List (Place × Bor X) → List (Place × Bor X) → Type 0
HasSame es fs = (q : Place) → look_in fs q ≡ look_in es q

-- a list is in the order of its places, each once
abbrev pub IsInOrder : {X : Type 0} → List (Place × X) → Type 0
IsInOrder es = IsStrictlySortedBy place_cmp (keys_of es)

-- the place comes after the one before it, if there is one
abbrev pub follows : Option Place → Place → Bool
follows None p = true
follows (Some last) p = is_lt (place_cmp last p)

-- each place of a list comes after the one before it, and the first after another, if there is one
abbrev pub rises : {X : Type 0} → Option Place → List (Place × X) → Bool
rises last [] = true
rises last (e ∷ es) = follows last e.0 && rises (Some e.0) es

-- all that was found is in the block, and is what the map has there
abbrev pub AreCellsOf : {X : Type 0} → Block → PlaceMap X → Found X → Type 0
AreCellsOf area m found = (q : Place) (c : _) → look found q ≡ Some c → (covers area q ≡ true) × (map.get m q ≡ Some c)

-- the block's cells of the rows from `low` to before `high` are found
abbrev pub HasRows : {X : Type 0} → Block → PlaceMap X → ℕ → ℕ → Found X → Type 0
HasRows area m low high found =
    (q : Place) → covers area q ≡ true → IsSome (map.get m q) → low ≤ q.row → q.row < high → IsSome (look found q)

-- what was found before is found still
abbrev pub StillHas : {X : Type 0} → Found X → Found X → Type 0
StillHas old new = (q : Place) → IsSome (look old q) → IsSome (look new q)

-- the lines of the run stand from its first number on
abbrev pub AreLinesAt : LineTable → Run → Type 0
AreLinesAt t r = (i : ℕ) → i < r.count → line_at t (r.from + i) ≡ Some (r.to + i)

-- the run begins at the block's first column and has its last
abbrev pub SpansColumns : Block → Run → Type 0
SpansColumns area r = (r.from ≡ area.left) × (area.right < r.from + r.count)

-- the cell is added at its place, unless one was found there, and all else is as it was
abbrev pub IsAdded : {X : Type 0} → Found X → Place → X → Found X → Type 0
IsAdded old at cell new = (q : Place) → look new q ≡ or_else (look old q) (if is_at (place_cmp at) q then Some cell else None)

-- the block's cells of the columns from `low` to before `high` are found
abbrev pub HasColumns : {X : Type 0} → Block → PlaceMap X → ℕ → ℕ → Found X → Type 0
HasColumns area m low high found =
    (q : Place) → covers area q ≡ true → IsSome (map.get m q) → low ≤ q.col → q.col < high → IsSome (look found q)

-- the map has nothing in the block's columns from `low` to before `high`
abbrev pub LacksColumns : {X : Type 0} → Block → PlaceMap X → ℕ → ℕ → Type 0
LacksColumns area m low high = (q : Place) → covers area q ≡ true → IsSome (map.get m q) → low ≤ q.col → q.col < high → ⊥

-- the map has nothing in the block's rows from `low` to before `high`
abbrev pub HasNone : {X : Type 0} → Block → PlaceMap X → ℕ → ℕ → Type 0
HasNone area m low high = (q : Place) → covers area q ≡ true → IsSome (map.get m q) → low ≤ q.row → q.row < high → ⊥

-- the block's cells on lines of rows from `low` to before `high` are found
abbrev pub HasLines : {X : Type 0} → View X → Block → ℕ → ℕ → Found X → Type 0
HasLines v area low high found =
    (k : CellKey) (q : Place) → IsSome (tree.get key_cmp v.cells.now k) → place_at v.rows.now v.cols.now k ≡ Some q → covers area q ≡ true → low ≤ k.row → k.row < high → IsSome (look found q)

-- the block's cells on one line of rows, in the columns from `low` to before `high`, are found
abbrev pub HasCols : {X : Type 0} → View X → Block → ℕ → ℕ → ℕ → Found X → Type 0
HasCols v area row low high found =
    (k : CellKey) (q : Place) → IsSome (tree.get key_cmp v.cells.now k) → k.row ≡ row → place_at v.rows.now v.cols.now k ≡ Some q → covers area q ≡ true → low ≤ q.col → q.col < high → IsSome (look found q)

-- no cell is kept on the sheet's lines of rows from `low` to before `high`
abbrev pub KeepsNone : {X : Type 0} → View X → ℕ → ℕ → ℕ → Type 0
KeepsNone v sheet low high = (k : CellKey) → IsSome (tree.get key_cmp v.cells.now k) → k.sheet ≡ sheet → low ≤ k.row → k.row < high → ⊥

-- no cell of the block is on lines of rows from `low` to before `high`
abbrev pub LacksLines : {X : Type 0} → View X → Block → ℕ → ℕ → Type 0
LacksLines v area low high = (k : CellKey) (q : Place) → IsSome (tree.get key_cmp v.cells.now k) → place_at v.rows.now v.cols.now k ≡ Some q → covers area q ≡ true → low ≤ k.row → k.row < high → ⊥

-- no cell of the block is on one line of rows, in the columns from `low` to before `high`
abbrev pub LacksCols : {X : Type 0} → View X → Block → ℕ → ℕ → ℕ → Type 0
LacksCols v area row low high =
    (k : CellKey) (q : Place) → IsSome (tree.get key_cmp v.cells.now k) → k.row ≡ row → place_at v.rows.now v.cols.now k ≡ Some q → covers area q ≡ true → low ≤ q.col → q.col < high → ⊥
