-- How far a block's cells are found, key by key of its rows. Serves the lists of cells.
use Rattle.std.proofs.Common.{◌≡◌, ◌∙◌, sym, ap, refl, subst, ℕ, ◌+◌, ◌-◌, ◌<◌, ◌≤◌, ◌⊎◌, inl, inr, Bool, true, false, cond, List, [], ◌∷◌, Option, Some, None, IsSome, is_some, not, ◌&&◌, arith}
use Rattle.std.specs.Borrow.{Bor}
use Rattle.std.specs.BTreeMap.Range.{IsEntryInRange, IsRangeOf, entries_between, range_contains}
use Rattle.std.specs.Ordering.{is_gt, is_le, nat_cmp, ordering_then}
use Rattle.std.specs.declared.cmp.Ordering.TheVariants.{Less}
use Rattle.std.specs.Prelude.{IfSome, slice_get}
use Rattle.std.specs.declared.ops.Bound.{Bound}
use Rattle.std.specs.declared.ops.Bound.TheVariants.{Included, Excluded}
use Rattle.std.proofs.lemmas.Bool.Decides.{nat_tests}
use Rattle.std.proofs.lemmas.Map.Entries.{lookup-filter-keys}
use Rattle.std.proofs.lemmas.Map.Made.{keys_of-map_values, lookup-map_values}
use Rattle.std.specs.List.Sorted.{IsStrictlySortedBy}
use Rattle.std.specs.BTreeMap.{BTreeMap, is_at}
use Rattle.std.specs.FinMap as map
use Rattle.std.specs.List.{All, AllByRecursion}
use Rattle.std.proofs.lemmas.List.Elements.{recursion_from_All}
use Rattle.std.proofs.lemmas.Bool.{both_ways}
use Rattle.std.proofs.lemmas.Option.{same_Some}
use Rattle.cell_addr.specs.Order.{place_cmp}
use Rattle.cell_addr.specs.Place.{Covers, covers}
use Rattle.cell_addr.specs.declared.place.Block.{Block}
use Rattle.cell_addr.specs.declared.place.Place.{Place}
use Rattle.cell_addr.specs.declared.place.TheConstants.{ROWS, COLS}
use Rattle.cell_addr.proofs.Entries.{entries-from_entries, lookup-from_entries}
use Rattle.shift_core.specs.Maps.{PlaceMap}
use Rattle.cell_addr.proofs.Places.{place_cmp-IsTotalOrder, place_cmp-IsAntisymmetric}
use Rattle.shift_core.proofs.CarriedEntries.{eq_by_cmp-decides}
use Rattle.shift_core.proofs.CellMoves.{Covers-from_covers}
use Rattle.stable_lines.specs.Lines.{line_at}
use Rattle.stable_lines.specs.Sheets.{table_of}
use Rattle.stable_lines.specs.declared.run.Run.{Run}
use Rattle.stable_lines.specs.declared.sheets.SheetLines.{SheetLines}
use Rattle.grid_store.specs.Grid.{HasAny, seen_items}
use Rattle.grid_store.specs.Keys.{key_at, key_cmp, place_at}
use Rattle.grid_store.specs.declared.key.CellKey.{CellKey}
use Rattle.grid_store.specs.internal.Listing.{AreCellsOf, AreLinesAt, Found, HasNone, HasRows, IsAdded, IsInOrder, StillHas, look, look_in}
use Rattle.grid_store.specs.internal.Lists.{or_else}
use Rattle.grid_store.proofs.KeyOrder.{key_cmp-IsTotalOrder, key_cmp-IsAntisymmetric}
use Rattle.grid_store.proofs.KeyPlaces.{inside_key, key_col, key_line, key_of_place, key_sheet, place_of_key}
use Rattle.grid_store.proofs.Views.{get-seen_at, kept, key_of_seen, seen}

sum : (a b : ℕ) → b ≤ a → a ≡ b + (a - b)
sum a b le = omega arith

-- the key is of the sheet, and the line of its row is one of these
abbrev pub IsOn : ℕ → Run → CellKey → Type 0
IsOn sheet lines k = (k.sheet ≡ sheet) × (lines.to ≤ k.row) × (k.row < lines.to + lines.count)

-- the key is of the sheet and of this line of rows, and the line of its column is one of these
abbrev pub IsIn : ℕ → ℕ → Run → CellKey → Type 0
IsIn sheet row lines k = (k.sheet ≡ sheet) × (k.row ≡ row) × (lines.to ≤ k.col) × (k.col < lines.to + lines.count)

-- the block's cells under some keys, as far as these have been gone through
pub record Progress {X : Type 0} (rows cols : SheetLines) (es : List (CellKey × X)) (area : Block) (IsSought : CellKey → Type 0) (before found : Found X) (rest : List (CellKey × X)) : Type 0 where
  pub cells : AreCellsOf area (seen rows cols es) found
  pub still : StillHas before found
  pub entries : AllByRecursion (λ e. kept es e.0 ≡ Some e.1) rest
  pub pending : (k : CellKey) (q : Place) → IsSome (kept es k) → IsSought k → place_at rows cols k ≡ Some q → covers area q ≡ true → IsSome (look found q) ⊎ IsSome (kept rest k)

-- the key of a place in the block is on the lines of its row
on_lines : (rows cols : SheetLines) (area : Block) (lines : Run) (q : Place) (k : CellKey) → AreLinesAt (table_of rows area.sheet) lines → Covers area q → key_at rows cols q ≡ Some k → lines.from ≤ q.row → q.row < lines.from + lines.count
    → IsOn area.sheet lines k
on_lines rows cols area lines q k lines_at c key low high =
    let line : line_at (table_of rows q.sheet) q.row ≡ Some k.row = key_line rows cols q k key in
    let at : line_at (table_of rows area.sheet) q.row ≡ Some (lines.to + (q.row - lines.from)) =
    ap (line_at (table_of rows area.sheet)) (sum q.row lines.from low) ∙ lines_at (q.row - lines.from) (omega arith) in
    let row : k.row ≡ lines.to + (q.row - lines.from) = same_Some k.row _ (sym line ∙ ap (λ s. line_at (table_of rows s) q.row) (sym c.0) ∙ at) in
    (sym (key_sheet rows cols q k key) ∙ sym c.0, omega arith, omega arith)

-- the key of a place in the block is on the line of its column
pub in_lines : (rows cols : SheetLines) (area : Block) (row : ℕ) (lines : Run) (q : Place) (k : CellKey) → AreLinesAt (table_of cols area.sheet) lines → Covers area q → key_at rows cols q ≡ Some k → k.row ≡ row → lines.from ≤ q.col → q.col < lines.from + lines.count
    → IsIn area.sheet row lines k
in_lines rows cols area row lines q k lines_at c key on low high =
    let line : line_at (table_of cols q.sheet) q.col ≡ Some k.col = key_col rows cols q k key in
    let at : line_at (table_of cols area.sheet) q.col ≡ Some (lines.to + (q.col - lines.from)) =
    ap (line_at (table_of cols area.sheet)) (sum q.col lines.from low) ∙ lines_at (q.col - lines.from) (omega arith) in
    let col : k.col ≡ lines.to + (q.col - lines.from) = same_Some k.col _ (sym line ∙ ap (λ s. line_at (table_of cols s) q.col) (sym c.0) ∙ at) in
    (sym (key_sheet rows cols q k key) ∙ sym c.0, on, omega arith, omega arith)

pub same_place_test : (p q : Place) → (is_at (place_cmp p) q ≡ true) → p ≡ q
same_place_test p q h = (eq_by_cmp-decides place_cmp-IsTotalOrder place_cmp-IsAntisymmetric p q).0 h

same_key_test : (k l : CellKey) → (is_at (key_cmp k) l ≡ true) → k ≡ l
same_key_test k l h = (eq_by_cmp-decides key_cmp-IsTotalOrder key_cmp-IsAntisymmetric k l).0 h

-- what is found once a cell is added
pub added_cell : {X : Type 0} (rows cols : SheetLines) (es : List (CellKey × X)) (area : Block) (at q : Place) (cell c : X) (b : Bool) (before : Option X) → is_at (place_cmp at) q ≡ b → covers area at ≡ true → map.get (seen rows cols es) at ≡ Some cell
    → (before ≡ Some c → (covers area q ≡ true) × (map.get (seen rows cols es) q ≡ Some c)) → or_else before (cond b (Some cell) None) ≡ Some c
    → (covers area q ≡ true) × (map.get (seen rows cols es) q ≡ Some c)
added_cell rows cols es area at q cell c b (Some x) same there here others h = others h
added_cell rows cols es area at q cell c true None same there here others h =
    let e = same_place_test at q same in
    (ap (covers area) (sym e) ∙ there, ap (map.get (seen rows cols es)) (sym e) ∙ here ∙ h)
added_cell rows cols es area at q cell c false None same there here others h = cc

pub still_or : {X : Type 0} (r s : Option X) → IsSome r → IsSome (or_else r s)
still_or None s h = cc
still_or (Some x) s h = refl

-- what is found at a place once a cell is added there
added_there : {X : Type 0} (r : Option X) (c : X) → IsSome (or_else r (Some c))
added_there None c = refl
added_there (Some x) c = refl

pub found_there : {X : Type 0} (found new : Found X) (at q : Place) (c : X) → at ≡ q → IsAdded found at c new → IsSome (look new q)
found_there found new at q c same added =
    let hit : is_at (place_cmp at) q ≡ true = (eq_by_cmp-decides place_cmp-IsTotalOrder place_cmp-IsAntisymmetric at q).1 same in
    subst IsSome (sym (added q ∙ ap (λ b. or_else (look found q) (cond b (Some c) None)) hit)) (added_there (look found q) c)

module _ {X : Type 0} (rows cols : SheetLines) (es : List (CellKey × X)) (area : Block) (IsSought : CellKey → Type 0) (before : Found X) where
  -- the first of what is left is not in the block
  passed_on : (e : CellKey × X) (rest : List (CellKey × X)) (k : CellKey) (q : Place) (b : Bool) (P : Type 0) → is_at (key_cmp k) e.0 ≡ b → (place_at rows cols e.0 ≡ Some q → covers area q ≡ true → ⊥)
      → place_at rows cols k ≡ Some q → covers area q ≡ true → IsSome (cond b (Some e.1) (kept rest k)) → P ⊎ IsSome (kept rest k)
  passed_on e rest k q true P same out at there some = absurd (out (ap (place_at rows cols) (sym (same_key_test k e.0 same)) ∙ at) there)
  passed_on e rest k q false P same out at there some = inr some

  pub pass : (found : Found X) (e : CellKey × X) (rest : List (CellKey × X)) → Progress rows cols es area IsSought before found (e ∷ rest)
      → ((q : Place) → place_at rows cols e.0 ≡ Some q → covers area q ≡ true → ⊥) → Progress rows cols es area IsSought before found rest
  pass found e rest p out = record {
    cells = p.cells;
    still = p.still;
    entries = p.entries.1;
    pending = λ k q some on at there. elim (p.pending k q some on at there) [
      | inl h ↦ inl h
      | inr h ↦ passed_on e rest k q (is_at (key_cmp k) e.0) (IsSome (look found q)) refl (out q) at there h
    ];
  }

  -- the first of what is left is added
  added_pending : (found new : Found X) (e : CellKey × X) (rest : List (CellKey × X)) (at : Place) (k : CellKey) (q : Place) (b : Bool) → is_at (key_cmp k) e.0 ≡ b → place_at rows cols e.0 ≡ Some at
      → IsAdded found at e.1 new → place_at rows cols k ≡ Some q → IsSome (cond b (Some e.1) (kept rest k)) → IsSome (look new q) ⊎ IsSome (kept rest k)
  added_pending found new e rest at k q true same here added there some =
      inl (found_there found new at q e.1 (same_Some at q (sym here ∙ ap (place_at rows cols) (sym (same_key_test k e.0 same)) ∙ there)) added)
  added_pending found new e rest at k q false same here added there some = inr some

  pub take_up : (found new : Found X) (e : CellKey × X) (rest : List (CellKey × X)) (at : Place) → Progress rows cols es area IsSought before found (e ∷ rest)
      → place_at rows cols e.0 ≡ Some at → covers area at ≡ true → IsAdded found at e.1 new → Progress rows cols es area IsSought before new rest
  take_up found new e rest at p here there added = record {
    cells = λ q c h. added_cell rows cols es area at q e.1 c (is_at (place_cmp at) q) (look found q) refl there (get-seen_at rows cols es at e.0 (key_of_place rows cols e.0 at here) ∙ p.entries.0) (p.cells q c) (sym (added q) ∙ h);
    still = λ q some. subst IsSome (sym (added q)) (still_or (look found q) (cond (is_at (place_cmp at) q) (Some e.1) None) (p.still q some));
    entries = p.entries.1;
    pending = λ k q some on at' in_area. elim (p.pending k q some on at' in_area) [
      | inl h ↦ inl (subst IsSome (sym (added q)) (still_or (look found q) (cond (is_at (place_cmp at) q) (Some e.1) None) h))
      | inr h ↦ added_pending found new e rest at k q (is_at (key_cmp k) e.0) refl here added at' h
    ];
  }

-- where no key is left, all cells on the lines are found
pub gone_through : {X : Type 0} (rows cols : SheetLines) (es : List (CellKey × X)) (area : Block) (row : ℕ) (lines : Run) (before found : Found X) → Progress rows cols es area (IsIn area.sheet row lines) before found [] → AreLinesAt (table_of cols area.sheet) lines
    → (k : CellKey) (q : Place) → IsSome (kept es k) → k.row ≡ row → place_at rows cols k ≡ Some q → covers area q ≡ true → lines.from ≤ q.col → q.col < lines.from + lines.count → IsSome (look found q)
gone_through rows cols es area row lines before found p lines_at k q some on at there low high =
    elim (p.pending k q some (in_lines rows cols area row lines q k lines_at (Covers-from_covers area q there) (key_of_place rows cols k q at) on low high) at there) [
      | inl h ↦ h
      | inr h ↦ cc
    ]

pub both : (a b : Bool) → a ≡ true → b ≡ false → (a && not b) ≡ true
both true false e f = refl
both true true e f = cc
both false b e f = cc

values_only : {X : Type 0} (lo hi : Bound CellKey) (m : BTreeMap CellKey X) (rest : List (CellKey × X)) → AllByRecursion (IsEntryInRange key_cmp lo hi m) rest → AllByRecursion (λ e. kept m.entries e.0 ≡ Some e.1) rest
values_only lo hi m [] h = tt
values_only lo hi m (e ∷ rest) h = (h.0.1, values_only lo hi m rest h.1)

-- the first key on one line of rows and some lines of columns, and the first past them
abbrev pub first_in : ℕ → ℕ → Run → CellKey
first_in sheet row lines = record { sheet = sheet; row = row; col = lines.to }

abbrev pub end_in : ℕ → ℕ → Run → CellKey
end_in sheet row lines = record { sheet = sheet; row = row; col = lines.to + lines.count }

from_first_in : (sheet a b c r s : ℕ) → s ≡ sheet → r ≡ b → a ≤ c → is_le (ordering_then (nat_cmp sheet s) (ordering_then (nat_cmp b r) (nat_cmp a c))) ≡ true
from_first_in sheet a b c r s e f le = grind (arith, nat_tests)

before_end_in : (sheet a b c r s : ℕ) → s ≡ sheet → r ≡ b → c < a → is_le (ordering_then (nat_cmp sheet s) (ordering_then (nat_cmp b r) (nat_cmp a c))) ≡ false
before_end_in sheet a b c r s e f lt = grind (arith, nat_tests)

pub in_range : (sheet row : ℕ) (lines : Run) (k : CellKey) → IsIn sheet row lines k → range_contains key_cmp (Included (first_in sheet row lines)) (Excluded (end_in sheet row lines)) k ≡ true
in_range sheet row lines k on =
    both _ _ (from_first_in sheet lines.to row k.col k.row k.sheet on.0 on.1 on.2) (before_end_in sheet (lines.to + lines.count) row k.col k.row k.sheet on.0 on.1 on.3)

-- a key of a range is kept as it is in the whole
kept_between : {X : Type 0} (low high : Bound CellKey) (es : List (CellKey × X)) (k : CellKey) → range_contains key_cmp low high k ≡ true → kept (entries_between key_cmp low high es) k ≡ kept es k
kept_between low high es k inside =
    lookup-filter-keys (is_at (key_cmp k)) (range_contains key_cmp low high) true (λ l same. ap (range_contains key_cmp low high) (sym (same_key_test k l same)) ∙ inside) es

-- before the first key, where those that are sought are of the range
pub begun : {X : Type 0} (rows cols : SheetLines) (m : BTreeMap CellKey X) (area : Block) (IsSought : CellKey → Type 0) (low high : Bound CellKey) (found : Found X) (range rest : List (CellKey × X)) → AreCellsOf area (seen rows cols m.entries) found
    → ((k : CellKey) → IsSought k → range_contains key_cmp low high k ≡ true) → rest ≡ range → range ≡ entries_between key_cmp low high m.entries
    → All (IsEntryInRange key_cmp low high m) range → Progress rows cols m.entries area IsSought found found rest
begun rows cols m area IsSought low high found range rest cells inside same between all = record {
  cells = cells;
  still = λ q some. some;
  entries = subst (AllByRecursion (λ e. kept m.entries e.0 ≡ Some e.1)) (sym same) (values_only low high m range (recursion_from_All (IsEntryInRange key_cmp low high m) range all));
  pending = λ k q some on at there. inr (subst IsSome (sym (ap (λ r. kept r k) (same ∙ between) ∙ kept_between low high m.entries k (inside k on))) some);
}

in_sheet : (sheet low high s r c : ℕ) → is_gt (ordering_then (nat_cmp sheet s) (ordering_then (nat_cmp low r) (nat_cmp 0 c))) ≡ false → ordering_then (nat_cmp s sheet) (ordering_then (nat_cmp r high) (nat_cmp c 0)) ≡ Less
    → (s ≡ sheet) × (low ≤ r) × (r < high)
in_sheet sheet low high s r c from upto = (grind (arith, nat_tests), grind (arith, nat_tests), grind (arith, nat_tests))

in_rows : (sheet low high s r c : ℕ) → s ≡ sheet → low ≤ r → r < high
    → (is_gt (ordering_then (nat_cmp sheet s) (ordering_then (nat_cmp low r) (nat_cmp 0 c))) ≡ false) × (ordering_then (nat_cmp s sheet) (ordering_then (nat_cmp r high) (nat_cmp c 0)) ≡ Less)
in_rows sheet low high s r c e f g = (grind (arith, nat_tests), grind (arith, nat_tests))

pub row_order : (sheet s t a b c d : ℕ) → s ≡ sheet → t ≡ sheet → is_gt (ordering_then (nat_cmp s t) (ordering_then (nat_cmp a b) (nat_cmp c d))) ≡ false → a ≤ b
row_order sheet s t a b c d e f g = grind (arith, nat_tests)

abbrev pub RowsRange : {X : Type 0} → BTreeMap CellKey X → ℕ → ℕ → ℕ → List (CellKey × X) → Type 0
RowsRange m sheet low high range = IsRangeOf key_cmp (Included (record { sheet = sheet; row = low; col = 0 })) (Excluded (record { sheet = sheet; row = high; col = 0 })) m range

-- the first key of some rows' range is of those rows, and none of the rows before it has a key
pub first_row : {X : Type 0} (m : BTreeMap CellKey X) (sheet low high : ℕ) (e : CellKey × X) (rest range : List (CellKey × X)) → range ≡ e ∷ rest → RowsRange m sheet low high range
    → (low ≤ e.0.row) × (e.0.row < high) × ((k : CellKey) → IsSome (kept m.entries k) → k.sheet ≡ sheet → low ≤ k.row → k.row < e.0.row → ⊥)
first_row {X = X} m sheet low high e rest range is parts =
    let one : IsEntryInRange key_cmp (Included (record { sheet = sheet; row = low; col = 0 })) (Excluded (record { sheet = sheet; row = high; col = 0 })) m e =
    subst (λ (r : List (CellKey × X)). IfSome (slice_get r 0) (IsEntryInRange key_cmp (Included (record { sheet = sheet; row = low; col = 0 })) (Excluded (record { sheet = sheet; row = high; col = 0 })) m)) is parts.1 in
    let own = in_sheet sheet low high e.0.sheet e.0.row e.0.col one.0.0 one.0.1 in (
      own.1,
      own.2,
      λ k some on from under.
          let ahead : IfSome (slice_get (e ∷ rest) 0) (λ f. is_gt (key_cmp f.0 k) ≡ false) =
          subst (λ (r : List (CellKey × X)). IfSome (slice_get r 0) (λ f. is_gt (key_cmp f.0 k) ≡ false)) is (parts.2 k (in_rows sheet low high k.sheet k.row k.col on from (omega (arith, under, own.2))) some) in
          let order = row_order sheet e.0.sheet k.sheet e.0.row k.row e.0.col k.col own.0 on ahead in absurd (omega (arith, order, under)),
    )

-- where the range is empty, none of the rows has a key
pub no_row : {X : Type 0} (m : BTreeMap CellKey X) (sheet low high : ℕ) (range : List (CellKey × X)) → range ≡ [] → RowsRange m sheet low high range
    → (k : CellKey) → IsSome (kept m.entries k) → k.sheet ≡ sheet → low ≤ k.row → k.row < high → ⊥
no_row m sheet low high range is parts k some on from under =
    both_ways _ (ap is_some (parts.5 is k (in_rows sheet low high k.sheet k.row k.col on from under))) some

pub cases_lt : (a b : ℕ) → (a < b) ⊎ (b ≤ a)
cases_lt a b = grind arith

less : (a b c d : ℕ) → c ≡ d → a < d → c ≤ b → a < b
less a b c d e h k = omega arith

-- the key of a cell in the block is of its sheet
pub covers_sheet : (rows cols : SheetLines) (area : Block) (k : CellKey) (q : Place) → place_at rows cols k ≡ Some q → covers area q ≡ true → k.sheet ≡ area.sheet
covers_sheet rows cols area k q at there = sym (key_sheet rows cols q k (key_of_place rows cols k q at)) ∙ sym (Covers-from_covers area q there).0

-- past the sheet's last column no cell stands
pub stands_before : (rows cols : SheetLines) → rows.plain.limit ≡ ROWS → cols.plain.limit ≡ COLS → (sheet col : ℕ) → (col < (table_of cols sheet).limit → ⊥)
    → (k : CellKey) (q : Place) → place_at rows cols k ≡ Some q → q.col < col
stands_before rows cols rl cl sheet col past k q at =
    let i = inside_key rows cols rl cl q k (key_of_place rows cols k q at) in
    let limit : (table_of cols sheet).limit ≡ COLS = cols.limits sheet ∙ cl in
    elim (cases_lt col (table_of cols sheet).limit) [
      | inl short ↦ absurd (past short)
      | inr long ↦ less q.col col (table_of cols sheet).limit COLS limit i.1 long
    ]

-- where the cells on the lines of some rows are found, those of the rows are
pub rows_found : {X : Type 0} (rows cols : SheetLines) (es : List (CellKey × X)) (area : Block) (lines : Run) (found : Found X) → AreLinesAt (table_of rows area.sheet) lines
    → ((k : CellKey) (q : Place) → IsSome (kept es k) → place_at rows cols k ≡ Some q → covers area q ≡ true → lines.to ≤ k.row → k.row < lines.to + lines.count → IsSome (look found q))
    → HasRows area (seen rows cols es) lines.from (lines.from + lines.count) found
rows_found rows cols es area lines found lines_at h q there some low high =
    let w = key_of_seen rows cols es q some in
    let on = on_lines rows cols area lines q w.0 lines_at (Covers-from_covers area q there) w.1 low high in
    h w.0 q w.2 (place_of_key rows cols q w.0 w.1) there on.1 on.2

-- what is found at a place, where all of the block is
module _ {X : Type 0} (area : Block) (m : PlaceMap X) (found : Found X) (cells : AreCellsOf area m found) (rows : HasRows area m 0 (area.bottom + 1) found) where
  found-by : (q : Place) (b : Bool) (r s : Option X) → covers area q ≡ b → look found q ≡ r → map.get m q ≡ s → r ≡ cond b s None
  found-by q true None None e f g = refl
  found-by q true None (Some c) e f g =
      let w = Covers-from_covers area q e in
      let there = rows q e (ap is_some g) (omega arith) (omega arith) in absurd (both_ways _ (ap is_some f) there)
  found-by q false None s e f g = refl
  found-by q true (Some c) s e f g = sym ((cells q c f).1) ∙ g
  found-by q false (Some c) s e f g = absurd (both_ways _ e (cells q c f).0)

  pub all_found : (q : Place) → look found q ≡ cond (covers area q) (map.get m q) None
  all_found q = found-by q (covers area q) (look found q) (map.get m q) refl refl refl

-- what is found are the entries of a block, where it is at each place
pub entries_found : {X : Type 0} (area : Block) (m : PlaceMap X) (found : List (Place × Bor X)) → ((q : Place) → look_in found q ≡ cond (covers area q) (map.get m q) None) → IsInOrder found
    → seen_items found ≡ map.entries (map.retain_keys m (covers area))
entries_found area m found there ordered =
    let es = seen_items found in
    sym (entries-from_entries place_cmp-IsTotalOrder es (subst (IsStrictlySortedBy place_cmp) (sym (keys_of-map_values (λ b. b.now) found)) ordered))
    ∙ ap map.entries (map.same_map place_cmp-IsTotalOrder place_cmp-IsAntisymmetric (map.from_entries es) (map.retain_keys m (covers area)) (λ q.
    sym (lookup-from_entries place_cmp-IsTotalOrder es q) ∙ lookup-map_values (λ b. b.now) (is_at (place_cmp q)) found ∙ there q
    ∙ sym (map.get-retain_keys m (covers area) q (λ x t. ap (covers area) (sym (place_cmp-IsAntisymmetric q x t))))))

-- past the sheet's last row no cell is seen
pub seen_below : {X : Type 0} (rows cols : SheetLines) (es : List (CellKey × X)) → rows.plain.limit ≡ ROWS → cols.plain.limit ≡ COLS → (sheet row : ℕ) → (row < (table_of rows sheet).limit → ⊥)
    → (q : Place) → IsSome (map.get (seen rows cols es) q) → q.row < row
seen_below rows cols es rl cl sheet row past q some =
    let w = key_of_seen rows cols es q some in
    let i = inside_key rows cols rl cl q w.0 w.1 in
    let limit : (table_of rows sheet).limit ≡ ROWS = rows.limits sheet ∙ rl in
    elim (cases_lt row (table_of rows sheet).limit) [
      | inl short ↦ absurd (past short)
      | inr long ↦ less q.row row (table_of rows sheet).limit ROWS limit i.0 long
    ]

-- keys on some lines gone through, none of which is in the block
pub record Search {X : Type 0} (rows cols : SheetLines) (es : List (CellKey × X)) (area : Block) (row : ℕ) (lines : Run) (rest : List (CellKey × X)) : Type 0 where
  pub entries : AllByRecursion (λ e. kept es e.0 ≡ Some e.1) rest
  pub pending : (k : CellKey) (q : Place) → IsSome (kept es k) → IsIn area.sheet row lines k → place_at rows cols k ≡ Some q → covers area q ≡ true → IsSome (kept rest k)

pub search_begun : {X : Type 0} (rows cols : SheetLines) (m : BTreeMap CellKey X) (area : Block) (row : ℕ) (lines : Run) (range rest : List (CellKey × X))
    → rest ≡ range → range ≡ entries_between key_cmp (Included (first_in area.sheet row lines)) (Excluded (end_in area.sheet row lines)) m.entries
    → All (IsEntryInRange key_cmp (Included (first_in area.sheet row lines)) (Excluded (end_in area.sheet row lines)) m) range → Search rows cols m.entries area row lines rest
search_begun rows cols m area row lines range rest same between all = record {
  entries = subst (AllByRecursion (λ e. kept m.entries e.0 ≡ Some e.1)) (sym same) (values_only (Included (first_in area.sheet row lines)) (Excluded (end_in area.sheet row lines)) m range (recursion_from_All (IsEntryInRange key_cmp (Included (first_in area.sheet row lines)) (Excluded (end_in area.sheet row lines)) m) range all));
  pending = λ k q some on at there. subst IsSome (sym (ap (λ r. kept r k) (same ∙ between) ∙ kept_between (Included (first_in area.sheet row lines)) (Excluded (end_in area.sheet row lines)) m.entries k (in_range area.sheet row lines k on))) some;
}

next_pending : {X : Type 0} (rows cols : SheetLines) (area : Block) (e : CellKey × X) (rest : List (CellKey × X)) (k : CellKey) (q : Place) (b : Bool) → is_at (key_cmp k) e.0 ≡ b → (place_at rows cols e.0 ≡ Some q → covers area q ≡ true → ⊥)
    → place_at rows cols k ≡ Some q → covers area q ≡ true → IsSome (cond b (Some e.1) (kept rest k)) → IsSome (kept rest k)
next_pending rows cols area e rest k q true same out at there some = absurd (out (ap (place_at rows cols) (sym (same_key_test k e.0 same)) ∙ at) there)
next_pending rows cols area e rest k q false same out at there some = some

pub search_on : {X : Type 0} (rows cols : SheetLines) (es : List (CellKey × X)) (area : Block) (row : ℕ) (lines : Run) (e : CellKey × X) (rest : List (CellKey × X)) → Search rows cols es area row lines (e ∷ rest)
    → ((q : Place) → place_at rows cols e.0 ≡ Some q → covers area q ≡ true → ⊥) → Search rows cols es area row lines rest
search_on rows cols es area row lines e rest s out = record {
  entries = s.entries.1;
  pending = λ k q some on at there. next_pending rows cols area e rest k q (is_at (key_cmp k) e.0) refl (out q) at there (s.pending k q some on at there);
}

pub search_hit : {X : Type 0} (rows cols : SheetLines) (es : List (CellKey × X)) (area : Block) (row : ℕ) (lines : Run) (e : CellKey × X) (rest : List (CellKey × X)) (at : Place) → Search rows cols es area row lines (e ∷ rest)
    → place_at rows cols e.0 ≡ Some at → covers area at ≡ true → HasAny area (seen rows cols es)
search_hit rows cols es area row lines e rest at s here there = (at, there, ap is_some (get-seen_at rows cols es at e.0 (key_of_place rows cols e.0 at here) ∙ s.entries.0))

pub search_over : {X : Type 0} (rows cols : SheetLines) (es : List (CellKey × X)) (area : Block) (row : ℕ) (lines : Run) → Search rows cols es area row lines [] → AreLinesAt (table_of cols area.sheet) lines
    → (k : CellKey) (q : Place) → IsSome (kept es k) → k.row ≡ row → place_at rows cols k ≡ Some q → covers area q ≡ true → lines.from ≤ q.col → q.col < lines.from + lines.count → ⊥
search_over rows cols es area row lines s lines_at k q some on at there low high =
    let left = s.pending k q some (in_lines rows cols area row lines q k lines_at (Covers-from_covers area q there) (key_of_place rows cols k q at) on low high) at there in cc

-- where no cell on the lines of some rows is in the block, none of the rows' is
pub rows_none : {X : Type 0} (rows cols : SheetLines) (es : List (CellKey × X)) (area : Block) (lines : Run) → AreLinesAt (table_of rows area.sheet) lines
    → ((k : CellKey) (q : Place) → IsSome (kept es k) → place_at rows cols k ≡ Some q → covers area q ≡ true → lines.to ≤ k.row → k.row < lines.to + lines.count → ⊥)
    → HasNone area (seen rows cols es) lines.from (lines.from + lines.count)
rows_none rows cols es area lines lines_at h q there some low high =
    let w = key_of_seen rows cols es q some in
    let on = on_lines rows cols area lines q w.0 lines_at (Covers-from_covers area q there) w.1 low high in
    h w.0 q w.2 (place_of_key rows cols q w.0 w.1) there on.1 on.2
