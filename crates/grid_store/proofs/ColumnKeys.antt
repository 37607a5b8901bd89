-- How far a block's cells are found, turned key by turned key of its columns. Serves lists of cells, and whether there are any.
use Rattle.std.proofs.Common.{◌≡◌, ◌∙◌, sym, ap, refl, subst, ℕ, ◌+◌, ◌<◌, ◌≤◌, ◌⊎◌, inl, inr, ◌||◌, Bool, true, false, cond, List, [], ◌∷◌, Some, None, IsSome, arith}
use Rattle.std.specs.BTreeMap.{BTreeMap, is_at}
use Rattle.std.specs.BTreeMap.Range.{range_contains}
use Rattle.std.specs.BTreeSet.{BTreeSet, IsKeyInRange, contains, keys_between}
use Rattle.std.specs.FinMap as map
use Rattle.std.specs.List.{All, AllByRecursion, list_any}
use Rattle.std.specs.Ordering.{is_le, nat_cmp, ordering_then}
use Rattle.std.specs.declared.ops.Bound.{Bound}
use Rattle.std.specs.declared.ops.Bound.TheVariants.{Included, Excluded}
use Rattle.std.proofs.lemmas.Bool.Decides.{nat_tests}
use Rattle.std.proofs.lemmas.List.Elements.{recursion_from_All}
use Rattle.std.proofs.lemmas.Map.Views.{any-filter_same}
use Rattle.std.proofs.lemmas.Option.{same_Some}
use Rattle.cell_addr.specs.Order.{place_cmp}
use Rattle.cell_addr.specs.Place.{covers}
use Rattle.cell_addr.specs.declared.place.Block.{Block}
use Rattle.cell_addr.specs.declared.place.Place.{Place}
use Rattle.cell_addr.specs.declared.place.TheConstants.{ROWS, COLS}
use Rattle.shift_core.proofs.CellMoves.{Covers-from_covers}
use Rattle.stable_lines.specs.Sheets.{table_of}
use Rattle.stable_lines.specs.declared.run.Run.{Run}
use Rattle.stable_lines.specs.declared.sheets.SheetLines.{SheetLines}
use Rattle.grid_store.specs.Grid.{HasAny}
use Rattle.grid_store.specs.Keys.{key_at, key_cmp, place_at}
use Rattle.grid_store.specs.declared.key.CellKey.{CellKey}
use Rattle.grid_store.specs.internal.Listing.{AreCellsOf, AreLinesAt, Found, HasColumns, IsAdded, LacksColumns, StillHas, look}
use Rattle.grid_store.specs.internal.Turned.{AreTurned, turned}
use Rattle.grid_store.proofs.KeyPlaces.{key_of_place, place_of_key}
use Rattle.grid_store.proofs.Listings.{added_cell, both, found_there, in_lines, stands_before, still_or}
use Rattle.grid_store.proofs.TurnedKeys.{same_key}
use Rattle.grid_store.proofs.Views.{get-seen_at, kept, key_of_seen, seen}

-- the key is of the sheet, and the line of its column is one of these
abbrev pub IsOnColumns : ℕ → Run → CellKey → Type 0
IsOnColumns sheet lines k = (k.sheet ≡ sheet) × (lines.to ≤ k.col) × (k.col < lines.to + lines.count)

-- the turned key of a key is one of these
abbrev pub IsListed : CellKey → List CellKey → Type 0
IsListed k ts = list_any (is_at (key_cmp (turned k))) ts ≡ true

-- the first turned key on some lines of columns, and the first past them
abbrev pub first_on : ℕ → Run → Bound CellKey
first_on sheet lines = Included (record { sheet = sheet; row = lines.to; col = 0 })

abbrev pub end_on : ℕ → Run → Bound CellKey
end_on sheet lines = Excluded (record { sheet = sheet; row = lines.to + lines.count; col = 0 })

from_first : (sheet a c r s : ℕ) → s ≡ sheet → a ≤ c → is_le (ordering_then (nat_cmp sheet s) (ordering_then (nat_cmp a c) (nat_cmp 0 r))) ≡ true
from_first sheet a c r s e le = grind (arith, nat_tests)

before_end : (sheet a c r s : ℕ) → s ≡ sheet → c < a → is_le (ordering_then (nat_cmp sheet s) (ordering_then (nat_cmp a c) (nat_cmp 0 r))) ≡ false
before_end sheet a c r s e lt = grind (arith, nat_tests)

in_range : (sheet : ℕ) (lines : Run) (k : CellKey) → IsOnColumns sheet lines k → range_contains key_cmp (first_on sheet lines) (end_on sheet lines) (turned k) ≡ true
in_range sheet lines k on =
    both _ _ (from_first sheet lines.to k.col k.row k.sheet on.0 on.1) (before_end sheet (lines.to + lines.count) k.col k.row k.sheet on.0 on.2)

-- the turned keys on the lines are those of their range
listed_on : (sheet : ℕ) (lines : Run) (ts : BTreeSet CellKey) (k : CellKey) → IsOnColumns sheet lines k
    → list_any (is_at (key_cmp (turned k))) (keys_between key_cmp (first_on sheet lines) (end_on sheet lines) ts) ≡ contains key_cmp ts (turned k)
listed_on sheet lines ts k on =
    any-filter_same (is_at (key_cmp (turned k))) (range_contains key_cmp (first_on sheet lines) (end_on sheet lines)) true
    (λ l same. ap (range_contains key_cmp (first_on sheet lines) (end_on sheet lines)) (sym (same_key (turned k) l same)) ∙ in_range sheet lines k on) ts.keys

-- of a range of turned keys those of the kept keys on its lines are listed
all_listed : {X : Type 0} (m : BTreeMap CellKey X) (ts : BTreeSet CellKey) (sheet : ℕ) (lines : Run) (range rest : List CellKey) → AreTurned m ts → rest ≡ range → range ≡ keys_between key_cmp (first_on sheet lines) (end_on sheet lines) ts
    → (k : CellKey) → IsSome (kept m.entries k) → IsOnColumns sheet lines k → IsListed k rest
all_listed m ts sheet lines range rest turn same between k some on =
    ap (list_any (is_at (key_cmp (turned k)))) (same ∙ between) ∙ listed_on sheet lines ts k on ∙ turn k ∙ some

-- the key of a place in the block is on the line of its column
on_columns : (rows cols : SheetLines) (area : Block) (lines : Run) (q : Place) (k : CellKey) → AreLinesAt (table_of cols area.sheet) lines → covers area q ≡ true → key_at rows cols q ≡ Some k → lines.from ≤ q.col → q.col < lines.from + lines.count
    → IsOnColumns area.sheet lines k
on_columns rows cols area lines q k lines_at there key low high =
    let w = in_lines rows cols area k.row lines q k lines_at (Covers-from_covers area q there) key refl low high in (w.0, w.2, w.3)

-- the first turned key is gone by, or the key is listed behind it
gone_by : {P : Type 0} (t : CellKey) (rest : List CellKey) (k : CellKey) (b : Bool) → is_at (key_cmp (turned k)) t ≡ b → (b || list_any (is_at (key_cmp (turned k))) rest) ≡ true → (k ≡ turned t → P) → P ⊎ IsListed k rest
gone_by t rest k true same h here = inl (here (ap turned (same_key (turned k) t same)))
gone_by t rest k false same h here = inr h

-- the block's cells on some lines of columns, as far as their turned keys have been gone through
pub record Progress {X : Type 0} (rows cols : SheetLines) (es : List (CellKey × X)) (area : Block) (lines : Run) (before found : Found X) (rest : List CellKey) : Type 0 where
  pub cells : AreCellsOf area (seen rows cols es) found
  pub still : StillHas before found
  pub pending : (k : CellKey) (q : Place) → IsSome (kept es k) → IsOnColumns area.sheet lines k → place_at rows cols k ≡ Some q → covers area q ≡ true → IsSome (look found q) ⊎ IsListed k rest

-- before the first turned key
pub begun : {X : Type 0} (rows cols : SheetLines) (m : BTreeMap CellKey X) (ts : BTreeSet CellKey) (area : Block) (lines : Run) (found : Found X) (range rest : List CellKey) → AreTurned m ts → AreCellsOf area (seen rows cols m.entries) found
    → rest ≡ range → range ≡ keys_between key_cmp (first_on area.sheet lines) (end_on area.sheet lines) ts → Progress rows cols m.entries area lines found found rest
begun rows cols m ts area lines found range rest turn cells same between = record {
  cells = cells;
  still = λ q some. some;
  pending = λ k q some on at there. inr (all_listed m ts area.sheet lines range rest turn same between k some on);
}

module _ {X : Type 0} (rows cols : SheetLines) (es : List (CellKey × X)) (area : Block) (lines : Run) (before : Found X) where
  -- the first of what is left is not in the block
  pub pass : (found : Found X) (t : CellKey) (rest : List CellKey) → Progress rows cols es area lines before found (t ∷ rest)
      → ((q : Place) → IsSome (kept es (turned t)) → place_at rows cols (turned t) ≡ Some q → covers area q ≡ true → ⊥) → Progress rows cols es area lines before found rest
  pass found t rest p out = record {
    cells = p.cells;
    still = p.still;
    pending = λ k q some on at there. elim (p.pending k q some on at there) [
      | inl h ↦ inl h
      | inr h ↦
          gone_by {P = IsSome (look found q)} t rest k (is_at (key_cmp (turned k)) t) refl h
          (λ e. absurd (out q (subst (λ x. IsSome (kept es x)) e some) (ap (place_at rows cols) (sym e) ∙ at) there))
    ];
  }

  -- the first of what is left is added
  pub take_up : (found new : Found X) (t : CellKey) (rest : List CellKey) (at : Place) (c : X) → Progress rows cols es area lines before found (t ∷ rest)
      → place_at rows cols (turned t) ≡ Some at → covers area at ≡ true → kept es (turned t) ≡ Some c → IsAdded found at c new → Progress rows cols es area lines before new rest
  take_up found new t rest at c p here there is added = record {
    cells = λ q x h. added_cell rows cols es area at q c x (is_at (place_cmp at) q) (look found q) refl there (get-seen_at rows cols es at (turned t) (key_of_place rows cols (turned t) at here) ∙ is) (p.cells q x) (sym (added q) ∙ h);
    still = λ q some. subst IsSome (sym (added q)) (still_or (look found q) (cond (is_at (place_cmp at) q) (Some c) None) (p.still q some));
    pending = λ k q some on at' in_area. elim (p.pending k q some on at' in_area) [
      | inl h ↦ inl (subst IsSome (sym (added q)) (still_or (look found q) (cond (is_at (place_cmp at) q) (Some c) None) h))
      | inr h ↦
          gone_by {P = IsSome (look new q)} t rest k (is_at (key_cmp (turned k)) t) refl h (λ e. found_there found new at q c (same_Some at q (sym here ∙ ap (place_at rows cols) (sym e) ∙ at')) added)
    ];
  }

  -- where no turned key is left, all cells of the columns are found
  pub gone_through : (found : Found X) → Progress rows cols es area lines before found [] → AreLinesAt (table_of cols area.sheet) lines → HasColumns area (seen rows cols es) lines.from (lines.from + lines.count) found
  gone_through found p lines_at q there some low high =
      let w = key_of_seen rows cols es q some in
      elim (p.pending w.0 q w.2 (on_columns rows cols area lines q w.0 lines_at there w.1 low high) (place_of_key rows cols q w.0 w.1) there) [
        | inl h ↦ h
        | inr h ↦ cc
      ]

-- turned keys on some lines of columns gone through, none of which is in the block
pub record Search {X : Type 0} (rows cols : SheetLines) (es : List (CellKey × X)) (area : Block) (lines : Run) (rest : List CellKey) : Type 0 where
  pub entries : AllByRecursion (λ t. IsSome (kept es (turned t))) rest
  pub pending : (k : CellKey) (q : Place) → IsSome (kept es k) → IsOnColumns area.sheet lines k → place_at rows cols k ≡ Some q → covers area q ≡ true → IsListed k rest

all_kept : {X : Type 0} (m : BTreeMap CellKey X) (ts : BTreeSet CellKey) (lo hi : Bound CellKey) (rest : List CellKey) → AreTurned m ts → AllByRecursion (IsKeyInRange key_cmp lo hi ts) rest → AllByRecursion (λ t. IsSome (kept m.entries (turned t))) rest
all_kept m ts lo hi [] turn h = tt
all_kept m ts lo hi (t ∷ rest) turn h = (sym (turn (turned t)) ∙ h.0.1, all_kept m ts lo hi rest turn h.1)

pub search_begun : {X : Type 0} (rows cols : SheetLines) (m : BTreeMap CellKey X) (ts : BTreeSet CellKey) (area : Block) (lines : Run) (range rest : List CellKey) → AreTurned m ts
    → rest ≡ range → range ≡ keys_between key_cmp (first_on area.sheet lines) (end_on area.sheet lines) ts → All (IsKeyInRange key_cmp (first_on area.sheet lines) (end_on area.sheet lines) ts) range
    → Search rows cols m.entries area lines rest
search_begun rows cols m ts area lines range rest turn same between all =
    let first = first_on area.sheet lines in
    let end = end_on area.sheet lines in record {
      entries = subst (AllByRecursion (λ t. IsSome (kept m.entries (turned t)))) (sym same) (all_kept m ts first end range turn (recursion_from_All (IsKeyInRange key_cmp first end ts) range all));
      pending = λ k q some on at there. all_listed m ts area.sheet lines range rest turn same between k some on;
    }

either_listed : {P : Type 0} → (P → ⊥) → (k : CellKey) (rest : List CellKey) → P ⊎ IsListed k rest → IsListed k rest
either_listed no_one k rest (inl p) = absurd (no_one p)
either_listed no_one k rest (inr h) = h

module _ {X : Type 0} (rows cols : SheetLines) (es : List (CellKey × X)) (area : Block) (lines : Run) where
  pub search_on : (t : CellKey) (rest : List CellKey) → Search rows cols es area lines (t ∷ rest) → ((q : Place) → place_at rows cols (turned t) ≡ Some q → covers area q ≡ true → ⊥) → Search rows cols es area lines rest
  search_on t rest s out = record {
    entries = s.entries.1;
    pending = λ k q some on at there.
        either_listed (λ b. b) k rest (gone_by {P = ⊥} t rest k (is_at (key_cmp (turned k)) t) refl (s.pending k q some on at there) (λ e. out q (ap (place_at rows cols) (sym e) ∙ at) there));
  }

  pub search_hit : (t : CellKey) (rest : List CellKey) (at : Place) → Search rows cols es area lines (t ∷ rest) → place_at rows cols (turned t) ≡ Some at → covers area at ≡ true → HasAny area (seen rows cols es)
  search_hit t rest at s here there = (at, there, subst IsSome (sym (get-seen_at rows cols es at (turned t) (key_of_place rows cols (turned t) at here))) s.entries.0)

  pub search_over : Search rows cols es area lines [] → AreLinesAt (table_of cols area.sheet) lines → LacksColumns area (seen rows cols es) lines.from (lines.from + lines.count)
  search_over s lines_at q there some low high =
      let w = key_of_seen rows cols es q some in
      let left = s.pending w.0 q w.2 (on_columns rows cols area lines q w.0 lines_at there w.1 low high) (place_of_key rows cols q w.0 w.1) there in cc

-- past the sheet's last column no cell is seen
pub seen_before : {X : Type 0} (rows cols : SheetLines) (es : List (CellKey × X)) → rows.plain.limit ≡ ROWS → cols.plain.limit ≡ COLS → (sheet col : ℕ) → (col < (table_of cols sheet).limit → ⊥)
    → (q : Place) → IsSome (map.get (seen rows cols es) q) → q.col < col
seen_before rows cols es rl cl sheet col past q some = let w = key_of_seen rows cols es q some in stands_before rows cols rl cl sheet col past w.0 q (place_of_key rows cols q w.0 w.1)
