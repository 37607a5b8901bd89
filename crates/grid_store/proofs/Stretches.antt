-- A block's cells gone through in the order of their keys, up to one beside its columns. Serves the lists of cells.
use Rattle.std.proofs.Common.{◌≡◌, ◌∙◌, sym, ap, refl, subst, ℕ, ◌+◌, ◌<◌, ◌≤◌, inl, inr, Bool, true, false, cond, List, [], ◌∷◌, Some, IsSome, is_some, arith}
use Rattle.std.specs.BTreeMap.{BTreeMap, IsOrdered, is_at}
use Rattle.std.specs.BTreeMap.Range.{IsEntryInRange, IsInRange, entries_between, range_contains}
use Rattle.std.specs.List.{All, AllByRecursion, filter}
use Rattle.std.specs.List.Sorted.{IsStrictlySortedBy}
use Rattle.std.specs.Map.{keys_of}
use Rattle.std.specs.Ordering.{is_gt, is_le, nat_cmp, ordering_reverse, ordering_then}
use Rattle.std.specs.declared.cmp.Ordering.{Ordering}
use Rattle.std.specs.declared.cmp.Ordering.TheVariants.{Less, Equal, Greater}
use Rattle.std.specs.declared.ops.Bound.{Bound}
use Rattle.std.specs.declared.ops.Bound.TheVariants.{Included, Excluded}
use Rattle.std.proofs.lemmas.Bool.{both_ways}
use Rattle.std.proofs.lemmas.Bool.Decides.{nat_tests}
use Rattle.std.proofs.lemmas.List.Elements.{recursion_from_All}
use Rattle.std.proofs.lemmas.List.Kept.{IsStrictlySortedBy-filter}
use Rattle.std.proofs.lemmas.Map.{lookup-none}
use Rattle.std.proofs.lemmas.Map.Entries.{none_below_head}
use Rattle.std.proofs.lemmas.Map.Keys.{sorted_tail}
use Rattle.cell_addr.specs.Place.{covers}
use Rattle.cell_addr.specs.declared.place.Block.{Block}
use Rattle.cell_addr.specs.declared.place.Place.{Place}
use Rattle.shift_core.proofs.CellMoves.{Covers-from_covers}
use Rattle.stable_lines.specs.Sheets.{table_of}
use Rattle.stable_lines.specs.declared.run.Run.{Run}
use Rattle.stable_lines.specs.declared.sheets.SheetLines.{SheetLines}
use Rattle.grid_store.specs.Keys.{key_cmp, place_at}
use Rattle.grid_store.specs.declared.key.CellKey.{CellKey}
use Rattle.grid_store.specs.internal.Listing.{AreCellsOf, AreLinesAt, Found, SpansColumns, look}
use Rattle.grid_store.proofs.KeyOrder.{key_cmp-IsTotalOrder}
use Rattle.grid_store.proofs.KeyPlaces.{key_of_place}
use Rattle.grid_store.proofs.Listings.{Progress, begun, both, in_lines, row_order}
use Rattle.grid_store.proofs.Views.{kept, seen}

-- the key is of the sheet, and its lines are among these rows and columns
abbrev pub IsOver : ℕ → ℕ → ℕ → Run → CellKey → Type 0
IsOver sheet low high lines k = (k.sheet ≡ sheet) × (low ≤ k.row) × (k.row < high) × (lines.to ≤ k.col) × (k.col < lines.to + lines.count)

-- the ends of the range that has these keys
abbrev pub first_over : ℕ → ℕ → Run → Bound CellKey
first_over sheet low lines = Included (record { sheet = sheet; row = low; col = lines.to })

abbrev pub end_over : ℕ → ℕ → Bound CellKey
end_over sheet high = Excluded (record { sheet = sheet; row = high; col = 0 })

-- the block's cells on some lines of rows and of columns, as far as their keys have been gone through in order
pub record Stretch {X : Type 0} (rows cols : SheetLines) (es : List (CellKey × X)) (area : Block) (low high : ℕ) (lines : Run) (before found : Found X) (rest : List (CellKey × X)) : Type 0 where
  pub progress : Progress rows cols es area (IsOver area.sheet low high lines) before found rest
  pub sorted : IsStrictlySortedBy key_cmp (keys_of rest)
  pub inside : AllByRecursion (λ e. IsInRange key_cmp (first_over area.sheet low lines) (end_over area.sheet high) e.0) rest

from_first : (sheet low col s r c : ℕ) → s ≡ sheet → low ≤ r → col ≤ c → is_le (ordering_then (nat_cmp sheet s) (ordering_then (nat_cmp low r) (nat_cmp col c))) ≡ true
from_first sheet low col s r c e f g = grind (arith, nat_tests)

before_end : (sheet high s r c : ℕ) → s ≡ sheet → r < high → is_le (ordering_then (nat_cmp sheet s) (ordering_then (nat_cmp high r) (nat_cmp 0 c))) ≡ false
before_end sheet high s r c e f = grind (arith, nat_tests)

over_in_range : (sheet low high : ℕ) (lines : Run) (k : CellKey) → IsOver sheet low high lines k → range_contains key_cmp (first_over sheet low lines) (end_over sheet high) k ≡ true
over_in_range sheet low high lines k on = both _ _ (from_first sheet low lines.to k.sheet k.row k.col on.0 on.1 on.3) (before_end sheet high k.sheet k.row k.col on.0 on.2)

-- the keys of a part of a list are that part of its keys
keys_with : {X : Type 0} (b : Bool) (e : CellKey × X) (es : List (CellKey × X)) (ks : List CellKey) → keys_of es ≡ ks → keys_of (cond b (e ∷ es) es) ≡ cond b (e.0 ∷ ks) ks
keys_with true e es ks h = ap (λ l. e.0 ∷ l) h
keys_with false e es ks h = h

keys_of-filter : {X : Type 0} (p : CellKey → Bool) (es : List (CellKey × X)) → keys_of (filter (λ e. p e.0) es) ≡ filter p (keys_of es)
keys_of-filter p [] = refl
keys_of-filter p (e ∷ es) = keys_with (p e.0) e (filter (λ e. p e.0) es) (filter p (keys_of es)) (keys_of-filter p es)

inside_only : {X : Type 0} (low high : Bound CellKey) (m : BTreeMap CellKey X) (rest : List (CellKey × X)) → AllByRecursion (IsEntryInRange key_cmp low high m) rest → AllByRecursion (λ e. IsInRange key_cmp low high e.0) rest
inside_only low high m [] h = tt
inside_only low high m (e ∷ rest) h = (h.0.0, inside_only low high m rest h.1)

-- before the first key
pub stretch_begun : {X : Type 0} (rows cols : SheetLines) (m : BTreeMap CellKey X) (area : Block) (low high : ℕ) (lines : Run) (found : Found X) (range rest : List (CellKey × X)) → AreCellsOf area (seen rows cols m.entries) found
    → rest ≡ range → range ≡ entries_between key_cmp (first_over area.sheet low lines) (end_over area.sheet high) m.entries
    → All (IsEntryInRange key_cmp (first_over area.sheet low lines) (end_over area.sheet high) m) range → IsOrdered key_cmp m → Stretch rows cols m.entries area low high lines found found rest
stretch_begun rows cols m area low high lines found range rest cells same between all ordered =
    let first = first_over area.sheet low lines in
    let end = end_over area.sheet high in
    let contains = range_contains key_cmp first end in record {
      progress = begun rows cols m area (IsOver area.sheet low high lines) first end found range rest cells (over_in_range area.sheet low high lines) same between all;
      sorted = subst (IsStrictlySortedBy key_cmp) (sym (ap keys_of (same ∙ between) ∙ keys_of-filter contains m.entries)) (IsStrictlySortedBy-filter key_cmp contains (keys_of m.entries) ordered);
      inside = subst (AllByRecursion (λ e. IsInRange key_cmp first end e.0)) (sym same) (inside_only first end m range (recursion_from_All (IsEntryInRange key_cmp first end m) range all));
    }

-- no key that is left is below the first of them
not_below : {X : Type 0} (e : CellKey × X) (rest : List (CellKey × X)) (k : CellKey) (o : Ordering) → key_cmp k e.0 ≡ o → IsStrictlySortedBy key_cmp (keys_of (e ∷ rest)) → IsSome (kept (e ∷ rest) k) → is_gt (ordering_reverse o) ≡ false
not_below e rest k Less is sorted some = absurd (both_ways _ (ap is_some (lookup-none (is_at (key_cmp k)) (e ∷ rest) (none_below_head key_cmp-IsTotalOrder k e rest sorted is))) some)
not_below e rest k Equal is sorted some = refl
not_below e rest k Greater is sorted some = refl

first_left : {X : Type 0} (e : CellKey × X) (rest : List (CellKey × X)) (k : CellKey) → IsStrictlySortedBy key_cmp (keys_of (e ∷ rest)) → IsSome (kept (e ∷ rest) k) → is_gt (key_cmp e.0 k) ≡ false
first_left e rest k sorted some = ap is_gt (key_cmp-IsTotalOrder.antisymm e.0 k) ∙ not_below e rest k (key_cmp k e.0) refl sorted some

in_range_parts : (sheet low high col s r c : ℕ) → is_gt (ordering_then (nat_cmp sheet s) (ordering_then (nat_cmp low r) (nat_cmp col c))) ≡ false → ordering_then (nat_cmp s sheet) (ordering_then (nat_cmp r high) (nat_cmp c 0)) ≡ Less
    → (s ≡ sheet) × (low ≤ r) × (r < high)
in_range_parts sheet low high col s r c from upto = (grind (arith, nat_tests), grind (arith, nat_tests), grind (arith, nat_tests))

in_later_row : (sheet low col s r c : ℕ) → is_gt (ordering_then (nat_cmp sheet s) (ordering_then (nat_cmp low r) (nat_cmp col c))) ≡ false → s ≡ sheet → c < col → low < r
in_later_row sheet low col s r c from e f = grind (arith, nat_tests)

col_order : (sheet s t a b c d : ℕ) → s ≡ sheet → t ≡ sheet → is_gt (ordering_then (nat_cmp s t) (ordering_then (nat_cmp a b) (nat_cmp c d))) ≡ false → b ≤ a → c ≤ d
col_order sheet s t a b c d e f g h = grind (arith, nat_tests)

module _ {X : Type 0} (rows cols : SheetLines) (es : List (CellKey × X)) (area : Block) (low high : ℕ) (lines : Run) (before : Found X) where
  -- the first of what is left is gone through
  pub stretch_on : (found new : Found X) (e : CellKey × X) (rest : List (CellKey × X)) → Stretch rows cols es area low high lines before found (e ∷ rest)
      → Progress rows cols es area (IsOver area.sheet low high lines) before new rest → Stretch rows cols es area low high lines before new rest
  stretch_on found new e rest s p = record { progress = p; sorted = sorted_tail key_cmp e.0 (keys_of rest) s.sorted; inside = s.inside.1 }

  -- the first of what is left is of the sheet and of these lines of rows
  pub first_inside : (found : Found X) (e : CellKey × X) (rest : List (CellKey × X)) → Stretch rows cols es area low high lines before found (e ∷ rest) → (e.0.sheet ≡ area.sheet) × (low ≤ e.0.row) × (e.0.row < high)
  first_inside found e rest s = in_range_parts area.sheet low high lines.to e.0.sheet e.0.row e.0.col s.inside.0.0 s.inside.0.1

  -- all of the block's cells on the lines of rows from the first to before another are found
  abbrev pub AreFoundTo : ℕ → Found X → Type 0
  AreFoundTo next found = (k : CellKey) (q : Place) → IsSome (kept es k) → place_at rows cols k ≡ Some q → covers area q ≡ true → low ≤ k.row → k.row < next → IsSome (look found q)

  module _ (lines_at : AreLinesAt (table_of cols area.sheet) lines) (spans : SpansColumns area lines) where
    over : (k : CellKey) (q : Place) → place_at rows cols k ≡ Some q → covers area q ≡ true → low ≤ k.row → k.row < high → IsOver area.sheet low high lines k
    over k q at there from under =
        let c = Covers-from_covers area q there in
        let w = in_lines rows cols area k.row lines q k lines_at c (key_of_place rows cols k q at) refl (omega (arith, spans.0, c.3)) (omega (arith, spans.1, c.4)) in
        (w.0, from, under, w.2, w.3)

    -- where no key is left, all are found
    pub found_all : (found : Found X) → Stretch rows cols es area low high lines before found [] → AreFoundTo high found
    found_all found s k q some at there from under =
        elim (s.progress.pending k q some (over k q at there from under) at there) [
          | inl h ↦ h
          | inr h ↦ cc
        ]

    found_before : (found : Found X) (e : CellKey × X) (rest : List (CellKey × X)) → Stretch rows cols es area low high lines before found (e ∷ rest)
        → (next : ℕ) → next ≤ high → ((k : CellKey) → IsOver area.sheet low high lines k → k.row < next → is_gt (key_cmp e.0 k) ≡ false → ⊥) → AreFoundTo next found
    found_before found e rest s next upto none k q some at there from under =
        let on = over k q at there from (omega (arith, under, upto)) in
        elim (s.progress.pending k q some on at there) [
          | inl h ↦ h
          | inr h ↦ absurd (none k on under (first_left e rest k s.sorted h))
        ]

    -- the first of what is left is before the columns: the cells of the lines before its own are found
    pub found_to_left : (found : Found X) (e : CellKey × X) (rest : List (CellKey × X)) → Stretch rows cols es area low high lines before found (e ∷ rest) → e.0.col < lines.to
        → (low < e.0.row) × (e.0.row ≤ high) × AreFoundTo e.0.row found
    found_to_left found e rest s left =
        let own = in_range_parts area.sheet low high lines.to e.0.sheet e.0.row e.0.col s.inside.0.0 s.inside.0.1 in (
          in_later_row area.sheet low lines.to e.0.sheet e.0.row e.0.col s.inside.0.0 own.0 left,
          omega (arith, own.2),
          found_before found e rest s e.0.row (omega (arith, own.2)) (λ k on under ahead.
              let order = row_order area.sheet e.0.sheet k.sheet e.0.row k.row e.0.col k.col own.0 on.0 ahead in omega (arith, order, under)),
        )

    -- the first of what is left is behind the columns: the cells of its line are found too
    pub found_to_right : (found : Found X) (e : CellKey × X) (rest : List (CellKey × X)) → Stretch rows cols es area low high lines before found (e ∷ rest) → lines.to + lines.count ≤ e.0.col
        → (low < e.0.row + 1) × (e.0.row + 1 ≤ high) × AreFoundTo (e.0.row + 1) found
    found_to_right found e rest s right =
        let own = in_range_parts area.sheet low high lines.to e.0.sheet e.0.row e.0.col s.inside.0.0 s.inside.0.1 in (
          omega (arith, own.1),
          omega (arith, own.2),
          found_before found e rest s (e.0.row + 1) (omega (arith, own.2)) (λ k on under ahead.
              let order = col_order area.sheet e.0.sheet k.sheet e.0.row k.row e.0.col k.col own.0 on.0 ahead (omega (arith, under)) in omega (arith, order, right, on.4)),
        )
