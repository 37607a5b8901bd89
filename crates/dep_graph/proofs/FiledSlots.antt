-- The slots that hold a spot, of ranges and of whole ranges, and the filings under them. Serves what cells find.
use Rattle.std.proofs.Common.{◌≡◌, ◌∙◌, sym, ap, refl, subst, arith, ℕ, ◌+◌, ◌-◌, ◌<◌, inl, inr, ◌⊎◌, ⊎_elim, Bool, true, false, cond, List, [], ◌∷◌, ◌++◌, map}
use Rattle.std.proofs.lemmas.Bool.{and_from, and_parts, cond-false, cond-true, false≢true, le-ltb, lt-ltb, or_cases, or_left, or_right}
use Rattle.block_index.specs.Index.{filed_in, finds, slot_count, slots_of}
use Rattle.block_index.proofs.Filing.{found_under, slot_with, slots_are_slots}
use Rattle.cell_addr.specs.declared.axis.Axis.{Axis}
use Rattle.cell_addr.specs.declared.axis.Axis.TheVariants.{Cols, Rows}
use Rattle.needs_order.specs.Needs.{has}
use Rattle.needs_order.proofs.Lists as lists
use Rattle.place_lines.specs.declared.spot.LineSpot.{LineSpot}
use Rattle.dep_graph.specs.declared.files.Files.{Files}
use Rattle.dep_graph.specs.internal.Files.{filed_at, finds_filing, slot_total, slots_on, slots_over}
use Rattle.dep_graph.specs.internal.Wholes.{column_of, finds_along, is_on_sheet, number_on, slots_along}

-- ---- numbers behind others

pub map_plus : (n : ℕ) (ss : List ℕ) (c : ℕ) → has c (map (λ s. n + s) ss) ≡ true → (s : ℕ) × (has s ss ≡ true) × (n + s ≡ c)
map_plus n [] c h = absurd (false≢true h)
map_plus n (x ∷ ss) c h = ⊎_elim
    (λ (same : n + x ≡ c). (x, lists.has_first x ss, same))
    (λ (later : has c (map (λ s. n + s) ss) ≡ true). let (s, there, is) = map_plus n ss c later in (s, lists.has-append_right s (x ∷ []) ss there, is))
    (lists.has_cases c (n + x) (map (λ s. n + s) ss) h)

pub plus_map : (n : ℕ) (ss : List ℕ) (s : ℕ) → has s ss ≡ true → has (n + s) (map (λ k. n + k) ss) ≡ true
plus_map n [] s h = absurd (false≢true h)
plus_map n (x ∷ ss) s h = ⊎_elim
    (λ (same : x ≡ s). subst (λ k. has (n + s) ((n + k) ∷ map (λ j. n + j) ss) ≡ true) (sym same) (lists.has_first (n + s) (map (λ j. n + j) ss)))
    (λ (later : has s ss ≡ true). lists.has-append_right (n + s) ((n + x) ∷ []) (map (λ j. n + j) ss) (plus_map n ss s later))
    (lists.has_cases s x ss h)

module _ (files : Files) (spot : LineSpot) where
  abbrev count : ℕ
  count = slot_count files.index

  abbrev ranges : List ℕ
  ranges = slots_of files.index spot.sheet spot.row spot.col

  -- ---- filings under a slot

  filed_low : (s : ℕ) → s < count → filed_at files s ≡ filed_in files.index s
  filed_low s low = cond-true _ _ _ (lt-ltb s count low)

  back_to : (n s : ℕ) → n + s - n ≡ s
  back_to n s = omega arith

  filed_high : (s : ℕ) → filed_at files (count + s) ≡ filed_in files.wholes s
  filed_high s = cond-false _ _ _ (le-ltb (count + s) count (omega arith)) ∙ ap (filed_in files.wholes) (back_to count s)

  -- ---- along one axis

  along_slot : (axis : Axis) (s : ℕ) → has s (slots_along axis files.wholes spot) ≡ true → (is_on_sheet axis spot ≡ true) × (has s (slots_of files.wholes spot.sheet (number_on axis spot) (column_of axis)) ≡ true)
  along_slot axis s h = by (is_on_sheet axis spot) refl h
    where
      by : (t : Bool) → is_on_sheet axis spot ≡ t → has s (cond t (slots_of files.wholes spot.sheet (number_on axis spot) (column_of axis)) []) ≡ true
          → (is_on_sheet axis spot ≡ true) × (has s (slots_of files.wholes spot.sheet (number_on axis spot) (column_of axis)) ≡ true)
      by true e h = (e, h)
      by false e h = absurd (false≢true h)

  along_found : (axis : Axis) (s f : ℕ) → has s (slots_along axis files.wholes spot) ≡ true → has f (filed_in files.wholes s) ≡ true → finds_along axis files.wholes spot f ≡ true
  along_found axis s f slot filed =
      let (on, there) = along_slot axis s slot in
      and_from (is_on_sheet axis spot) (finds files.wholes spot.sheet (number_on axis spot) (column_of axis) f) on (found_under files.wholes spot.sheet (number_on axis spot) (column_of axis) s f there filed)

  along_with : (axis : Axis) (f : ℕ) → finds_along axis files.wholes spot f ≡ true → (s : ℕ) × (has s (slots_along axis files.wholes spot) ≡ true) × (has f (filed_in files.wholes s) ≡ true)
  along_with axis f found =
      let (on, there) = and_parts (is_on_sheet axis spot) (finds files.wholes spot.sheet (number_on axis spot) (column_of axis) f) found in
      let (s, slot, filed) = slot_with files.wholes spot.sheet (number_on axis spot) (column_of axis) f there in
      (s, subst (λ l. has s l ≡ true) (sym (cond-true _ _ _ on)) slot, filed)

  -- ---- all slots that hold the spot

  abbrev IsSlot : ℕ → Type 0
  IsSlot s = (has s ranges ≡ true) ⊎ ((axis : Axis) × (has s (slots_on files axis spot) ≡ true))

  is_slot : (s : ℕ) → has s (slots_over files spot) ≡ true → IsSlot s
  is_slot s h = elim (lists.has-append_cases s (ranges ++ slots_on files Rows spot) (slots_on files Cols spot) h) [
    | inl first ↦ elim (lists.has-append_cases s ranges (slots_on files Rows spot) first) [ inl range ↦ inl range | inr row ↦ inr (Rows, row) ]
    | inr col ↦ inr (Cols, col)
  ]

  range_slot : (s : ℕ) → has s ranges ≡ true → has s (slots_over files spot) ≡ true
  range_slot s h = lists.has-append_left s (ranges ++ slots_on files Rows spot) (slots_on files Cols spot) (lists.has-append_left s ranges (slots_on files Rows spot) h)

  slot_on : (axis : Axis) (s : ℕ) → has s (slots_on files axis spot) ≡ true → has s (slots_over files spot) ≡ true
  slot_on Rows s h = lists.has-append_left s (ranges ++ slots_on files Rows spot) (slots_on files Cols spot) (lists.has-append_right s ranges (slots_on files Rows spot) h)
  slot_on Cols s h = lists.has-append_right s (ranges ++ slots_on files Rows spot) (slots_on files Cols spot) h

  pub found_on : (axis : Axis) (f : ℕ) → finds_along axis files.wholes spot f ≡ true → finds_filing files spot f ≡ true
  found_on Rows f h = or_right (finds files.index spot.sheet spot.row spot.col f) _ (or_left (finds_along Rows files.wholes spot f) (finds_along Cols files.wholes spot f) h)
  found_on Cols f h = or_right (finds files.index spot.sheet spot.row spot.col f) _ (or_right (finds_along Rows files.wholes spot f) (finds_along Cols files.wholes spot f) h)

  -- what is filed under one of the slots is found
  pub found_at_slot : (s f : ℕ) → has s (slots_over files spot) ≡ true → has f (filed_at files s) ≡ true → finds_filing files spot f ≡ true
  found_at_slot s f slot filed = elim (is_slot s slot) [
    | inl range ↦
        let low : s < count = slots_are_slots files.index spot.sheet spot.row spot.col s range in
        or_left (finds files.index spot.sheet spot.row spot.col f) _ (found_under files.index spot.sheet spot.row spot.col s f range (subst (λ l. has f l ≡ true) (filed_low s low) filed))
    | inr (axis, there) ↦
        let (k, along, is) = map_plus count (slots_along axis files.wholes spot) s there in
        found_on axis f (along_found axis k f along (subst (λ l. has f l ≡ true) (ap (filed_at files) (sym is) ∙ filed_high k) filed))
  ]

  slot_along : (axis : Axis) (f : ℕ) → finds_along axis files.wholes spot f ≡ true → (s : ℕ) × (has s (slots_over files spot) ≡ true) × (has f (filed_at files s) ≡ true)
  slot_along axis f found =
      let (k, along, filed) = along_with axis f found in
      (count + k, slot_on axis (count + k) (plus_map count (slots_along axis files.wholes spot) k along), subst (λ l. has f l ≡ true) (sym (filed_high k)) filed)

  -- and what is found is filed under one of them
  pub slot_of_filing : (f : ℕ) → finds_filing files spot f ≡ true → (s : ℕ) × (has s (slots_over files spot) ≡ true) × (has f (filed_at files s) ≡ true)
  slot_of_filing f found = elim (or_cases (finds files.index spot.sheet spot.row spot.col f) _ found) [
    | inl range ↦
        let (s, slot, filed) = slot_with files.index spot.sheet spot.row spot.col f range in
        let low : s < count = slots_are_slots files.index spot.sheet spot.row spot.col s slot in
        (s, range_slot s slot, subst (λ l. has f l ≡ true) (sym (filed_low s low)) filed)
    | inr along ↦ elim (or_cases (finds_along Rows files.wholes spot f) (finds_along Cols files.wholes spot f) along) [
      | inl row ↦ slot_along Rows f row
      | inr col ↦ slot_along Cols f col
    ]
  ]

  -- each of them is a slot
  pub slots_inside : (s : ℕ) → has s (slots_over files spot) ≡ true → s < slot_total files
  slots_inside s h = elim (is_slot s h) [
    | inl range ↦ let low : s < count = slots_are_slots files.index spot.sheet spot.row spot.col s range in omega (arith, low)
    | inr (axis, there) ↦
        let (k, along, is) = map_plus count (slots_along axis files.wholes spot) s there in
        let low : k < slot_count files.wholes = slots_are_slots files.wholes spot.sheet (number_on axis spot) (column_of axis) k (along_slot axis k along).1 in
        omega (arith, low, is)
  ]
