-- Where the lines of a block stand that an edit touches. Serves the search of what an edit touches.
use Rattle.std.proofs.Common.{◌≡◌, ◌≢◌, ◌∙◌, refl, ℕ, ◌+◌, ◌-◌, ◌<◌, ◌≤◌, ◌⊎◌, inl, inr, min, max, Some, None, arith, sym, ap}
use Rattle.std.proofs.lemmas.Bool.Decides.{nat_tests}
use Rattle.std.proofs.lemmas.Option.{same_Some}
use Rattle.cell_addr.specs.declared.axis.Span.{Span}
use Rattle.shift_core.specs.declared.edit.Edit.{Edit}
use Rattle.shift_core.specs.declared.edit.Edit.TheVariants.{Insert, Delete, Move}
use Rattle.shift_core.specs.Form.{IsWithin}
use Rattle.shift_core.specs.Lines.{IsDisplaced, IsSoundEdit, IsSoundMove, line_after, line_after_delete, line_after_insert, line_after_move}
use Rattle.shift_core.specs.Spans.{Displaces, PushesOff, pushed_line, span_after, span_after_delete, span_after_insert, span_after_move}
use Rattle.touch_index.specs.internal.Bands.{gap_of, lost_span, started_span}

-- the lines go on over one, of which they don't begin on
abbrev pub GoOver : ℕ → Span → Type 0
GoOver line s = (s.first < line) × (line ≤ s.last)

-- the lines begin in the band, or go on over its first line or over the gap
abbrev pub IsNear : ℕ → Edit → Span → Type 0
IsNear limit edit s = IsWithin (started_span limit edit) s.first ⊎ (GoOver (started_span limit edit).first s ⊎ GoOver (gap_of edit) s)

-- the edit loses the lines, changes their number, displaces some or cuts them at the sheet's end
pub data IsHit (limit : ℕ) (edit : Edit) (s : Span) : Type 0 where
  lost : span_after limit edit s ≡ None → IsHit limit edit s
  resized : (t : Span) → span_after limit edit s ≡ Some t → t.last - t.first ≢ s.last - s.first → IsHit limit edit s
  displaced : Displaces edit s → IsHit limit edit s
  cut : PushesOff limit edit s → IsHit limit edit s

-- an insert
insert_lost : (limit start count : ℕ) (s : Span) → start < limit → s.first ≤ s.last → s.last < limit → span_after_insert limit start count s ≡ None → IsNear limit (Insert start count) s
insert_lost limit start count s sound order inside e = inl (grind (arith, nat_tests))

insert_resized : (limit start count : ℕ) (s t : Span) → start < limit → 0 < count → s.first ≤ s.last → s.last < limit → span_after_insert limit start count s ≡ Some t → t.last - t.first ≢ s.last - s.first → IsNear limit (Insert start count) s
insert_resized limit start count s t sound some order inside e size = grind (arith, nat_tests)

insert_cut : (limit start count : ℕ) (s : Span) → start < limit → s.first ≤ s.last → s.last < limit → limit ≤ pushed_line start count s.last → IsNear limit (Insert start count) s
insert_cut limit start count s sound order inside e = grind (arith, nat_tests)

-- a deletion
delete_lost : (limit start count : ℕ) (s : Span) → 0 < count → start + count ≤ limit → s.first ≤ s.last → s.last < limit → span_after_delete start count s ≡ None → IsNear limit (Delete start count) s
delete_lost limit start count s some sound order inside e = grind (arith, nat_tests)

delete_resized : (limit start count : ℕ) (s t : Span) → 0 < count → start + count ≤ limit → s.first ≤ s.last → s.last < limit → span_after_delete start count s ≡ Some t → t.last - t.first ≢ s.last - s.first → IsNear limit (Delete start count) s
delete_resized limit start count s t some sound order inside e size = grind (arith, nat_tests)

-- a move
moved_line : (start count before line : ℕ) → IsDisplaced start count before line → (min start before ≤ line) × (line < max (start + count) before)
moved_line start count before line h = (grind (arith, nat_tests), grind (arith, nat_tests))

move_displaced : (limit start count before line : ℕ) (s : Span) → IsWithin s line → min start before ≤ line → line < max (start + count) before → IsNear limit (Move start count before) s
move_displaced limit start count before line s within low high = grind (arith, nat_tests)

-- without a displaced line all stays
still_line : (start count before line : ℕ) → ¬ IsDisplaced start count before line → line_after_move start count before line ≡ line
still_line start count before line h = grind (arith, nat_tests)

move_far : (limit start count before : ℕ) (s : Span) → IsSoundMove limit start count before → s.first ≤ s.last → (s.last < min start before) ⊎ (max (start + count) before ≤ s.first) → span_after_move start count before s ≡ Some s
move_far limit start count before s sound order far = grind (arith, nat_tests)

move_near : (limit start count before : ℕ) (s : Span) → IsSoundMove limit start count before → s.first ≤ s.last
    → IsNear limit (Move start count before) s ⊎ ((s.last < min start before) ⊎ (max (start + count) before ≤ s.first))
move_near limit start count before s sound order = grind (arith, nat_tests)

some_none : (s : Span) (P : Type 0) → Some s ≡ None → P
some_none s P e = cc

move_lost : (limit start count before : ℕ) (s : Span) → IsSoundMove limit start count before → s.first ≤ s.last → span_after_move start count before s ≡ None → IsNear limit (Move start count before) s
move_lost limit start count before s sound order e = elim (move_near limit start count before s sound order) [
  | inl near ↦ near
  | inr far ↦ some_none s (IsNear limit (Move start count before) s) (sym (move_far limit start count before s sound order far) ∙ e)
]

move_resized : (limit start count before : ℕ) (s t : Span) → IsSoundMove limit start count before → s.first ≤ s.last → span_after_move start count before s ≡ Some t → t.last - t.first ≢ s.last - s.first → IsNear limit (Move start count before) s
move_resized limit start count before s t sound order e size = elim (move_near limit start count before s sound order) [
  | inl near ↦ near
  | inr far ↦
      let same : s ≡ t = same_Some s t (sym (move_far limit start count before s sound order far) ∙ e) in
      absurd (size (ap (λ x. x.last - x.first) (sym same)))
]

-- lines that an edit hits are near its band
pub near : (limit : ℕ) (edit : Edit) (s : Span) → IsSoundEdit limit edit → s.first ≤ s.last → s.last < limit → IsHit limit edit s → IsNear limit edit s
near limit (Insert start count) s sound order inside (lost e) = insert_lost limit start count s sound.1 order inside e
near limit (Insert start count) s sound order inside (resized t e size) = insert_resized limit start count s t sound.1 sound.0 order inside e size
near limit (Insert start count) s sound order inside (displaced d) = absurd d
near limit (Insert start count) s sound order inside (cut c) = insert_cut limit start count s sound.1 order inside c
near limit (Delete start count) s sound order inside (lost e) = delete_lost limit start count s sound.0 sound.1 order inside e
near limit (Delete start count) s sound order inside (resized t e size) = delete_resized limit start count s t sound.0 sound.1 order inside e size
near limit (Delete start count) s sound order inside (displaced d) = absurd d
near limit (Delete start count) s sound order inside (cut c) = absurd c
near limit (Move start count before) s sound order inside (lost e) = move_lost limit start count before s sound order e
near limit (Move start count before) s sound order inside (resized t e size) = move_resized limit start count before s t sound order e size
near limit (Move start count before) s sound order inside (displaced d) =
    let at = moved_line start count before d.0 d.2 in move_displaced limit start count before d.0 s d.1 at.0 at.1
near limit (Move start count before) s sound order inside (cut c) = absurd c

-- a lost line is in the band of lost ones
pub lost_line : (limit : ℕ) (edit : Edit) (line : ℕ) → IsSoundEdit limit edit → line < limit → line_after limit edit line ≡ None → (band : Span) × (lost_span limit edit ≡ Some band) × IsWithin band line
lost_line limit (Insert start count) line sound inside e = (started_span limit (Insert start count), refl, insert_loses limit start count line sound.1 inside e)
  where
    insert_loses : (limit start count line : ℕ) → start < limit → line < limit → line_after_insert limit start count line ≡ None → IsWithin (started_span limit (Insert start count)) line
    insert_loses limit start count line sound inside e = (grind (arith, nat_tests), grind (arith, nat_tests))
lost_line limit (Delete start count) line sound inside e = (started_span limit (Delete start count), refl, delete_loses start count line e)
  where
    delete_loses : (start count line : ℕ) → line_after_delete start count line ≡ None → IsWithin (started_span limit (Delete start count)) line
    delete_loses start count line e = (grind (arith, nat_tests), grind (arith, nat_tests))
lost_line limit (Move start count before) line sound inside e = cc
