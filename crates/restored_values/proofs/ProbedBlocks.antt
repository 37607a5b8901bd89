-- Probes are sound, and bend what their operations bent. Serves these laws.
use Rattle.std.proofs.Common.{◌≡◌, ◌≢◌, ◌∙◌, sym, ap, refl, subst, ℕ, ◌≤◌, ◌⊎◌, inl, inr, Option, Some, None, option_map, MatchOption, arith}
use Rattle.std.specs.Bool.{⊤}
use Rattle.std.proofs.lemmas.Bool.Decides.{nat_tests}
use Rattle.std.proofs.lemmas.Option.{none-some, same_Some}
use Rattle.cell_addr.specs.declared.axis.Axis.{Axis}
use Rattle.cell_addr.specs.declared.axis.Axis.TheVariants.{Rows, Cols}
use Rattle.cell_addr.specs.declared.axis.Span.{Span}
use Rattle.cell_addr.specs.declared.place.Block.{Block}
use Rattle.cell_addr.specs.declared.place.Place.{Place}
use Rattle.cell_addr.specs.Axis.{limit_of, span_of, with_span}
use Rattle.cell_addr.specs.Place.{IsBlockInside, covers}
use Rattle.shift_core.specs.declared.edit.Edit.{Edit}
use Rattle.shift_core.specs.declared.edit.Edit.TheVariants.{Insert, Delete, Move}
use Rattle.shift_core.specs.declared.form.Form.{Form}
use Rattle.shift_core.specs.declared.form.Form.TheVariants.{Cells, Lines, Sheet}
use Rattle.shift_core.specs.declared.shift.Shift.{Shift}
use Rattle.shift_core.specs.Bent.{BendsBlock, CutsBlock, HaveOtherSizes, MeetsDisplaced}
use Rattle.shift_core.specs.Carried.{carried_block, contains, destination, first_place, last_place}
use Rattle.shift_core.specs.Form.{form_of}
use Rattle.shift_core.specs.Opposite.{shift_of}
use Rattle.shift_core.specs.Sound.{IsSoundForm}
use Rattle.shift_core.specs.Spans.{Displaces, PushesOff, span_after}
use Rattle.shift_core.specs.Tables.{block_moved}
use Rattle.shift_core.proofs.Axes.{cases_by_span, ends_inside, sheet-with_span, span_of-with_span}
use Rattle.shift_core.proofs.CellMoves.{Covers-from_covers, cases_chosen}
use Rattle.restored_values.specs.Probes.{BentAreProbed, ProbesAreSound, edit_probe, form_probe}
use Rattle.restored_values.proofs.ProbedSpans.{HaveOtherLengths, IsSpanBent, edit_probe_sound, edit_probed}
use Rattle.std.proofs.lemmas.Bool.{and_parts}

-- the operation of a form has that form
pub form_of-shift_of : (f : Form) → form_of (shift_of f) ≡ f
form_of-shift_of (Lines sheet Rows (Insert start count)) = refl
form_of-shift_of (Lines sheet Rows (Delete start count)) = refl
form_of-shift_of (Lines sheet Rows (Move start count before)) = refl
form_of-shift_of (Lines sheet Cols (Insert start count)) = refl
form_of-shift_of (Lines sheet Cols (Delete start count)) = refl
form_of-shift_of (Lines sheet Cols (Move start count before)) = refl
form_of-shift_of (Cells source to) = refl
form_of-shift_of (Sheet sheet) = refl

-- ---- probes are sound

pub room : (axis : Axis) → 2 ≤ limit_of axis
room Rows = omega arith
room Cols = omega arith

form_sound : (f g : Form) → IsSoundForm f → form_probe f ≡ Some g → IsSoundForm g
form_sound (Lines sheet axis edit) g sound e = subst IsSoundForm (same_Some _ g e) (edit_probe_sound (limit_of axis) edit (room axis) sound)
form_sound (Cells source to) g sound e = absurd (none-some g e)
form_sound (Sheet sheet) g sound e = absurd (none-some g e)

pub form_given : (f : Option Form) (probe : Shift) → option_map shift_of f ≡ Some probe → f ≡ Some (form_of probe)
form_given None probe e = absurd (none-some probe e)
form_given (Some f) probe e = ap Some (sym (form_of-shift_of f) ∙ ap form_of (same_Some _ probe e))

pub probes_are_sound : ProbesAreSound
probes_are_sound s probe sound e = form_sound (form_of s) (form_of probe) sound (form_given (form_probe (form_of s)) probe e)

-- ---- what is bent

-- the block is lost, or bent as it stands afterwards
bent_by : (f : Form) (b : Block) → ((after : Block) → block_moved f b ≡ Some after → HaveOtherSizes b after ⊎ MeetsDisplaced f b) → BendsBlock f b
bent_by f b each = by (block_moved f b) refl
  where
    by : (o : Option Block) → block_moved f b ≡ o → MatchOption o ⊤ (λ after. HaveOtherSizes b after ⊎ MeetsDisplaced f b)
    by None e = tt
    by (Some after) e = each after e

pub bent_how : (f : Form) (b after : Block) → BendsBlock f b → block_moved f b ≡ Some after → HaveOtherSizes b after ⊎ MeetsDisplaced f b
bent_how f b after bent h = subst (λ o. MatchOption o ⊤ (λ x. HaveOtherSizes b x ⊎ MeetsDisplaced f b)) h bent

-- along the axis, where the other lines stay
pub other_lengths : (axis : Axis) (b : Block) (t : Span) → HaveOtherSizes b (with_span axis t b) → HaveOtherLengths (span_of axis b) t
other_lengths Rows b t other same = elim other [ inl n ↦ n same | inr n ↦ n refl ]
other_lengths Cols b t other same = elim other [ inl n ↦ n refl | inr n ↦ n same ]

other_sizes : (axis : Axis) (b : Block) (t : Span) → HaveOtherLengths (span_of axis b) t → HaveOtherSizes b (with_span axis t b)
other_sizes Rows b t other = inl other
other_sizes Cols b t other = inr other

-- the block of a form is bent or cut
abbrev pub IsTouched : Form → Block → Type 0
IsTouched f b = BendsBlock f b ⊎ CutsBlock f b

module _ (sheet : ℕ) (axis : Axis) (edit : Edit) where
  -- a span that its edit bends is that of a block that it bends
  touched : (b : Block) → b.sheet ≡ sheet → IsSpanBent (limit_of axis) edit (span_of axis b) → IsTouched (Lines sheet axis edit) b
  touched b on bent = elim bent [
    | inl other ↦ inl (bent_by (Lines sheet axis edit) b (λ after h. elim (cases_by_span sheet axis (span_after (limit_of axis) edit) b after h) [
      | inl (t, w) ↦ inl (subst (HaveOtherSizes b) (sym w.2) (other_sizes axis b t (other t w.1)))
      | inr w ↦ absurd (w.0 on)
    ]))
    | inr (inl there) ↦ inl (bent_by (Lines sheet axis edit) b (λ after h. inr (on, there)))
    | inr (inr cut) ↦ inr (on, cut)
  ]

  -- what the edit did to the block it did to its span
  bent_span : (b : Block) (t : Span) → IsTouched (Lines sheet axis edit) b → block_moved (Lines sheet axis edit) b ≡ Some (with_span axis t b)
      → HaveOtherLengths (span_of axis b) t ⊎ (Displaces edit (span_of axis b) ⊎ PushesOff (limit_of axis) edit (span_of axis b))
  bent_span b t bent h = elim bent [
    | inl bends ↦ elim (bent_how (Lines sheet axis edit) b (with_span axis t b) bends h) [
      | inl other ↦ inl (other_lengths axis b t other)
      | inr there ↦ inr (inl there.1)
    ]
    | inr cut ↦ inr (inr cut.1)
  ]

  -- a block on another sheet isn't touched
  pub elsewhere : (b : Block) → b.sheet ≢ sheet → block_moved (Lines sheet axis edit) b ≡ Some b → IsTouched (Lines sheet axis edit) b → ⊥
  elsewhere b off h bent = elim bent [
    | inl bends ↦ elim (bent_how (Lines sheet axis edit) b b bends h) [
      | inl other ↦ elim other [ inl n ↦ n refl | inr n ↦ n refl ]
      | inr there ↦ off there.0
    ]
    | inr cut ↦ off cut.0
  ]

lines_probed : (sheet : ℕ) (axis : Axis) (edit : Edit) (b after : Block) → IsSoundForm (Lines sheet axis edit) → IsBlockInside b → IsTouched (Lines sheet axis edit) b → block_moved (Lines sheet axis edit) b ≡ Some after
    → IsTouched (Lines sheet axis (edit_probe (limit_of axis) edit)) after
lines_probed sheet axis edit b after sound inside bent h = elim (cases_by_span sheet axis (span_after (limit_of axis) edit) b after h) [
  | inl (t, w) ↦
      let ends = ends_inside axis b inside in
      let probed = edit_probed (limit_of axis) edit (span_of axis b) t sound ends.0 ends.1 w.1 (bent_span sheet axis edit b t bent (h ∙ ap Some w.2)) in
      subst (IsTouched (Lines sheet axis (edit_probe (limit_of axis) edit))) (sym w.2)
      (touched sheet axis (edit_probe (limit_of axis) edit) (with_span axis t b) (sheet-with_span axis t b ∙ w.0) (subst (IsSpanBent (limit_of axis) (edit_probe (limit_of axis) edit)) (sym (span_of-with_span axis t b)) probed))
  | inr w ↦ absurd (elsewhere sheet axis edit b w.0 (h ∙ ap Some w.1) bent)
]

-- cells that are moved keep their sizes, and so does what stays
same_sizes : (source : Block) (to : Place) (b after : Block) → block_moved (Cells source to) b ≡ Some after → HaveOtherSizes b after → ⊥
same_sizes source to b after h other = elim (cases_chosen (contains source b) (contains (destination source to) b) (carried_block source to b) b after h) [
  | inl w ↦
      let parts = and_parts (covers source (first_place b)) (covers source (last_place b)) w.0 in
      let first = Covers-from_covers source (first_place b) parts.0 in
      let last = Covers-from_covers source (last_place b) parts.1 in
      elim (subst (HaveOtherSizes b) w.1 other) [ inl n ↦ n (omega arith) | inr n ↦ n (omega arith) ]
  | inr w ↦ elim (subst (HaveOtherSizes b) w.2 other) [ inl n ↦ n refl | inr n ↦ n refl ]
]

on_other_sheet : (sheet : ℕ) (b after : Block) → block_moved (Sheet sheet) b ≡ Some after → after ≡ b
on_other_sheet sheet b after h = grind (arith, nat_tests)

-- the operation of the probe's form
abbrev pub IsProbed : Form → Block → Type 0
IsProbed f after = (g : Form) × (form_probe f ≡ Some g) × IsTouched g after

form_probed : (f : Form) (b after : Block) → IsSoundForm f → IsBlockInside b → IsTouched f b → block_moved f b ≡ Some after → IsProbed f after
form_probed (Lines sheet axis edit) b after sound inside bent h = (Lines sheet axis (edit_probe (limit_of axis) edit), refl, lines_probed sheet axis edit b after sound inside bent h)
form_probed (Cells source to) b after sound inside bent h = elim bent [
  | inl bends ↦ elim (bent_how (Cells source to) b after bends h) [
    | inl other ↦ absurd (same_sizes source to b after h other)
    | inr there ↦ absurd there
  ]
  | inr cut ↦ absurd cut
]
form_probed (Sheet sheet) b after sound inside bent h = elim bent [
  | inl bends ↦ elim (bent_how (Sheet sheet) b after bends h) [
    | inl other ↦ elim (subst (HaveOtherSizes b) (on_other_sheet sheet b after h) other) [ inl n ↦ absurd (n refl) | inr n ↦ absurd (n refl) ]
    | inr there ↦ absurd there
  ]
  | inr cut ↦ absurd cut
]

pub bent_are_probed : BentAreProbed
bent_are_probed s b after sound inside bent h =
    let (g, is, touches) = form_probed (form_of s) b after sound inside bent h in
    (shift_of g, ap (option_map shift_of) is, subst (λ f. IsTouched f after) (sym (form_of-shift_of g)) touches)
