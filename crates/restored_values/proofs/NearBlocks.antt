-- What a probe bends or cuts is near what its operation changed. Serves the law.
use Rattle.std.proofs.Common.{◌≡◌, ◌≢◌, ◌∙◌, sym, ap, refl, subst, ℕ, ◌+◌, ◌-◌, ◌<◌, ◌≤◌, inl, inr, eqb, eq-eqb, ltb, Option, Some, None, max, min, arith}
use Rattle.std.proofs.lemmas.Bool.{cases_eq, cases_lt, cond-true, cond-false, lt-ltb, le-ltb, ne_eqb}
use Rattle.std.proofs.lemmas.Bool.Decides.{nat_tests}
use Rattle.std.proofs.lemmas.Option.{none-some, same_Some}
use Rattle.std.specs.Option.{option_map}
use Rattle.cell_addr.specs.declared.axis.Axis.{Axis}
use Rattle.cell_addr.specs.declared.axis.Span.{Span}
use Rattle.cell_addr.specs.declared.place.Block.{Block}
use Rattle.cell_addr.specs.Axis.{limit_of, span_of, with_span}
use Rattle.cell_addr.specs.Place.{IsBlockInside}
use Rattle.shift_core.specs.declared.edit.Edit.{Edit}
use Rattle.shift_core.specs.declared.edit.Edit.TheVariants.{Insert, Delete, Move}
use Rattle.shift_core.specs.declared.form.Form.{Form}
use Rattle.shift_core.specs.declared.form.Form.TheVariants.{Cells, Lines, Sheet}
use Rattle.shift_core.specs.Bent.{BendsBlock}
use Rattle.shift_core.specs.Form.{IsWithin, form_of}
use Rattle.shift_core.specs.Lines.{IsSoundEdit, IsSoundMove}
use Rattle.shift_core.specs.Sound.{IsSoundForm}
use Rattle.shift_core.specs.Spans.{Displaces, pushed_line, span_after, span_after_insert}
use Rattle.shift_core.specs.Tables.{block_moved}
use Rattle.shift_core.proofs.Axes.{ends_inside}
use Rattle.shift_core.proofs.SpanLaws.{move_ends}
use Rattle.restored_values.specs.Probes.{HasNear, IsNear, ProbesBendFew, edit_probe, form_probe}
use Rattle.restored_values.proofs.ProbedSpans.{HaveOtherLengths, IsSpanBent, border_sound, displaces, down_sound, up_sound, within_down, within_up}
use Rattle.restored_values.proofs.ProbedBlocks.{IsTouched, bent_how, elsewhere, form_given, other_lengths, room}

-- the span has a line near what the edit changed
abbrev pub IsSpanNear : ℕ → Edit → Span → Type 0
IsSpanNear limit edit s = (line : ℕ) × IsWithin s line × IsNear limit edit line

-- ---- inserts

at_end : (limit start : ℕ) (s : Span) → s.first ≤ s.last → s.last < limit → limit ≤ pushed_line start 1 s.last → s.last ≡ limit - 1
at_end limit start s o l cut = grind (arith, nat_tests)

straddles : (limit start : ℕ) (s : Span) → s.first ≤ s.last → s.last < limit → ¬ (limit ≤ pushed_line start 1 s.last)
    → ((t : Span) → span_after_insert limit start 1 s ≡ Some t → HaveOtherLengths s t) → (s.first < start) × (start ≤ s.last)
straddles limit start s o l whole other =
    let t : Span = record { first = pushed_line start 1 s.first; last = pushed_line start 1 s.last } in
    let goes : span_after_insert limit start 1 s ≡ Some t = grind (arith, nat_tests) in
    let differ : s.last - s.first ≢ pushed_line start 1 s.last - pushed_line start 1 s.first = other t goes in
    grind (arith, nat_tests)

insert_near : (limit start count : ℕ) (s : Span) → s.first ≤ s.last → s.last < limit → IsSpanBent limit (Insert start 1) s → IsSpanNear limit (Insert start count) s
insert_near limit start count s o l bent = elim (cases_lt (pushed_line start 1 s.last) limit) [
  | inr cut ↦ (s.last, (o, omega arith), inr (at_end limit start s o l cut))
  | inl whole ↦ elim bent [
    | inl other ↦ let (before, on) = straddles limit start s o l (λ cut. omega arith) other in (start, (omega arith, on), inl refl)
    | inr (inl none) ↦ absurd none
    | inr (inr cut) ↦ absurd (omega arith)
  ]
]

-- ---- moves

-- a move that bends a span displaces a line of it
bent_displaces : (limit start count before : ℕ) (s : Span) → IsSoundMove limit start count before → s.first ≤ s.last → IsSpanBent limit (Move start count before) s → Displaces (Move start count before) s
bent_displaces limit start count before s sound o bent =
    let goes = move_ends limit start count before s sound o in
    elim bent [
      | inl other ↦ displaces limit start count before s _ sound o goes (inl (other _ goes))
      | inr (inl there) ↦ there
      | inr (inr none) ↦ absurd none
    ]

delete_near : (limit start count : ℕ) (s : Span) → 2 ≤ limit → IsSoundEdit limit (Delete start count) → s.first ≤ s.last → IsSpanBent limit (Move (max start 1) 1 (max start 1 - 1)) s
    → IsSpanNear limit (Delete start count) s
delete_near limit start count s two sound o bent =
    let some : 0 < max start 1 = grind (arith, nat_tests) in
    let (line, within, other) = bent_displaces limit (max start 1) 1 (max start 1 - 1) s (border_sound limit start count two sound) o bent in
    let (from, to) = within_up (max start 1) 1 (max start 1 - 1) line (omega arith) other in
    let low : start ≤ line + 1 = grind (arith, nat_tests) in
    (line, within, (low, omega arith))

down_near : (limit start count before : ℕ) (s : Span) → IsSoundMove limit start count before → start + count < before → s.first ≤ s.last → IsSpanBent limit (Move (start - 1) 1 before) s
    → IsSpanNear limit (Move start count before) s
down_near limit start count before s sound down o bent =
    let (line, within, other) = bent_displaces limit (start - 1) 1 before s (down_sound limit start count before sound down) o bent in
    let (from, to) = within_down (start - 1) 1 before line (omega arith) other in
    let low : min start before ≤ line + 1 = grind (arith, nat_tests) in
    let high : line ≤ max (start + count) before = grind (arith, nat_tests) in
    (line, within, (low, high))

up_near : (limit start count before : ℕ) (s : Span) → IsSoundMove limit start count before → before < start → s.first ≤ s.last → IsSpanBent limit (Move (min (start + count) (limit - 1)) 1 before) s
    → IsSpanNear limit (Move start count before) s
up_near limit start count before s sound up o bent =
    let away : before < min (start + count) (limit - 1) = grind (arith, nat_tests) in
    let (line, within, other) = bent_displaces limit (min (start + count) (limit - 1)) 1 before s (up_sound limit start count before sound up) o bent in
    let (from, to) = within_up (min (start + count) (limit - 1)) 1 before line away other in
    let low : min start before ≤ line + 1 = grind (arith, nat_tests) in
    let high : line ≤ max (start + count) before = grind (arith, nat_tests) in
    (line, within, (low, high))

edit_near : (limit : ℕ) (e : Edit) (s : Span) → 2 ≤ limit → IsSoundEdit limit e → s.first ≤ s.last → s.last < limit → IsSpanBent limit (edit_probe limit e) s → IsSpanNear limit e s
edit_near limit (Insert start count) s two sound o l bent = insert_near limit start count s o l bent
edit_near limit (Delete start count) s two sound o l bent = delete_near limit start count s two sound o bent
edit_near limit (Move start count before) s two sound o l bent = elim sound.3 [
  | inr down ↦
      down_near limit start count before s sound down o
      (subst (λ e. IsSpanBent limit e s) (cond-true (ltb (start + count) before) (Move (start - 1) 1 before) (Move (min (start + count) (limit - 1)) 1 before) (lt-ltb (start + count) before down)) bent)
  | inl up ↦
      up_near limit start count before s sound up o
      (subst (λ e. IsSpanBent limit e s) (cond-false (ltb (start + count) before) (Move (start - 1) 1 before) (Move (min (start + count) (limit - 1)) 1 before) (le-ltb (start + count) before (omega arith))) bent)
]

-- ---- blocks

module _ (sheet : ℕ) (axis : Axis) (edit : Edit) (b : Block) where
  on_sheet : b.sheet ≡ sheet → block_moved (Lines sheet axis edit) b ≡ option_map (λ span. with_span axis span b) (span_after (limit_of axis) edit (span_of axis b))
  on_sheet on = cond-true (eqb b.sheet sheet) _ _ (eq-eqb b.sheet sheet on)

  off_sheet : b.sheet ≢ sheet → block_moved (Lines sheet axis edit) b ≡ Some b
  off_sheet off = cond-false (eqb b.sheet sheet) _ _ (ne_eqb b.sheet sheet off)

  -- a block that an edit bends or cuts is on its sheet, and its span is bent
  touched_span : IsTouched (Lines sheet axis edit) b → (b.sheet ≡ sheet) × IsSpanBent (limit_of axis) edit (span_of axis b)
  touched_span bent = elim (cases_eq b.sheet sheet) [
    | inr off ↦ absurd (elsewhere sheet axis edit b off (off_sheet off) bent)
    | inl on ↦ (
      on,
      elim bent [
        | inr cut ↦ inr (inr cut.1)
        | inl bends ↦ by on bends (span_after (limit_of axis) edit (span_of axis b)) refl
      ],
    )
  ]
    where
      by : b.sheet ≡ sheet → BendsBlock (Lines sheet axis edit) b → (o : Option Span) → span_after (limit_of axis) edit (span_of axis b) ≡ o → IsSpanBent (limit_of axis) edit (span_of axis b)
      by on bends None e = inl (λ t h. absurd (none-some t (sym e ∙ h)))
      by on bends (Some t) e = elim (bent_how (Lines sheet axis edit) b (with_span axis t b) bends (on_sheet on ∙ ap (option_map (λ span. with_span axis span b)) e)) [
        | inl other ↦ inl (λ u h. subst (HaveOtherLengths (span_of axis b)) (same_Some t u (sym e ∙ h)) (other_lengths axis b t other))
        | inr there ↦ inr (inl there.1)
      ]

form_near : (f g : Form) (b : Block) → IsSoundForm f → form_probe f ≡ Some g → IsBlockInside b → IsTouched g b → HasNear f b
form_near (Lines sheet axis edit) g b sound e inside bent =
    let ends = ends_inside axis b inside in
    let (on, bends) = touched_span sheet axis (edit_probe (limit_of axis) edit) b (subst (λ h. IsTouched h b) (sym (same_Some _ g e)) bent) in
    let (line, within, near) = edit_near (limit_of axis) edit (span_of axis b) (room axis) sound ends.0 ends.1 bends in
    (on, line, within, near)
form_near (Cells source to) g b sound e inside bent = absurd (none-some g e)
form_near (Sheet sheet) g b sound e inside bent = absurd (none-some g e)

pub probes_bend_few : ProbesBendFew
probes_bend_few s probe b sound named inside bent = form_near (form_of s) (form_of probe) b sound (form_given (form_probe (form_of s)) probe named) inside bent
