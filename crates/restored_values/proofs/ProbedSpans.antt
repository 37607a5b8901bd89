-- What an edit's probe does to the ends of a block that the edit bent. Serves the law on probes.
use Rattle.std.proofs.Common.{◌≡◌, ◌≢◌, ◌∙◌, sym, ap, ℕ, ◌+◌, ◌-◌, ◌<◌, ◌≤◌, ◌⊎◌, inl, inr, Bool, true, false, cond, ltb, Some, max, min, arith}
use Rattle.std.proofs.lemmas.Bool.{cases_eq, cases_lt, cond-true, cond-false, lt-ltb, le-ltb}
use Rattle.std.proofs.lemmas.Bool.Decides.{nat_tests}
use Rattle.std.proofs.lemmas.Option.{same_Some}
use Rattle.cell_addr.specs.declared.axis.Span.{Span}
use Rattle.shift_core.specs.declared.edit.Edit.{Edit}
use Rattle.shift_core.specs.declared.edit.Edit.TheVariants.{Insert, Delete, Move}
use Rattle.shift_core.specs.Form.{IsWithin}
use Rattle.shift_core.specs.Laws.{span_of_lines}
use Rattle.shift_core.specs.Lines.{IsSoundDelete, IsSoundEdit, IsSoundInsert, IsSoundMove, line_after_move}
use Rattle.shift_core.specs.Spans.{Displaces, PushesOff, pushed_line, span_after, span_after_delete, span_after_insert, span_after_move}
use Rattle.shift_core.proofs.SpanLaws.{edit_span_inside, move_ends, move_keeps}
use Rattle.restored_values.specs.Probes.{edit_probe}

-- the spans have other numbers of lines
abbrev pub HaveOtherLengths : Span → Span → Type 0
HaveOtherLengths s t = s.last - s.first ≢ t.last - t.first

-- the edit doesn't carry the span along as it is: where it doesn't lose it, its length changes, lines in it are displaced, or it is cut
abbrev pub IsSpanBent : ℕ → Edit → Span → Type 0
IsSpanBent limit edit s = ((t : Span) → span_after limit edit s ≡ Some t → HaveOtherLengths s t) ⊎ (Displaces edit s ⊎ PushesOff limit edit s)

-- ---- inserts

still_cut : (limit start count : ℕ) (s t : Span) → IsSoundInsert limit start count → s.first ≤ s.last → s.last < limit → span_after_insert limit start count s ≡ Some t
    → limit ≤ pushed_line start count s.last → limit ≤ pushed_line start 1 t.last
still_cut limit start count s t sound o l h cut = grind (arith, nat_tests)

grows : (limit start count : ℕ) (s t u : Span) → IsSoundInsert limit start count → s.first ≤ s.last → s.last < limit → span_after_insert limit start count s ≡ Some t
    → HaveOtherLengths s t → pushed_line start 1 t.last < limit → span_after_insert limit start 1 t ≡ Some u → HaveOtherLengths t u
grows limit start count s t u sound o l h other whole k same = grind (arith, nat_tests)

insert_probed : (limit start count : ℕ) (s t : Span) → IsSoundInsert limit start count → s.first ≤ s.last → s.last < limit → span_after_insert limit start count s ≡ Some t
    → HaveOtherLengths s t ⊎ (limit ≤ pushed_line start count s.last) → IsSpanBent limit (Insert start 1) t
insert_probed limit start count s t sound o l h bent = elim bent [
  | inr cut ↦ inr (inr (still_cut limit start count s t sound o l h cut))
  | inl other ↦ elim (cases_lt (pushed_line start 1 t.last) limit) [
    | inl whole ↦ inl (λ u k. grows limit start count s t u sound o l h other whole k)
    | inr cut ↦ inr (inr cut)
  ]
]

-- ---- moves displace the lines between where they take lines from and where they put them

displaced_down : (start count before line : ℕ) → 0 < count → start + count < before → start ≤ line → line < before → line_after_move start count before line ≢ line
displaced_down start count before line some down from to same = grind (arith, nat_tests)

displaced_up : (start count before line : ℕ) → 0 < count → before < start → before ≤ line → line < start + count → line_after_move start count before line ≢ line
displaced_up start count before line some up from to same = grind (arith, nat_tests)

pub within_down : (start count before line : ℕ) → start + count < before → line_after_move start count before line ≢ line → (start ≤ line) × (line < before)
within_down start count before line down other = grind (arith, nat_tests)

pub within_up : (start count before line : ℕ) → before < start → line_after_move start count before line ≢ line → (before ≤ line) × (line < start + count)
within_up start count before line up other = grind (arith, nat_tests)

-- the span has a line of these
meets : (low high : ℕ) (t : Span) → t.first ≤ t.last → low < high → t.first < high → low ≤ t.last → (line : ℕ) × IsWithin t line × ((low ≤ line) × (line < high))
meets low high t o some below above = elim (cases_lt t.first low) [
  | inl before ↦ (low, (omega arith, above), (omega arith, some))
  | inr on ↦ (t.first, (omega arith, o), (on, below))
]

-- ---- deletions

closes_up : (start count : ℕ) (s t : Span) → s.first ≤ s.last → span_after_delete start count s ≡ Some t → HaveOtherLengths s t → (t.first ≤ start) × (start ≤ t.last + 1)
closes_up start count s t o h other = grind (arith, nat_tests)

delete_probed : (limit start count : ℕ) (s t : Span) → s.first ≤ s.last → t.first ≤ t.last → span_after_delete start count s ≡ Some t → HaveOtherLengths s t
    → Displaces (Move (max start 1) 1 (max start 1 - 1)) t
delete_probed limit start count s t o p h other =
    let near = closes_up start count s t o h other in
    let some : 0 < max start 1 = grind (arith, nat_tests) in
    let below : t.first ≤ max start 1 = grind (arith, nat_tests) in
    let above : max start 1 ≤ t.last + 1 = grind (arith, nat_tests) in
    let (line, within, (from, to)) = meets (max start 1 - 1) (max start 1 + 1) t p (omega arith) (omega arith) (omega arith) in
    (line, within, displaced_up (max start 1) 1 (max start 1 - 1) line (omega arith) (omega arith) from to)

-- ---- moves

-- a move that bends a span displaces a line of it
pub displaces : (limit start count before : ℕ) (s t : Span) → IsSoundMove limit start count before → s.first ≤ s.last → span_after_move start count before s ≡ Some t
    → HaveOtherLengths s t ⊎ Displaces (Move start count before) s → Displaces (Move start count before) s
displaces limit start count before s t sound o h bent = elim bent [
  | inr there ↦ there
  | inl other ↦ elim (cases_eq (line_after_move start count before s.first) s.first) [
    | inr first ↦ (s.first, (omega arith, o), first)
    | inl first ↦ elim (cases_eq (line_after_move start count before s.last) s.last) [
      | inr last ↦ (s.last, (o, omega arith), last)
      | inl last ↦
          let same : s ≡ t = same_Some s t (sym (move_keeps limit start count before s sound o first last) ∙ h) in
          absurd (other (ap (λ x. x.last - x.first) same))
    ]
  ]
]

goes_down : (limit start count before : ℕ) (s : Span) → IsSoundMove limit start count before → start + count < before → s.first ≤ s.last → s.first < before → start ≤ s.last
    → ((span_of_lines start count before s).first < before) × (start ≤ (span_of_lines start count before s).last + 1)
goes_down limit start count before s sound down o below above = grind (arith, nat_tests)

goes_up : (limit start count before : ℕ) (s : Span) → IsSoundMove limit start count before → before < start → s.first ≤ s.last → s.first < start + count → before ≤ s.last
    → ((span_of_lines start count before s).first ≤ start + count) × (before ≤ (span_of_lines start count before s).last)
goes_up limit start count before s sound up o below above = grind (arith, nat_tests)

down_probed : (limit start count before : ℕ) (s t : Span) → IsSoundMove limit start count before → start + count < before → s.first ≤ s.last → t.first ≤ t.last
    → span_after_move start count before s ≡ Some t → Displaces (Move start count before) s → Displaces (Move (start - 1) 1 before) t
down_probed limit start count before s t sound down o p h (line, within, other) =
    let (from, to) = within_down start count before line down other in
    let e : span_of_lines start count before s ≡ t = same_Some _ t (sym (move_ends limit start count before s sound o) ∙ h) in
    let near : (t.first < before) × (start ≤ t.last + 1) = rw (← e) (goes_down limit start count before s sound down o (omega arith) (omega arith)) in
    let (at, on, (low, high)) = meets (start - 1) before t p (omega arith) near.0 (omega arith) in
    (at, on, displaced_down (start - 1) 1 before at (omega arith) (omega arith) low high)

up_probed : (limit start count before : ℕ) (s t : Span) → IsSoundMove limit start count before → before < start → s.first ≤ s.last → t.first ≤ t.last → t.last < limit
    → span_after_move start count before s ≡ Some t → Displaces (Move start count before) s → Displaces (Move (min (start + count) (limit - 1)) 1 before) t
up_probed limit start count before s t sound up o p l h (line, within, other) =
    let (from, to) = within_up start count before line up other in
    let e : span_of_lines start count before s ≡ t = same_Some _ t (sym (move_ends limit start count before s sound o) ∙ h) in
    let near : (t.first ≤ start + count) × (before ≤ t.last) = rw (← e) (goes_up limit start count before s sound up o (omega arith) (omega arith)) in
    let away : before < min (start + count) (limit - 1) = grind (arith, nat_tests) in
    let below : t.first ≤ min (start + count) (limit - 1) = grind (arith, nat_tests) in
    let (at, on, (low, high)) = meets before (min (start + count) (limit - 1) + 1) t p (omega arith) (omega arith) near.1 in
    (at, on, displaced_up (min (start + count) (limit - 1)) 1 before at (omega arith) away low high)

-- ---- all of them

chosen_probe : (down : Bool) (limit start count before : ℕ) (t : Span) → Displaces (cond down (Move (start - 1) 1 before) (Move (min (start + count) (limit - 1)) 1 before)) t
    → IsSpanBent limit (cond down (Move (start - 1) 1 before) (Move (min (start + count) (limit - 1)) 1 before)) t
chosen_probe true limit start count before t h = inr (inl h)
chosen_probe false limit start count before t h = inr (inl h)

move_probed : (limit start count before : ℕ) (s t : Span) → IsSoundMove limit start count before → s.first ≤ s.last → t.first ≤ t.last → t.last < limit
    → span_after_move start count before s ≡ Some t → Displaces (Move start count before) s → IsSpanBent limit (edit_probe limit (Move start count before)) t
move_probed limit start count before s t sound o p l h bent = elim sound.3 [
  | inr down ↦
      chosen_probe (ltb (start + count) before) limit start count before t
      (rw (cond-true (ltb (start + count) before) (Move (start - 1) 1 before) (Move (min (start + count) (limit - 1)) 1 before) (lt-ltb (start + count) before down)) (down_probed limit start count before s t sound down o p h bent))
  | inl up ↦
      chosen_probe (ltb (start + count) before) limit start count before t
      (rw (cond-false (ltb (start + count) before) (Move (start - 1) 1 before) (Move (min (start + count) (limit - 1)) 1 before) (le-ltb (start + count) before (omega arith))) (up_probed limit start count before s t sound up o p l h bent))
]

pub edit_probed : (limit : ℕ) (e : Edit) (s t : Span) → IsSoundEdit limit e → s.first ≤ s.last → s.last < limit → span_after limit e s ≡ Some t
    → HaveOtherLengths s t ⊎ (Displaces e s ⊎ PushesOff limit e s) → IsSpanBent limit (edit_probe limit e) t
edit_probed limit (Insert start count) s t sound o l h bent = elim bent [
  | inl other ↦ insert_probed limit start count s t sound o l h (inl other)
  | inr (inl none) ↦ absurd none
  | inr (inr cut) ↦ insert_probed limit start count s t sound o l h (inr cut)
]
edit_probed limit (Delete start count) s t sound o l h bent =
    let on = edit_span_inside limit (Delete start count) s t sound o l h in
    elim bent [
      | inl other ↦ inr (inl (delete_probed limit start count s t o on.0 h other))
      | inr (inl none) ↦ absurd none
      | inr (inr none) ↦ absurd none
    ]
edit_probed limit (Move start count before) s t sound o l h bent =
    let on = edit_span_inside limit (Move start count before) s t sound o l h in
    let there : Displaces (Move start count before) s = elim bent [
      | inl other ↦ displaces limit start count before s t sound o h (inl other)
      | inr (inl here) ↦ here
      | inr (inr none) ↦ absurd none
    ] in
    move_probed limit start count before s t sound o on.0 on.1 h there

-- ---- probes are sound

pub border_sound : (limit start count : ℕ) → 2 ≤ limit → IsSoundDelete limit start count → IsSoundMove limit (max start 1) 1 (max start 1 - 1)
border_sound limit start count room sound =
    let some : 0 < max start 1 = grind (arith, nat_tests) in
    let inside : max start 1 + 1 ≤ limit = grind (arith, nat_tests) in
    (omega arith, inside, omega arith, inl (omega arith))

pub down_sound : (limit start count before : ℕ) → IsSoundMove limit start count before → start + count < before → IsSoundMove limit (start - 1) 1 before
down_sound limit start count before sound down = (omega arith, omega arith, omega arith, inr (omega arith))

pub up_sound : (limit start count before : ℕ) → IsSoundMove limit start count before → before < start → IsSoundMove limit (min (start + count) (limit - 1)) 1 before
up_sound limit start count before sound up =
    let away : before < min (start + count) (limit - 1) = grind (arith, nat_tests) in
    let inside : min (start + count) (limit - 1) + 1 ≤ limit = grind (arith, nat_tests) in
    (omega arith, inside, omega arith, inl away)

pub edit_probe_sound : (limit : ℕ) (e : Edit) → 2 ≤ limit → IsSoundEdit limit e → IsSoundEdit limit (edit_probe limit e)
edit_probe_sound limit (Insert start count) room sound = (omega arith, sound.1)
edit_probe_sound limit (Delete start count) room sound = border_sound limit start count room sound
edit_probe_sound limit (Move start count before) room sound = elim sound.3 [
  | inr down ↦ rw (cond-true (ltb (start + count) before) (Move (start - 1) 1 before) (Move (min (start + count) (limit - 1)) 1 before) (lt-ltb (start + count) before down)) (down_sound limit start count before sound down)
  | inl up ↦ rw (cond-false (ltb (start + count) before) (Move (start - 1) 1 before) (Move (min (start + count) (limit - 1)) 1 before) (le-ltb (start + count) before (omega arith))) (up_sound limit start count before sound up)
]
