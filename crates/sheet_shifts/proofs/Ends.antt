-- A block of which both end lines stay, and that a move takes whole or not at all, has its ends where these lines go, and
-- comes back. Serves the step of a block over an edit.
use Rattle.std.proofs.Common.{◌≡◌, ◌∙◌, sym, ap, refl, subst, arith, ℕ, ◌+◌, ◌-◌, ◌<◌, ◌≤◌, ◌&&◌, Bool, true, false, Option, Some, option_map, option_and_then, if◌then◌else◌, nat_lt}
use Rattle.std.proofs.lemmas.Bool.Decides.{nat_tests}
use Rattle.std.proofs.lemmas.Option.{same_Some}
use Rattle.cell_addr.specs.declared.axis.Span.{Span}
use Rattle.shift_core.specs.Form.{opposite}
use Rattle.shift_core.specs.Lines.{IsSoundEdit, IsSoundInsert, IsSoundMove, is_among, line_after, line_after_delete, line_after_insert, line_after_move, line_before}
use Rattle.shift_core.specs.Spans.{both_ends, span_after, span_after_delete, span_after_insert, span_after_move, span_before}
use Rattle.shift_core.specs.declared.edit.Edit.{Edit}
use Rattle.shift_core.specs.declared.edit.Edit.TheVariants.{Insert, Delete, Move}
use Rattle.shift_core.proofs.LinesReturn.{edit_returns}
use Rattle.shift_core.proofs.SpanLaws.{edit_span_inside, move_ends, opposite_down, opposite_up}
use Rattle.sheet_shifts.specs.internal.Going.{CarriesSpan, TakesWhole}

abbrev span : ℕ → ℕ → Span
span first last = record { first = first; last = last }

-- ---- inserts and deletions

insert-ends : (limit start count : ℕ) (s t : Span) → IsSoundInsert limit start count → s.first ≤ s.last → s.last < limit → line_after_insert limit start count s.first ≡ Some t.first → line_after_insert limit start count s.last ≡ Some t.last → span_after_insert limit start count s ≡ Some t
insert-ends limit start count s t sound o l first last = grind (arith, nat_tests)

delete-ends : (limit start count : ℕ) (s t : Span) → s.first ≤ s.last → s.last < limit → line_after_delete start count s.first ≡ Some t.first → line_after_delete start count s.last ≡ Some t.last → span_after_delete start count s ≡ Some t
delete-ends limit start count s t o l first last = grind (arith, nat_tests)

both-back : (rule : ℕ → Option ℕ) (s t : Span) → rule t.first ≡ Some s.first → rule t.last ≡ Some s.last → both_ends rule t ≡ Some s
both-back rule s t first last =
    ap (option_and_then (λ f. option_map (λ l. record { first = f; last = l }) (rule t.last))) first
    ∙ ap (option_map (λ l. record { first = s.first; last = l })) last

-- ---- moves

both-ways : (rule : ℕ → ℕ) (a b x y : ℕ) (p q : Bool) → p ≡ q
    → (if p && q then span (rule x) (rule y) else span (rule (if p then a else x)) (rule (if q then b else y))) ≡ span (rule x) (rule y)
both-ways rule a b x y true true same = refl
both-ways rule a b x y true false same = absurd (let no : true ≡ false = same in cc)
both-ways rule a b x y false true same = absurd (let no : false ≡ true = same in cc)
both-ways rule a b x y false false same = refl

move-goes : (limit start count before : ℕ) (s t : Span) → IsSoundMove limit start count before → s.first ≤ s.last → is_among start count s.first ≡ is_among start count s.last
    → Some (line_after_move start count before s.first) ≡ Some t.first → Some (line_after_move start count before s.last) ≡ Some t.last → span_after_move start count before s ≡ Some t
move-goes limit start count before s t sound o whole first last =
    let one : line_after_move start count before s.first ≡ t.first = same_Some _ _ first in
    let two : line_after_move start count before s.last ≡ t.last = same_Some _ _ last in
    move_ends limit start count before s sound o
    ∙ ap (λ x. Some x) (both-ways (line_after_move start count before) (start + count) (start - 1) s.first s.last (is_among start count s.first) (is_among start count s.last) whole)
    ∙ ap (λ k. Some (record { first = k; last = line_after_move start count before s.last })) one
    ∙ ap (λ k. Some (record { first = t.first; last = k })) two

among-down : (start count before line : ℕ) → start + count < before → is_among (before - count) count (line_after_move start count before line) ≡ is_among start count line
among-down start count before line down = grind (arith, nat_tests)

among-up : (start count before line : ℕ) → before < start → is_among before count (line_after_move start count before line) ≡ is_among start count line
among-up start count before line up = grind (arith, nat_tests)

-- the opposite move is sound, and takes the same lines
abbrev IsWholeBack : ℕ → Edit → Span → Type 0
IsWholeBack limit e t = IsSoundEdit limit e × TakesWhole e t

whole-back : (limit start count before : ℕ) (s : Span) (b : Bool) → nat_lt (start + count) before ≡ b → IsSoundMove limit start count before → is_among start count s.first ≡ is_among start count s.last
    → IsWholeBack limit (if b then Move (before - count) count start else Move before count (start + count)) (record { first = line_after_move start count before s.first; last = line_after_move start count before s.last })
whole-back limit start count before s true on sound whole =
    let down : start + count < before = grind (arith, nat_tests) in
    (opposite_down limit start count before sound down, among-down start count before s.first down ∙ whole ∙ sym (among-down start count before s.last down))
whole-back limit start count before s false off sound whole =
    let over : before ≤ start + count = grind (arith, nat_tests) in
    let up : before < start = grind (arith, nat_tests) in
    (opposite_up limit start count before sound over, among-up start count before s.first up ∙ whole ∙ sym (among-up start count before s.last up))

-- ---- any edit

ends-go : (limit : ℕ) (e : Edit) (s t : Span) → IsSoundEdit limit e → s.first ≤ s.last → s.last < limit → TakesWhole e s → line_after limit e s.first ≡ Some t.first → line_after limit e s.last ≡ Some t.last → span_after limit e s ≡ Some t
ends-go limit (Insert start count) s t sound o l whole first last = insert-ends limit start count s t sound o l first last
ends-go limit (Delete start count) s t sound o l whole first last = delete-ends limit start count s t o l first last
ends-go limit (Move start count before) s t sound o l whole first last = move-goes limit start count before s t sound o whole first last

ends-back : (limit : ℕ) (e : Edit) (s t : Span) → IsSoundEdit limit e → s.first ≤ s.last → s.last < limit → TakesWhole e s → line_after limit e s.first ≡ Some t.first → line_after limit e s.last ≡ Some t.last
    → t.first ≤ t.last → t.last < limit → span_before limit e t ≡ Some s
ends-back limit (Insert start count) s t sound o l whole first last ordered inside =
    both-back (line_before limit (Insert start count)) s t (edit_returns limit (Insert start count) s.first t.first sound (omega (arith, o, l)) first) (edit_returns limit (Insert start count) s.last t.last sound l last)
ends-back limit (Delete start count) s t sound o l whole first last ordered inside =
    both-back (line_before limit (Delete start count)) s t (edit_returns limit (Delete start count) s.first t.first sound (omega (arith, o, l)) first) (edit_returns limit (Delete start count) s.last t.last sound l last)
ends-back limit (Move start count before) s t sound o l whole first last ordered inside =
    let e = Move start count before in
    let one : line_after_move start count before s.first ≡ t.first = same_Some _ _ first in
    let two : line_after_move start count before s.last ≡ t.last = same_Some _ _ last in
    let there : record { first = line_after_move start count before s.first; last = line_after_move start count before s.last } ≡ t = λ i. record { first = one i; last = two i } in
    let back : IsWholeBack limit (opposite e) t = subst (IsWholeBack limit (opposite e)) there (whole-back limit start count before s (nat_lt (start + count) before) refl sound whole) in
    ends-go limit (opposite e) t s back.0 ordered inside back.1 (edit_returns limit e s.first t.first sound (omega (arith, o, l)) first) (edit_returns limit e s.last t.last sound l last)

-- the ends of such a block stay in order on the sheet
pub ends-carried : (limit : ℕ) (e : Edit) (s t : Span) → IsSoundEdit limit e → s.first ≤ s.last → s.last < limit → TakesWhole e s → line_after limit e s.first ≡ Some t.first → line_after limit e s.last ≡ Some t.last
    → CarriesSpan limit e s t × ((t.first ≤ t.last) × (t.last < limit))
ends-carried limit e s t sound o l whole first last =
    let goes = ends-go limit e s t sound o l whole first last in
    let stays = edit_span_inside limit e s t sound o l goes in
    ((goes, ends-back limit e s t sound o l whole first last stays.0 stays.1), stays)
