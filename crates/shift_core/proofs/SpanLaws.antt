-- What the ends of a block say of its lines. Serves the laws on blocks.
use Rattle.std.proofs.Common.{◌≡◌, refl, ℕ, ◌+◌, ◌-◌, ◌<◌, ◌≤◌, ◌⊎◌, ◌↔◌, inl, inr, Bool, true, false, cond, ltb, Option, Some, None, option_map, arith, sym, ◌∙◌, ap}
use Rattle.std.proofs.lemmas.Bool.Decides.{nat_tests}
use Rattle.std.proofs.lemmas.Bool.{cases_eq, cases_lt, cond-true, cond-false, lt-ltb, le-ltb}
use Rattle.std.proofs.lemmas.Option.{same_Some}
use Rattle.cell_addr.specs.declared.axis.Span.{Span}
use Rattle.shift_core.specs.declared.edit.Edit.{Edit}
use Rattle.shift_core.specs.declared.edit.Edit.TheVariants.{Insert, Delete, Move}
use Rattle.shift_core.specs.Form.{IsWithin}
use Rattle.shift_core.specs.Laws.{KeepsLineOrder, IsPutBetween, span_of_lines}
use Rattle.shift_core.specs.Lines.{IsSoundEdit, IsSoundInsert, IsSoundMove, line_after, line_after_insert, line_after_delete, line_after_move}
use Rattle.shift_core.specs.Spans.{Displaces, PushesOff, both_ends, pushed_line, span_after, span_before, span_after_insert, span_after_delete, span_after_move}
use Rattle.shift_core.proofs.LinesReturn.{line_before_move, move_returns}

-- the ends of one line
abbrev pub one_line : ℕ → Span
one_line r = record { first = r; last = r }

-- some line of the block goes here
abbrev pub LineComesFrom : (ℕ → Option ℕ) → Span → ℕ → Type 0
LineComesFrom rule s q = (r : ℕ) × IsWithin s r × (rule r ≡ Some q)

insert_source : (limit start count : ℕ) (s t : Span) (q : ℕ) → s.first ≤ s.last → span_after_insert limit start count s ≡ Some t → IsWithin t q
    → (IsWithin s q × (q < start)) ⊎ ((IsWithin s (q - count) × (start + count ≤ q)) ⊎ IsPutBetween (Insert start count) s q)
insert_source limit start count s t q o h w = grind (arith, nat_tests)

low_stays : (limit start count q : ℕ) → q < start → line_after_insert limit start count q ≡ Some q
low_stays limit start count q h = grind (arith, nat_tests)

high_moves : (limit start count q : ℕ) → q < limit → start + count ≤ q → line_after_insert limit start count (q - count) ≡ Some q
high_moves limit start count q i h = grind (arith, nat_tests)

low_left : (start count q : ℕ) → q < start → line_after_delete start count q ≡ Some q
low_left start count q h = grind (arith, nat_tests)

high_closes : (start count q : ℕ) → start ≤ q → line_after_delete start count (q + count) ≡ Some q
high_closes start count q h = grind (arith, nat_tests)

insert_covered : (limit start count : ℕ) (s t : Span) (r q : ℕ) → s.last < limit → span_after_insert limit start count s ≡ Some t → IsWithin s r → line_after_insert limit start count r ≡ Some q → IsWithin t q
insert_covered limit start count s t r q l h w e = grind (arith, nat_tests)

insert_put : (limit start count : ℕ) (s t : Span) (q : ℕ) → q < limit → span_after_insert limit start count s ≡ Some t → IsPutBetween (Insert start count) s q → IsWithin t q
insert_put limit start count s t q i h p = grind (arith, nat_tests)

delete_source : (start count : ℕ) (s t : Span) (q : ℕ) → s.first ≤ s.last → span_after_delete start count s ≡ Some t → IsWithin t q
    → (IsWithin s q × (q < start)) ⊎ (IsWithin s (q + count) × (start ≤ q))
delete_source start count s t q o h w = grind (arith, nat_tests)

delete_covered : (start count : ℕ) (s t : Span) (r q : ℕ) → span_after_delete start count s ≡ Some t → IsWithin s r → line_after_delete start count r ≡ Some q → IsWithin t q
delete_covered start count s t r q h w e = grind (arith, nat_tests)

pub insert_covers : (limit start count : ℕ) (s t : Span) (q : ℕ) → s.first ≤ s.last → s.last < limit → q < limit → span_after_insert limit start count s ≡ Some t
    → IsWithin t q ↔ (LineComesFrom (line_after_insert limit start count) s q ⊎ IsPutBetween (Insert start count) s q)
insert_covers limit start count s t q o l i h = (
  λ w. elim (insert_source limit start count s t q o h w) [
    | inl a ↦ inl (q, a.0, low_stays limit start count q a.1)
    | inr (inl a) ↦ inl (q - count, a.0, high_moves limit start count q i a.1)
    | inr (inr put) ↦ inr put
  ],
  λ e. elim e [
    | inl (r, w, m) ↦ insert_covered limit start count s t r q l h w m
    | inr put ↦ insert_put limit start count s t q i h put
  ],
)

pub delete_covers : (limit start count : ℕ) (s t : Span) (q : ℕ) → s.first ≤ s.last → s.last < limit → q < limit → span_after_delete start count s ≡ Some t
    → IsWithin t q ↔ (LineComesFrom (line_after_delete start count) s q ⊎ ⊥)
delete_covers limit start count s t q o l i h = (
  λ w. elim (delete_source start count s t q o h w) [
    | inl a ↦ inl (q, a.0, low_left start count q a.1)
    | inr a ↦ inl (q + count, a.0, high_closes start count q a.1)
  ],
  λ e. elim e [
    | inl (r, w, m) ↦ delete_covered start count s t r q h w m
    | inr never ↦ absurd never
  ],
)

pub insert_loses : (limit start count : ℕ) (s : Span) (r : ℕ) → s.first ≤ s.last → s.last < limit → IsWithin s r → span_after_insert limit start count s ≡ None → line_after_insert limit start count r ≡ None
insert_loses limit start count s r o l w h = grind (arith, nat_tests)

pub insert_lost : (limit start count : ℕ) (s : Span) → s.first ≤ s.last → s.last < limit → line_after_insert limit start count s.first ≡ None → span_after_insert limit start count s ≡ None
insert_lost limit start count s o l h = grind (arith, nat_tests)

pub delete_loses : (start count : ℕ) (s : Span) (r : ℕ) → s.first ≤ s.last → IsWithin s r → span_after_delete start count s ≡ None → line_after_delete start count r ≡ None
delete_loses start count s r o w h = grind (arith, nat_tests)

pub delete_lost : (start count : ℕ) (s : Span) → s.first ≤ s.last → line_after_delete start count s.first ≡ None → line_after_delete start count s.last ≡ None → span_after_delete start count s ≡ None
delete_lost start count s o h k = grind (arith, nat_tests)

pub move_ends : (limit start count before : ℕ) (s : Span) → IsSoundMove limit start count before → s.first ≤ s.last → span_after_move start count before s ≡ Some (span_of_lines start count before s)
move_ends limit start count before s sound o = grind (arith, nat_tests)

pub insert_span_inside : (limit start count : ℕ) (s t : Span) → s.first ≤ s.last → s.last < limit → span_after_insert limit start count s ≡ Some t → (t.first ≤ t.last) × (t.last < limit)
insert_span_inside limit start count s t o l h = grind (arith, nat_tests)

pub delete_span_inside : (limit start count : ℕ) (s t : Span) → s.first ≤ s.last → s.last < limit → span_after_delete start count s ≡ Some t → (t.first ≤ t.last) × (t.last < limit)
delete_span_inside limit start count s t o l h = grind (arith, nat_tests)

moved_in_order : (limit start count before : ℕ) (s : Span) → IsSoundMove limit start count before → s.first ≤ s.last → (span_of_lines start count before s).first ≤ (span_of_lines start count before s).last
moved_in_order limit start count before s sound o = grind (arith, nat_tests)

moved_last_inside : (limit start count before : ℕ) (s : Span) → IsSoundMove limit start count before → s.first ≤ s.last → s.last < limit → (span_of_lines start count before s).last < limit
moved_last_inside limit start count before s sound o l = grind (arith, nat_tests)

pub move_span_inside : (limit start count before : ℕ) (s t : Span) → IsSoundMove limit start count before → s.first ≤ s.last → s.last < limit → span_after_move start count before s ≡ Some t → (t.first ≤ t.last) × (t.last < limit)
move_span_inside limit start count before s t sound o l h =
    let e : span_of_lines start count before s ≡ t = same_Some _ _ (sym (move_ends limit start count before s sound o) ∙ h) in
    rw (← e) (moved_in_order limit start count before s sound o, moved_last_inside limit start count before s sound o l)

pub one_line_insert : (limit start count r : ℕ) → IsSoundInsert limit start count → r < limit → span_after_insert limit start count (one_line r) ≡ option_map one_line (line_after_insert limit start count r)
one_line_insert limit start count r sound i = grind (arith, nat_tests)

pub one_line_delete : (start count r : ℕ) → span_after_delete start count (one_line r) ≡ option_map one_line (line_after_delete start count r)
one_line_delete start count r = grind (arith, nat_tests)

pub one_line_move : (limit start count before r : ℕ) → IsSoundMove limit start count before → span_after_move start count before (one_line r) ≡ Some (one_line (line_after_move start count before r))
one_line_move limit start count before r sound = grind (arith, nat_tests)

pub before_insert_inside : (limit start count : ℕ) (s t : Span) → s.first ≤ s.last → s.last < limit → both_ends (line_after_delete start count) s ≡ Some t → (t.first ≤ t.last) × (t.last < limit)
before_insert_inside limit start count s t o l h = grind (arith, nat_tests)

pub before_delete_inside : (limit start count : ℕ) (s t : Span) → s.first ≤ s.last → s.last < limit → both_ends (line_after_insert limit start count) s ≡ Some t → (t.first ≤ t.last) × (t.last < limit)
before_delete_inside limit start count s t o l h = grind (arith, nat_tests)

pub opposite_down : (limit start count before : ℕ) → IsSoundMove limit start count before → start + count < before → IsSoundMove limit (before - count) count start
opposite_down limit start count before sound d = (sound.0, omega arith, omega arith, inl (omega arith))

pub opposite_up : (limit start count before : ℕ) → IsSoundMove limit start count before → before ≤ start + count → IsSoundMove limit before count (start + count)
opposite_up limit start count before sound u = elim sound.3 [
  | inl b ↦ (sound.0, omega arith, sound.1, inr (omega arith))
  | inr b ↦ absurd (omega arith)
]

-- backward over a move, by the opposite move
abbrev pub span_before_move : ℕ → ℕ → ℕ → Span → Option Span
span_before_move start count before s =
    cond (ltb (start + count) before) (span_after_move (before - count) count start s) (span_after_move before count (start + count) s)

before-by : (down : Bool) (limit start count before : ℕ) (s : Span)
    → span_after limit (cond down (Move (before - count) count start) (Move before count (start + count))) s
    ≡ cond down (span_after_move (before - count) count start s) (span_after_move before count (start + count) s)
before-by true limit start count before s = refl
before-by false limit start count before s = refl

pub span_before-Move : (limit start count before : ℕ) (s : Span) → span_before limit (Move start count before) s ≡ span_before_move start count before s
span_before-Move limit start count before s = before-by (ltb (start + count) before) limit start count before s

before_move_inside : (limit start count before : ℕ) (s t : Span) → IsSoundMove limit start count before → s.first ≤ s.last → s.last < limit → span_before_move start count before s ≡ Some t → (t.first ≤ t.last) × (t.last < limit)
before_move_inside limit start count before s t sound o l h =
    elim (cases_lt (start + count) before) [
      | inl d ↦ move_span_inside limit (before - count) count start s t (opposite_down limit start count before sound d) o l (sym (cond-true (ltb (start + count) before) _ _ (lt-ltb (start + count) before d)) ∙ h)
      | inr u ↦ move_span_inside limit before count (start + count) s t (opposite_up limit start count before sound u) o l (sym (cond-false (ltb (start + count) before) _ _ (le-ltb (start + count) before u)) ∙ h)
    ]

pub insert_carries : (limit start count : ℕ) (s t : Span) (r : ℕ) → IsSoundInsert limit start count → s.first ≤ s.last → ¬ (limit ≤ pushed_line start count s.last) → span_after_insert limit start count s ≡ Some t
    → t.last - t.first ≡ s.last - s.first → IsWithin s r → line_after_insert limit start count r ≡ Some (t.first + (r - s.first))
insert_carries limit start count s t r sound o whole h same w = grind (arith, nat_tests)

pub delete_carries : (start count : ℕ) (s t : Span) (r : ℕ) → 0 < count → s.first ≤ s.last → span_after_delete start count s ≡ Some t
    → t.last - t.first ≡ s.last - s.first → IsWithin s r → line_after_delete start count r ≡ Some (t.first + (r - s.first))
delete_carries start count s t r some o h same w = grind (arith, nat_tests)

-- a block whose outermost lines stay has the same ends
undisplaced : (limit start count before : ℕ) (s : Span) → IsSoundMove limit start count before → s.first ≤ s.last
    → line_after_move start count before s.first ≡ s.first → line_after_move start count before s.last ≡ s.last → (span_of_lines start count before s).first ≡ s.first
undisplaced limit start count before s sound o first last = grind (arith, nat_tests)

pub move_carries : (limit start count before : ℕ) (s t : Span) (r : ℕ) → IsSoundMove limit start count before → s.first ≤ s.last → span_after_move start count before s ≡ Some t
    → ((line : ℕ) → IsWithin s line → line_after_move start count before line ≡ line) → IsWithin s r → line_after_move start count before r ≡ t.first + (r - s.first)
move_carries limit start count before s t r sound o h still w =
    let e : span_of_lines start count before s ≡ t = same_Some _ _ (sym (move_ends limit start count before s sound o) ∙ h) in
    let f : t.first ≡ s.first =
    sym (ap (λ x. x.first) e) ∙ undisplaced limit start count before s sound o (still s.first (omega arith, omega arith)) (still s.last (omega arith, omega arith)) in
    still r w ∙ omega arith

-- the same of every edit
pub edit_span_inside : (limit : ℕ) (e : Edit) (s t : Span) → IsSoundEdit limit e → s.first ≤ s.last → s.last < limit → span_after limit e s ≡ Some t → (t.first ≤ t.last) × (t.last < limit)
edit_span_inside limit (Insert start count) s t sound o l h = insert_span_inside limit start count s t o l h
edit_span_inside limit (Delete start count) s t sound o l h = delete_span_inside limit start count s t o l h
edit_span_inside limit (Move start count before) s t sound o l h = move_span_inside limit start count before s t sound o l h

pub edit_before_span_inside : (limit : ℕ) (e : Edit) (s t : Span) → IsSoundEdit limit e → s.first ≤ s.last → s.last < limit → span_before limit e s ≡ Some t → (t.first ≤ t.last) × (t.last < limit)
edit_before_span_inside limit (Insert start count) s t sound o l h = before_insert_inside limit start count s t o l h
edit_before_span_inside limit (Delete start count) s t sound o l h = before_delete_inside limit start count s t o l h
edit_before_span_inside limit (Move start count before) s t sound o l h =
    before_move_inside limit start count before s t sound o l (sym (span_before-Move limit start count before s) ∙ h)

pub edit_covers : (limit : ℕ) (e : Edit) (s t : Span) (q : ℕ) → KeepsLineOrder e → s.first ≤ s.last → s.last < limit → q < limit → span_after limit e s ≡ Some t
    → IsWithin t q ↔ (LineComesFrom (line_after limit e) s q ⊎ IsPutBetween e s q)
edit_covers limit (Insert start count) s t q keeps o l i h = insert_covers limit start count s t q o l i h
edit_covers limit (Delete start count) s t q keeps o l i h = delete_covers limit start count s t q o l i h
edit_covers limit (Move start count before) s t q keeps o l i h = absurd keeps

pub edit_loses : (limit : ℕ) (e : Edit) (s : Span) (r : ℕ) → KeepsLineOrder e → s.first ≤ s.last → s.last < limit → IsWithin s r → span_after limit e s ≡ None → line_after limit e r ≡ None
edit_loses limit (Insert start count) s r keeps o l w h = insert_loses limit start count s r o l w h
edit_loses limit (Delete start count) s r keeps o l w h = delete_loses start count s r o w h
edit_loses limit (Move start count before) s r keeps o l w h = absurd keeps

pub edit_lost : (limit : ℕ) (e : Edit) (s : Span) → KeepsLineOrder e → s.first ≤ s.last → s.last < limit → line_after limit e s.first ≡ None → line_after limit e s.last ≡ None → span_after limit e s ≡ None
edit_lost limit (Insert start count) s keeps o l first last = insert_lost limit start count s o l first
edit_lost limit (Delete start count) s keeps o l first last = delete_lost start count s o first last
edit_lost limit (Move start count before) s keeps o l first last = absurd keeps

pub one_line_moves : (limit : ℕ) (e : Edit) (r : ℕ) → IsSoundEdit limit e → r < limit → span_after limit e (one_line r) ≡ option_map one_line (line_after limit e r)
one_line_moves limit (Insert start count) r sound i = one_line_insert limit start count r sound i
one_line_moves limit (Delete start count) r sound i = one_line_delete start count r
one_line_moves limit (Move start count before) r sound i = one_line_move limit start count before r sound

-- a span of the same size that isn't cut, and in which no line is displaced
pub record IsCarried (limit : ℕ) (e : Edit) (s t : Span) : Type 0 where
  pub moves : span_after limit e s ≡ Some t
  pub ordered : s.first ≤ s.last
  pub inside : s.last < limit
  pub size : t.last - t.first ≡ s.last - s.first
  pub still : Displaces e s → ⊥
  pub whole : PushesOff limit e s → ⊥

pub undisplaced_line : (start count before : ℕ) (s : Span) → (Displaces (Move start count before) s → ⊥) → (line : ℕ) → IsWithin s line → line_after_move start count before line ≡ line
undisplaced_line start count before s still line w =
    elim (cases_eq (line_after_move start count before line) line) [ inl e ↦ e | inr n ↦ absurd (still (line, w, n)) ]

pub edit_carries : (limit : ℕ) (e : Edit) (s t : Span) (r : ℕ) → IsSoundEdit limit e → IsCarried limit e s t → IsWithin s r → line_after limit e r ≡ Some (t.first + (r - s.first))
edit_carries limit (Insert start count) s t r sound c w = insert_carries limit start count s t r sound c.ordered c.whole c.moves c.size w
edit_carries limit (Delete start count) s t r sound c w = delete_carries start count s t r sound.0 c.ordered c.moves c.size w
edit_carries limit (Move start count before) s t r sound c w =
    ap (λ x. Some x) (move_carries limit start count before s t r sound c.ordered c.moves (undisplaced_line start count before s c.still) w)

insert_comes_back : (limit start count : ℕ) (s t : Span) → IsSoundInsert limit start count → s.first ≤ s.last → ¬ (limit ≤ pushed_line start count s.last) → span_after_insert limit start count s ≡ Some t
    → t.last - t.first ≡ s.last - s.first → both_ends (line_after_delete start count) t ≡ Some s
insert_comes_back limit start count s t sound o whole h same = grind (arith, nat_tests)

delete_comes_back : (limit start count : ℕ) (s t : Span) → 0 < count → s.first ≤ s.last → s.last < limit → span_after_delete start count s ≡ Some t
    → t.last - t.first ≡ s.last - s.first → both_ends (line_after_insert limit start count) t ≡ Some s
delete_comes_back limit start count s t some o l h same = grind (arith, nat_tests)

undisplaced_last : (limit start count before : ℕ) (s : Span) → IsSoundMove limit start count before → s.first ≤ s.last
    → line_after_move start count before s.first ≡ s.first → line_after_move start count before s.last ≡ s.last → (span_of_lines start count before s).last ≡ s.last
undisplaced_last limit start count before s sound o first last = grind (arith, nat_tests)

same_span : (s t : Span) → s.first ≡ t.first → s.last ≡ t.last → s ≡ t
same_span s t e f = λ i. record { first = e i; last = f i }

-- a block whose outermost lines stay is where it was
pub move_keeps : (limit start count before : ℕ) (s : Span) → IsSoundMove limit start count before → s.first ≤ s.last
    → line_after_move start count before s.first ≡ s.first → line_after_move start count before s.last ≡ s.last → span_after_move start count before s ≡ Some s
move_keeps limit start count before s sound o first last =
    move_ends limit start count before s sound o
    ∙ ap (λ x. Some x) (same_span _ _ (undisplaced limit start count before s sound o first last) (undisplaced_last limit start count before s sound o first last))

-- a line that a move leaves, the opposite move leaves
pub still_back : (limit start count before r : ℕ) → IsSoundMove limit start count before → line_after_move start count before r ≡ r → line_before_move start count before r ≡ r
still_back limit start count before r sound e = ap (line_before_move start count before) (sym e) ∙ move_returns limit start count before r sound

move_keeps_back : (limit start count before : ℕ) (s : Span) → IsSoundMove limit start count before → s.first ≤ s.last
    → line_before_move start count before s.first ≡ s.first → line_before_move start count before s.last ≡ s.last → span_before_move start count before s ≡ Some s
move_keeps_back limit start count before s sound o first last =
    elim (cases_lt (start + count) before) [
      | inl d ↦
          let down = lt-ltb (start + count) before d in
          cond-true (ltb (start + count) before) _ _ down
          ∙ move_keeps limit (before - count) count start s (opposite_down limit start count before sound d) o
          (sym (cond-true (ltb (start + count) before) _ _ down) ∙ first) (sym (cond-true (ltb (start + count) before) _ _ down) ∙ last)
      | inr u ↦
          let up = le-ltb (start + count) before u in
          cond-false (ltb (start + count) before) _ _ up
          ∙ move_keeps limit before count (start + count) s (opposite_up limit start count before sound u) o
          (sym (cond-false (ltb (start + count) before) _ _ up) ∙ first) (sym (cond-false (ltb (start + count) before) _ _ up) ∙ last)
    ]

move_comes_back : (limit start count before : ℕ) (s t : Span) → IsSoundMove limit start count before → s.first ≤ s.last → span_after_move start count before s ≡ Some t
    → ((line : ℕ) → IsWithin s line → line_after_move start count before line ≡ line) → span_before_move start count before t ≡ Some s
move_comes_back limit start count before s t sound o h still =
    let first = still s.first (omega arith, o) in
    let last = still s.last (o, omega arith) in
    let same : s ≡ t = same_Some _ _ (sym (move_keeps limit start count before s sound o first last) ∙ h) in
    ap (span_before_move start count before) (sym same)
    ∙ move_keeps_back limit start count before s sound o (still_back limit start count before s.first sound first) (still_back limit start count before s.last sound last)

-- a span that is carried comes back
pub edit_comes_back : (limit : ℕ) (e : Edit) (s t : Span) → IsSoundEdit limit e → IsCarried limit e s t → span_before limit e t ≡ Some s
edit_comes_back limit (Insert start count) s t sound c = insert_comes_back limit start count s t sound c.ordered c.whole c.moves c.size
edit_comes_back limit (Delete start count) s t sound c = delete_comes_back limit start count s t sound.0 c.ordered c.inside c.moves c.size
edit_comes_back limit (Move start count before) s t sound c =
    span_before-Move limit start count before t
    ∙ move_comes_back limit start count before s t sound c.ordered c.moves (undisplaced_line start count before s c.still)
