-- What a rule for lines makes of places and blocks along one axis, whichever it is. Serves the laws.
use Rattle.std.proofs.Common.{◌≡◌, ◌≢◌, ℕ, ◌+◌, ◌-◌, ◌<◌, ◌≤◌, ◌⊎◌, ◌↔◌, inl, inr, Bool, true, false, cond, eqb, eq-eqb, Option, Some, None, option_map, arith, refl, sym, ◌∙◌, ap}
use Rattle.std.proofs.lemmas.Bool.{eqb-true, eqb-false, ne_eqb, cond-true, cond-false, cases_eq}
use Rattle.cell_addr.specs.declared.axis.Axis.{Axis}
use Rattle.cell_addr.specs.declared.axis.Axis.TheVariants.{Rows, Cols}
use Rattle.cell_addr.specs.declared.axis.Span.{Span}
use Rattle.cell_addr.specs.declared.place.Place.{Place}
use Rattle.cell_addr.specs.declared.place.Block.{Block}
use Rattle.cell_addr.specs.Axis.{limit_of, line_of, with_line, span_of, with_span}
use Rattle.cell_addr.specs.Place.{IsInside, IsBlockInside, Covers}
use Rattle.shift_core.specs.Bent.{HaveOtherSizes}
use Rattle.shift_core.specs.Carried.{carried_place, first_place, last_place}
use Rattle.shift_core.specs.Form.{across, IsWithin}
use Rattle.shift_core.specs.Laws.{one_cell}
use Rattle.shift_core.specs.Tables.{by_line, by_span}
use Rattle.shift_core.proofs.CellMoves.{same_place}
use Rattle.shift_core.proofs.SpanLaws.{LineComesFrom, one_line}

-- what a block covers, along the axis and across it
pub covers_along : (axis : Axis) (b : Block) (p : Place) → Covers b p → (b.sheet ≡ p.sheet) × IsWithin (span_of axis b) (line_of axis p) × IsWithin (span_of (across axis) b) (line_of (across axis) p)
covers_along Rows b p c = (c.0, (c.1, c.2), (c.3, c.4))
covers_along Cols b p c = (c.0, (c.3, c.4), (c.1, c.2))

pub covers_by : (axis : Axis) (b : Block) (p : Place) → b.sheet ≡ p.sheet → IsWithin (span_of axis b) (line_of axis p) → IsWithin (span_of (across axis) b) (line_of (across axis) p) → Covers b p
covers_by Rows b p e v w = (e, v.0, v.1, w.0, w.1)
covers_by Cols b p e v w = (e, w.0, w.1, v.0, v.1)

-- a span in order that ends on the sheet
abbrev pub IsOnSheet : ℕ → Span → Type 0
IsOnSheet limit s = (s.first ≤ s.last) × (s.last < limit)

pub ends_inside : (axis : Axis) (b : Block) → IsBlockInside b → IsOnSheet (limit_of axis) (span_of axis b)
ends_inside Rows b i = (i.0, i.1)
ends_inside Cols b i = (i.2, i.3)

pub block_inside : (axis : Axis) (b : Block) → IsOnSheet (limit_of axis) (span_of axis b) → IsOnSheet (limit_of (across axis)) (span_of (across axis) b) → IsBlockInside b
block_inside Rows b v w = (v.0, v.1, w.0, w.1)
block_inside Cols b v w = (w.0, w.1, v.0, v.1)

pub line_inside : (axis : Axis) (p : Place) → IsInside p → line_of axis p < limit_of axis
line_inside Rows p i = i.0
line_inside Cols p i = i.1

pub place_inside : (axis : Axis) (p : Place) → line_of axis p < limit_of axis → line_of (across axis) p < limit_of (across axis) → IsInside p
place_inside Rows p i j = (i, j)
place_inside Cols p i j = (j, i)

-- a place with another line
pub line_of-with_line : (axis : Axis) (n : ℕ) (p : Place) → line_of axis (with_line axis n p) ≡ n
line_of-with_line Rows n p = refl
line_of-with_line Cols n p = refl

pub across-with_line : (axis : Axis) (n : ℕ) (p : Place) → line_of (across axis) (with_line axis n p) ≡ line_of (across axis) p
across-with_line Rows n p = refl
across-with_line Cols n p = refl

pub sheet-with_line : (axis : Axis) (n : ℕ) (p : Place) → (with_line axis n p).sheet ≡ p.sheet
sheet-with_line Rows n p = refl
sheet-with_line Cols n p = refl

pub with_line-back : (axis : Axis) (n : ℕ) (p : Place) → with_line axis (line_of axis p) (with_line axis n p) ≡ p
with_line-back Rows n p = refl
with_line-back Cols n p = refl

pub same_lines : (axis : Axis) (p q : Place) → p.sheet ≡ q.sheet → line_of axis p ≡ line_of axis q → line_of (across axis) p ≡ line_of (across axis) q → p ≡ q
same_lines Rows p q sheets along over = same_place p q sheets along over
same_lines Cols p q sheets along over = same_place p q sheets over along

-- a block with other lines
pub span_of-with_span : (axis : Axis) (s : Span) (b : Block) → span_of axis (with_span axis s b) ≡ s
span_of-with_span Rows s b = refl
span_of-with_span Cols s b = refl

pub across-with_span : (axis : Axis) (s : Span) (b : Block) → span_of (across axis) (with_span axis s b) ≡ span_of (across axis) b
across-with_span Rows s b = refl
across-with_span Cols s b = refl

pub sheet-with_span : (axis : Axis) (s : Span) (b : Block) → (with_span axis s b).sheet ≡ b.sheet
sheet-with_span Rows s b = refl
sheet-with_span Cols s b = refl

pub with_span-back : (axis : Axis) (s : Span) (b : Block) → with_span axis (span_of axis b) (with_span axis s b) ≡ b
with_span-back Rows s b = refl
with_span-back Cols s b = refl

-- the first and the last place of a block, the block of one place, and the offset of a place in a block
line_of-first_place : (axis : Axis) (b : Block) → line_of axis (first_place b) ≡ (span_of axis b).first
line_of-first_place Rows b = refl
line_of-first_place Cols b = refl

line_of-last_place : (axis : Axis) (b : Block) → line_of axis (last_place b) ≡ (span_of axis b).last
line_of-last_place Rows b = refl
line_of-last_place Cols b = refl

span_of-one_cell : (axis : Axis) (p : Place) → span_of axis (one_cell p) ≡ one_line (line_of axis p)
span_of-one_cell Rows p = refl
span_of-one_cell Cols p = refl

with_span-one_cell : (axis : Axis) (n : ℕ) (p : Place) → with_span axis (one_line n) (one_cell p) ≡ one_cell (with_line axis n p)
with_span-one_cell Rows n p = refl
with_span-one_cell Cols n p = refl

line_of-carried_place : (axis : Axis) (b after : Block) (p : Place) → line_of axis (carried_place b (first_place after) p) ≡ (span_of axis after).first + (line_of axis p - (span_of axis b).first)
line_of-carried_place Rows b after p = refl
line_of-carried_place Cols b after p = refl

-- blocks that haven't other sizes have the same along each axis
pub size_along : (axis : Axis) (b after : Block) → ¬ HaveOtherSizes b after → (span_of axis after).last - (span_of axis after).first ≡ (span_of axis b).last - (span_of axis b).first
size_along Rows b after same = elim (cases_eq (b.bottom - b.top) (after.bottom - after.top)) [ inl e ↦ sym e | inr n ↦ absurd (same (inl n)) ]
size_along Cols b after same = elim (cases_eq (b.right - b.left) (after.right - after.left)) [ inl e ↦ sym e | inr n ↦ absurd (same (inr n)) ]

-- a rule for a part of what is on the sheet: it answers, what isn't on the sheet stays, or the rule answers none
chosen : {A B : Type 0} (on : Bool) (r : Option B) (g : B → A) (x y : A) → cond on (option_map g r) (Some x) ≡ Some y → ((n : B) × ((on ≡ true) × (r ≡ Some n) × (y ≡ g n))) ⊎ ((on ≡ false) × (y ≡ x))
chosen true None g x y h = cc
chosen true (Some n) g x y h = inl (n, (refl, refl, cc))
chosen false r g x y h = inr (refl, cc)

chosen_none : {A B : Type 0} (on : Bool) (r : Option B) (g : B → A) (x : A) → cond on (option_map g r) (Some x) ≡ None → (on ≡ true) × (r ≡ None)
chosen_none true None g x h = (refl, refl)
chosen_none true (Some n) g x h = cc
chosen_none false r g x h = cc

-- the rule moves the line of a place on the sheet, or the place stays
abbrev pub IsLineMoved : ℕ → Axis → (ℕ → Option ℕ) → Place → Place → ℕ → Type 0
IsLineMoved sheet axis f p q n = (p.sheet ≡ sheet) × (f (line_of axis p) ≡ Some n) × (q ≡ with_line axis n p)

pub cases_by_line : (sheet : ℕ) (axis : Axis) (f : ℕ → Option ℕ) (p q : Place) → by_line sheet axis f p ≡ Some q → ((n : ℕ) × IsLineMoved sheet axis f p q n) ⊎ ((p.sheet ≢ sheet) × (q ≡ p))
cases_by_line sheet axis f p q h =
    elim (chosen (eqb p.sheet sheet) (f (line_of axis p)) (λ n. with_line axis n p) p q h) [
      | inl (n, (on, r, e)) ↦ inl (n, (eqb-true p.sheet sheet on, r, e))
      | inr w ↦ inr (eqb-false p.sheet sheet w.0, w.1)
    ]

by_line_on : (sheet : ℕ) (axis : Axis) (f : ℕ → Option ℕ) (p : Place) (n : ℕ) → p.sheet ≡ sheet → f (line_of axis p) ≡ Some n → by_line sheet axis f p ≡ Some (with_line axis n p)
by_line_on sheet axis f p n e h = cond-true (eqb p.sheet sheet) _ _ (eq-eqb p.sheet sheet e) ∙ ap (option_map (λ line. with_line axis line p)) h

pub by_line_off : (sheet : ℕ) (axis : Axis) (f : ℕ → Option ℕ) (p : Place) → p.sheet ≢ sheet → by_line sheet axis f p ≡ Some p
by_line_off sheet axis f p n = cond-false (eqb p.sheet sheet) _ _ (ne_eqb p.sheet sheet n)

by_line_lost : (sheet : ℕ) (axis : Axis) (f : ℕ → Option ℕ) (p : Place) → p.sheet ≡ sheet → f (line_of axis p) ≡ None → by_line sheet axis f p ≡ None
by_line_lost sheet axis f p e h = cond-true (eqb p.sheet sheet) _ _ (eq-eqb p.sheet sheet e) ∙ ap (option_map (λ line. with_line axis line p)) h

pub lost_line : (sheet : ℕ) (axis : Axis) (f : ℕ → Option ℕ) (p : Place) → by_line sheet axis f p ≡ None → (p.sheet ≡ sheet) × (f (line_of axis p) ≡ None)
lost_line sheet axis f p h =
    let w = chosen_none (eqb p.sheet sheet) (f (line_of axis p)) (λ n. with_line axis n p) p h in (eqb-true p.sheet sheet w.0, w.1)

-- the rule moves the ends of a block on the sheet, or the block stays
abbrev pub IsSpanMoved : ℕ → Axis → (Span → Option Span) → Block → Block → Span → Type 0
IsSpanMoved sheet axis F b after t = (b.sheet ≡ sheet) × (F (span_of axis b) ≡ Some t) × (after ≡ with_span axis t b)

pub cases_by_span : (sheet : ℕ) (axis : Axis) (F : Span → Option Span) (b after : Block) → by_span sheet axis F b ≡ Some after → ((t : Span) × IsSpanMoved sheet axis F b after t) ⊎ ((b.sheet ≢ sheet) × (after ≡ b))
cases_by_span sheet axis F b after h =
    elim (chosen (eqb b.sheet sheet) (F (span_of axis b)) (λ t. with_span axis t b) b after h) [
      | inl (t, (on, r, e)) ↦ inl (t, (eqb-true b.sheet sheet on, r, e))
      | inr w ↦ inr (eqb-false b.sheet sheet w.0, w.1)
    ]

by_span_on : (sheet : ℕ) (axis : Axis) (F : Span → Option Span) (b : Block) (t : Span) → b.sheet ≡ sheet → F (span_of axis b) ≡ Some t → by_span sheet axis F b ≡ Some (with_span axis t b)
by_span_on sheet axis F b t e h = cond-true (eqb b.sheet sheet) _ _ (eq-eqb b.sheet sheet e) ∙ ap (option_map (λ span. with_span axis span b)) h

pub by_span_off : (sheet : ℕ) (axis : Axis) (F : Span → Option Span) (b : Block) → b.sheet ≢ sheet → by_span sheet axis F b ≡ Some b
by_span_off sheet axis F b n = cond-false (eqb b.sheet sheet) _ _ (ne_eqb b.sheet sheet n)

by_span_lost : (sheet : ℕ) (axis : Axis) (F : Span → Option Span) (b : Block) → b.sheet ≡ sheet → F (span_of axis b) ≡ None → by_span sheet axis F b ≡ None
by_span_lost sheet axis F b e h = cond-true (eqb b.sheet sheet) _ _ (eq-eqb b.sheet sheet e) ∙ ap (option_map (λ span. with_span axis span b)) h

lost_span : (sheet : ℕ) (axis : Axis) (F : Span → Option Span) (b : Block) → by_span sheet axis F b ≡ None → (b.sheet ≡ sheet) × (F (span_of axis b) ≡ None)
lost_span sheet axis F b h =
    let w = chosen_none (eqb b.sheet sheet) (F (span_of axis b)) (λ t. with_span axis t b) b h in (eqb-true b.sheet sheet w.0, w.1)

-- a rule that a second one undoes
pub by_line_returns : (sheet : ℕ) (axis : Axis) (f g : ℕ → Option ℕ) → ((r q : ℕ) → r < limit_of axis → f r ≡ Some q → g q ≡ Some r)
    → (p q : Place) → line_of axis p < limit_of axis → by_line sheet axis f p ≡ Some q → by_line sheet axis g q ≡ Some p
by_line_returns sheet axis f g returns p q i h =
    elim (cases_by_line sheet axis f p q h) [
      | inl (n, w) ↦
          ap (by_line sheet axis g) w.2
          ∙ by_line_on sheet axis g (with_line axis n p) (line_of axis p) (sheet-with_line axis n p ∙ w.0) (ap g (line_of-with_line axis n p) ∙ returns (line_of axis p) n i w.1)
          ∙ ap (λ x. Some x) (with_line-back axis n p)
      | inr w ↦ ap (by_line sheet axis g) w.1 ∙ by_line_off sheet axis g p w.0
    ]

pub by_line_inside : (sheet : ℕ) (axis : Axis) (f : ℕ → Option ℕ) → ((r q : ℕ) → r < limit_of axis → f r ≡ Some q → q < limit_of axis)
    → (p q : Place) → IsInside p → by_line sheet axis f p ≡ Some q → IsInside q
by_line_inside sheet axis f inside p q i h =
    elim (cases_by_line sheet axis f p q h) [
      | inl (n, w) ↦
          rw w.2 (place_inside axis (with_line axis n p) (rw (line_of-with_line axis n p) (inside (line_of axis p) n (line_inside axis p i) w.1)) (rw (across-with_line axis n p) (line_inside (across axis) p i)))
      | inr w ↦ rw w.1 i
    ]

pub by_span_inside : (sheet : ℕ) (axis : Axis) (F : Span → Option Span) → ((s t : Span) → s.first ≤ s.last → s.last < limit_of axis → F s ≡ Some t → IsOnSheet (limit_of axis) t)
    → (b after : Block) → IsBlockInside b → by_span sheet axis F b ≡ Some after → IsBlockInside after
by_span_inside sheet axis F inside b after i h =
    elim (cases_by_span sheet axis F b after h) [
      | inl (t, w) ↦
          let ends = ends_inside axis b i in
          rw w.2 (block_inside axis (with_span axis t b) (rw (span_of-with_span axis t b) (inside (span_of axis b) t ends.0 ends.1 w.1)) (rw (across-with_span axis t b) (ends_inside (across axis) b i)))
      | inr w ↦ rw w.1 i
    ]

-- the rule moves a place of the block here
abbrev pub ComesAlong : ℕ → Axis → (ℕ → Option ℕ) → Block → Place → Type 0
ComesAlong sheet axis rule b q = (p : Place) × Covers b p × (by_line sheet axis rule p ≡ Some q)

-- the place is on a line that is put into the block
abbrev pub IsPutAlong : ℕ → Axis → (Span → ℕ → Type 0) → Block → Place → Type 0
IsPutAlong sheet axis Put b q =
    (b.sheet ≡ sheet) × (q.sheet ≡ sheet) × Put (span_of axis b) (line_of axis q) × IsWithin (span_of (across axis) b) (line_of (across axis) q)

-- where the line rule tells what the ends cover, so it does for blocks
covers_on : (sheet : ℕ) (axis : Axis) (f : ℕ → Option ℕ) (Put : Span → ℕ → Type 0) (b : Block) (t : Span) (q : Place) → b.sheet ≡ sheet
    → IsWithin t (line_of axis q) ↔ (LineComesFrom f (span_of axis b) (line_of axis q) ⊎ Put (span_of axis b) (line_of axis q))
    → Covers (with_span axis t b) q ↔ (ComesAlong sheet axis f b q ⊎ IsPutAlong sheet axis Put b q)
covers_on sheet axis f Put b t q on lines = (
  λ c.
      let w = covers_along axis (with_span axis t b) q c in
      let over : IsWithin (span_of (across axis) b) (line_of (across axis) q) = rw across-with_span at w.2 in
      let here : b.sheet ≡ q.sheet = sym (sheet-with_span axis t b) ∙ w.0 in
      elim (lines.0 (rw span_of-with_span at w.1)) [
        | inl (n, within, m) ↦ inl (
          with_line axis n q,
          covers_by axis b (with_line axis n q) (here ∙ sym (sheet-with_line axis n q)) (rw (line_of-with_line axis n q) within) (rw (across-with_line axis n q) over),
          by_line_on sheet axis f (with_line axis n q) (line_of axis q) (sheet-with_line axis n q ∙ sym here ∙ on) (ap f (line_of-with_line axis n q) ∙ m) ∙ ap (λ x. Some x) (with_line-back axis n q),
        )
        | inr put ↦ inr (on, sym here ∙ on, put, over)
      ],
  λ e. elim e [
    | inl (p, c, m) ↦
        let w = covers_along axis b p c in
        elim (cases_by_line sheet axis f p q m) [
          | inl (n, moved) ↦
              let along : line_of axis q ≡ n = ap (line_of axis) moved.2 ∙ line_of-with_line axis n p in
              let over : line_of (across axis) q ≡ line_of (across axis) p = ap (line_of (across axis)) moved.2 ∙ across-with_line axis n p in
              covers_by axis (with_span axis t b) q
              (sheet-with_span axis t b ∙ w.0 ∙ sym (ap (λ x. x.sheet) moved.2 ∙ sheet-with_line axis n p))
              (rw (span_of-with_span axis t b) (lines.1 (inl (line_of axis p, w.1, moved.1 ∙ ap (λ x. Some x) (sym along)))))
              (rw (across-with_span axis t b, over) w.2)
          | inr stays ↦ absurd (stays.0 (sym w.0 ∙ on))
        ]
    | inr w ↦
        covers_by axis (with_span axis t b) q (sheet-with_span axis t b ∙ w.0 ∙ sym w.1)
        (rw (span_of-with_span axis t b) (lines.1 (inr w.2))) (rw (across-with_span axis t b) w.3)
  ],
)

covers_off : (sheet : ℕ) (axis : Axis) (f : ℕ → Option ℕ) (Put : Span → ℕ → Type 0) (b : Block) (q : Place) → b.sheet ≢ sheet → Covers b q ↔ (ComesAlong sheet axis f b q ⊎ IsPutAlong sheet axis Put b q)
covers_off sheet axis f Put b q off = (
  λ c. inl (q, c, by_line_off sheet axis f q (λ h. off (c.0 ∙ h))),
  λ e. elim e [
    | inl (p, c, m) ↦ elim (cases_by_line sheet axis f p q m) [
      | inl (n, w) ↦ absurd (off (c.0 ∙ w.0))
      | inr w ↦ rw w.1 c
    ]
    | inr w ↦ absurd (off w.0)
  ],
)

pub by_span_covers : (sheet : ℕ) (axis : Axis) (f : ℕ → Option ℕ) (F : Span → Option Span) (Put : Span → ℕ → Type 0)
    → ((s t : Span) (q : ℕ) → s.first ≤ s.last → s.last < limit_of axis → q < limit_of axis → F s ≡ Some t → IsWithin t q ↔ (LineComesFrom f s q ⊎ Put s q))
    → (b after : Block) (q : Place) → IsBlockInside b → IsInside q → by_span sheet axis F b ≡ Some after
    → Covers after q ↔ (ComesAlong sheet axis f b q ⊎ IsPutAlong sheet axis Put b q)
by_span_covers sheet axis f F Put lines b after q i j h =
    elim (cases_by_span sheet axis F b after h) [
      | inl (t, w) ↦ let ends = ends_inside axis b i in rw w.2 (covers_on sheet axis f Put b t q w.0 (lines (span_of axis b) t (line_of axis q) ends.0 ends.1 (line_inside axis q j) w.1))
      | inr w ↦ rw w.1 (covers_off sheet axis f Put b q w.0)
    ]

first_covered : (b : Block) → IsBlockInside b → Covers b (first_place b)
first_covered b i = (refl, omega arith, omega arith, omega arith, omega arith)

last_covered : (b : Block) → IsBlockInside b → Covers b (last_place b)
last_covered b i = (refl, omega arith, omega arith, omega arith, omega arith)

pub by_span_loses : (sheet : ℕ) (axis : Axis) (f : ℕ → Option ℕ) (F : Span → Option Span)
    → ((s : Span) (r : ℕ) → s.first ≤ s.last → s.last < limit_of axis → IsWithin s r → F s ≡ None → f r ≡ None)
    → ((s : Span) → s.first ≤ s.last → s.last < limit_of axis → f s.first ≡ None → f s.last ≡ None → F s ≡ None)
    → (b : Block) → IsBlockInside b → (by_span sheet axis F b ≡ None) ↔ ((p : Place) → Covers b p → by_line sheet axis f p ≡ None)
by_span_loses sheet axis f F loses lost b i =
    let ends = ends_inside axis b i in (
      λ h p c.
          let w = lost_span sheet axis F b h in
          let along = covers_along axis b p c in
          by_line_lost sheet axis f p (sym along.0 ∙ w.0) (loses (span_of axis b) (line_of axis p) ends.0 ends.1 along.1 w.1),
      λ all.
          let first = lost_line sheet axis f (first_place b) (all _ (first_covered b i)) in
          let last = lost_line sheet axis f (last_place b) (all _ (last_covered b i)) in
          by_span_lost sheet axis F b first.0 (lost (span_of axis b) ends.0 ends.1 (ap f (sym (line_of-first_place axis b)) ∙ first.1) (ap f (sym (line_of-last_place axis b)) ∙ last.1)),
    )

one_cell-by : (axis : Axis) (on : Bool) (r : Option ℕ) (p : Place)
    → cond on (option_map (λ span. with_span axis span (one_cell p)) (option_map one_line r)) (Some (one_cell p)) ≡ option_map one_cell (cond on (option_map (λ line. with_line axis line p) r) (Some p))
one_cell-by axis true None p = refl
one_cell-by axis true (Some n) p = ap (λ x. Some x) (with_span-one_cell axis n p)
one_cell-by axis false r p = refl

pub by_span_one_cell : (sheet : ℕ) (axis : Axis) (f : ℕ → Option ℕ) (F : Span → Option Span) (p : Place) → F (one_line (line_of axis p)) ≡ option_map one_line (f (line_of axis p))
    → by_span sheet axis F (one_cell p) ≡ option_map one_cell (by_line sheet axis f p)
by_span_one_cell sheet axis f F p h =
    ap (λ r. cond (eqb p.sheet sheet) (option_map (λ span. with_span axis span (one_cell p)) r) (Some (one_cell p))) (ap F (span_of-one_cell axis p) ∙ h)
    ∙ one_cell-by axis (eqb p.sheet sheet) (f (line_of axis p)) p

-- two rules that agree on the lines of the block
pub by_span_same : (sheet : ℕ) (axis : Axis) (F G : Span → Option Span) (b : Block) → F (span_of axis b) ≡ G (span_of axis b) → by_span sheet axis F b ≡ by_span sheet axis G b
by_span_same sheet axis F G b h = ap (λ r. cond (eqb b.sheet sheet) (option_map (λ span. with_span axis span b) r) (Some b)) h

-- a place keeps its offset in a block that stays
offset_kept : (b : Block) (p : Place) → Covers b p → p ≡ carried_place b (first_place b) p
offset_kept b p c = same_place p (carried_place b (first_place b) p) (sym c.0) (omega arith) (omega arith)

-- across the axis, a place keeps its offset in a block whose lines along it move
across_kept : (axis : Axis) (b : Block) (t : Span) (p : Place) → Covers b p → line_of (across axis) p ≡ line_of (across axis) (carried_place b (first_place (with_span axis t b)) p)
across_kept Rows b t p c = omega arith
across_kept Cols b t p c = omega arith

carries_on : (sheet : ℕ) (axis : Axis) (f : ℕ → Option ℕ) (b : Block) (t : Span) (p : Place) → b.sheet ≡ sheet → Covers b p
    → f (line_of axis p) ≡ Some (t.first + (line_of axis p - (span_of axis b).first)) → by_line sheet axis f p ≡ Some (carried_place b (first_place (with_span axis t b)) p)
carries_on sheet axis f b t p on c h =
    let n = t.first + (line_of axis p - (span_of axis b).first) in
    by_line_on sheet axis f p n (sym c.0 ∙ on) h
    ∙ ap (λ x. Some x) (same_lines axis (with_line axis n p) (carried_place b (first_place (with_span axis t b)) p)
    (sheet-with_line axis n p ∙ sym c.0 ∙ sym (sheet-with_span axis t b))
    (line_of-with_line axis n p ∙ sym (line_of-carried_place axis b (with_span axis t b) p ∙ ap (λ s. s.first + (line_of axis p - (span_of axis b).first)) (span_of-with_span axis t b)))
    (across-with_line axis n p ∙ across_kept axis b t p c))

-- where the first line of a block takes the others along, so does the block
pub by_span_carries : (sheet : ℕ) (axis : Axis) (f : ℕ → Option ℕ) (F : Span → Option Span) (b after : Block) (p : Place)
    → (b.sheet ≡ sheet → F (span_of axis b) ≡ Some (span_of axis after) → f (line_of axis p) ≡ Some ((span_of axis after).first + (line_of axis p - (span_of axis b).first)))
    → by_span sheet axis F b ≡ Some after → Covers b p → by_line sheet axis f p ≡ Some (carried_place b (first_place after) p)
by_span_carries sheet axis f F b after p lines h c =
    elim (cases_by_span sheet axis F b after h) [
      | inl (t, w) ↦
          let ends : span_of axis after ≡ t = ap (span_of axis) w.2 ∙ span_of-with_span axis t b in
          let moved = lines w.0 (w.1 ∙ ap (λ s. Some s) (sym ends)) in
          rw w.2 (carries_on sheet axis f b t p w.0 c (moved ∙ ap (λ s. Some (s.first + (line_of axis p - (span_of axis b).first))) ends))
      | inr w ↦ rw w.1 (by_line_off sheet axis f p (λ e. w.0 (c.0 ∙ e)) ∙ ap (λ x. Some x) (offset_kept b p c))
    ]

-- where a second rule brings the lines of a block back, so it does the block
pub by_span_returns : (sheet : ℕ) (axis : Axis) (F G : Span → Option Span) (b after : Block)
    → (b.sheet ≡ sheet → F (span_of axis b) ≡ Some (span_of axis after) → G (span_of axis after) ≡ Some (span_of axis b))
    → by_span sheet axis F b ≡ Some after → by_span sheet axis G after ≡ Some b
by_span_returns sheet axis F G b after returns h =
    elim (cases_by_span sheet axis F b after h) [
      | inl (t, w) ↦
          let ends : span_of axis after ≡ t = ap (span_of axis) w.2 ∙ span_of-with_span axis t b in
          by_span_on sheet axis G after (span_of axis b) (ap (λ x. x.sheet) w.2 ∙ sheet-with_span axis t b ∙ w.0) (returns w.0 (w.1 ∙ ap (λ s. Some s) (sym ends)))
          ∙ ap (λ x. Some x) (ap (with_span axis (span_of axis b)) w.2 ∙ with_span-back axis t b)
      | inr w ↦ ap (by_span sheet axis G) w.1 ∙ by_span_off sheet axis G b w.0
    ]
