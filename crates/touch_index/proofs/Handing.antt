-- Blocks whose corners keep their lines over an operation: which lines they have then. Serves the filings that are handed on.
use Rattle.std.proofs.Common.{min, ◌≡◌, ◌∙◌, sym, ap, refl, subst, arith, ℕ, ◌+◌, ◌-◌, ◌<◌, ◌≤◌, ◌↔◌, inl, inr, ◌⊎◌, Bool, true, false, cond, nat_eq, nat_lt, Option, Some, None, IsSomeAnd, is_some}
use Rattle.std.specs.Option.{option_map}
use Rattle.std.proofs.lemmas.Bool.{cases_eq, cases_lt, cond-false, cond-true, eq-eqb, eqb-true, le-ltb, lt-ltb, ne_eqb}
use Rattle.std.proofs.lemmas.Bool.Decides.{nat_tests}
use Rattle.std.proofs.lemmas.Option.{same_Some}
use Rattle.cell_addr.specs.Axis.{limit_of, line_of, span_of, with_span}
use Rattle.cell_addr.specs.Place.{Covers, IsBlockInside, IsInside}
use Rattle.cell_addr.specs.declared.axis.Axis.{Axis}
use Rattle.cell_addr.specs.declared.axis.Axis.TheVariants.{Cols, Rows}
use Rattle.cell_addr.specs.declared.axis.Span.{Span}
use Rattle.cell_addr.specs.declared.place.Block.{Block}
use Rattle.cell_addr.specs.declared.place.Place.{Place}
use Rattle.shift_core.specs.Carried.{first_place, last_place}
use Rattle.shift_core.specs.Form.{IsWithin, across}
use Rattle.shift_core.specs.Lines.{IsSoundEdit, IsSoundMove, line_after_delete, line_after_insert, line_after_move, line_before}
use Rattle.shift_core.specs.Sound.{IsSoundForm}
use Rattle.shift_core.specs.declared.edit.Edit.{Edit}
use Rattle.shift_core.specs.declared.edit.Edit.TheVariants.{Delete, Insert, Move}
use Rattle.shift_core.specs.declared.form.Form.{Form}
use Rattle.shift_core.specs.declared.form.Form.TheVariants.{Cells, Lines, Sheet}
use Rattle.shift_core.proofs.Axes.{covers_along, covers_by, ends_inside, line_inside}
use Rattle.stable_lines.specs.Lines.{AreRenewed, AreSame, ComesTo, line_at}
use Rattle.stable_lines.specs.declared.table.LineTable.{LineTable}
use Rattle.place_lines.specs.internal.Low.{HasLowLines}
use Rattle.place_lines.specs.Moved.{AreMoved, IsKnown}
use Rattle.place_lines.specs.Spots.{area_of, first_spot, last_spot, number_of, past, spot_of, table_along}
use Rattle.place_lines.specs.declared.lines.PlaceLines.{PlaceLines}
use Rattle.place_lines.proofs.Known.{same_number, spot_was_there}
use Rattle.place_lines.proofs.LineNumbers.{has_number, number_line, one_position}
use Rattle.place_lines.proofs.Places.{limit_along, low_along, one_spot}
use Rattle.touch_index.specs.Handed.{AreAsMany, BlocksAreHandedOn, IsHandedOn, IsIn, fresh_lines, fresh_part}
use Rattle.touch_index.specs.Kept.{GoesOver, Grows, KeepsBlock, begins_at, goes_on}
use Rattle.touch_index.specs.declared.index.TouchIndex.{TouchIndex}

-- ---- positions between the corners

-- the lines of the first span's ends come to those of the second's
pub record AreEnds (limit : ℕ) (edit : Edit) (s t : Span) : Type 0 where
  pub before : s.first ≤ s.last
  pub after : t.first ≤ t.last
  pub inside : t.last < limit
  pub first : line_before limit edit t.first ≡ Some s.first
  pub last : line_before limit edit t.last ≡ Some s.last
  pub count : AreAsMany edit s t

-- a move, by where it takes lines back from
move_within : (limit start count before : ℕ) (s t : Span) (x y : ℕ) → IsSoundMove limit start count before → s.first ≤ s.last → t.first ≤ t.last → t.last < limit
    → line_after_move start count before t.first ≡ s.first → line_after_move start count before t.last ≡ s.last → t.last - t.first ≡ s.last - s.first
    → line_after_move start count before x ≡ y → IsWithin t x → IsWithin s y
move_within limit start count before s t x y sound order turned inside first last many at within = (grind (arith, nat_tests), grind (arith, nat_tests))

move_back : (limit start count before : ℕ) (s t : Span) (x y : ℕ) → IsSoundMove limit start count before → s.first ≤ s.last → t.first ≤ t.last → t.last < limit
    → line_after_move start count before t.first ≡ s.first → line_after_move start count before t.last ≡ s.last → t.last - t.first ≡ s.last - s.first
    → line_after_move start count before x ≡ y → x < limit → IsWithin s y → IsWithin t x
move_back limit start count before s t x y sound order turned inside first last many at on within = (grind (arith, nat_tests), grind (arith, nat_tests))

-- the move that takes the lines back
module _ (limit start count before : ℕ) (sound : IsSoundMove limit start count before) where
  abbrev BackMove : Type 0
  BackMove = (a : ℕ) × (k : ℕ) × (d : ℕ) × IsSoundMove limit a k d × ((x : ℕ) → line_before limit (Move start count before) x ≡ Some (line_after_move a k d x))

  back_move : BackMove
  back_move = elim (cases_lt (start + count) before) [
    | inl down ↦ (before - count, count, start, by_down down, λ x. rw (lt-ltb (start + count) before down) refl)
    | inr up ↦ (before, count, start + count, by_up up, λ x. rw (le-ltb (start + count) before up) refl)
  ]
    where
      by_down : start + count < before → IsSoundMove limit (before - count) count start
      by_down down = let (some, low, high, apart) = sound in (some, omega (arith, some, low, high, down), omega (arith, low), inl (omega (arith, down, some)))

      by_up : before ≤ start + count → IsSoundMove limit before count (start + count)
      by_up up = let (some, low, high, apart) = sound in
          elim apart [
            | inl front ↦ (some, omega (arith, low, front), low, inr (omega (arith, front)))
            | inr behind ↦ absurd (omega (arith, up, behind))
          ]

pub within : (limit : ℕ) (edit : Edit) (s t : Span) (x y : ℕ) → IsSoundEdit limit edit → AreEnds limit edit s t → line_before limit edit x ≡ Some y → IsWithin t x → IsWithin s y
within limit (Insert start count) s t x y sound ends at here = let first = ends.first in let last = ends.last in (grind (arith, nat_tests), grind (arith, nat_tests))
within limit (Delete start count) s t x y sound ends at here = let first = ends.first in let last = ends.last in (grind (arith, nat_tests), grind (arith, nat_tests))
within limit (Move start count before) s t x y sound ends at here =
    let (a, k, d, back, is) = back_move limit start count before sound in
    move_within limit a k d s t x y back ends.before ends.after ends.inside (same_Some _ _ (sym (is t.first) ∙ ends.first)) (same_Some _ _ (sym (is t.last) ∙ ends.last)) ends.count (same_Some _ _ (sym (is x) ∙ at)) here

pub returned : (limit : ℕ) (edit : Edit) (s t : Span) (x y : ℕ) → IsSoundEdit limit edit → AreEnds limit edit s t → x < limit → line_before limit edit x ≡ Some y → IsWithin s y → IsWithin t x
returned limit (Insert start count) s t x y sound ends on at here = let first = ends.first in let last = ends.last in (grind (arith, nat_tests), grind (arith, nat_tests))
returned limit (Delete start count) s t x y sound ends on at here = let first = ends.first in let last = ends.last in (grind (arith, nat_tests), grind (arith, nat_tests))
returned limit (Move start count before) s t x y sound ends on at here =
    let (a, k, d, back, is) = back_move limit start count before sound in
    move_back limit a k d s t x y back ends.before ends.after ends.inside (same_Some _ _ (sym (is t.first) ∙ ends.first)) (same_Some _ _ (sym (is t.last) ∙ ends.last)) ends.count (same_Some _ _ (sym (is x) ∙ at)) on here

-- a line that came from nowhere was put in
abbrev pub IsOn : Option Span → ℕ → Type 0
IsOn lines x = (band : Span) × (lines ≡ Some band) × IsWithin band x

insert_fresh : (limit start count : ℕ) (s t : Span) (x : ℕ) → line_before limit (Insert start count) t.first ≡ Some s.first → line_before limit (Insert start count) t.last ≡ Some s.last
    → line_before limit (Insert start count) x ≡ None → IsWithin t x → (t.first < start) × (start ≤ t.last) × (start ≤ x) × (x ≤ start + (count - 1))
insert_fresh limit start count s t x first last none here = (grind (arith, nat_tests), grind (arith, nat_tests), grind (arith, nat_tests), grind (arith, nat_tests))

pub fresh : (limit : ℕ) (edit : Edit) (s t : Span) (x : ℕ) → IsSoundEdit limit edit → AreEnds limit edit s t → line_before limit edit x ≡ None → IsWithin t x → IsOn (fresh_lines edit t) x
fresh limit (Insert start count) s t x sound ends none here =
    let (low, high, after, up) = insert_fresh limit start count s t x ends.first ends.last none here in
    (record { first = start; last = min (start + (count - 1)) t.last }, grind (arith, nat_tests), (after, grind (arith, nat_tests)))
fresh limit (Delete start count) s t x sound ends none here = let first = ends.first in let last = ends.last in absurd (grind (arith, nat_tests))
fresh limit (Move start count before) s t x sound ends none here =
    let (a, k, d, back, is) = back_move limit start count before sound in absurd (apart (sym (is x) ∙ none))
  where
    apart : {n : ℕ} → Some n ≡ None → ⊥
    apart e = cc

pub fresh_within : (edit : Edit) (t : Span) (x : ℕ) → IsOn (fresh_lines edit t) x → IsWithin t x
fresh_within (Insert start count) t x (band, is, here) = (grind (arith, nat_tests), grind (arith, nat_tests))
fresh_within (Delete start count) t x (band, is, here) = absurd (no_span is)
  where
    no_span : None ≡ Some band → ⊥
    no_span e = cc
fresh_within (Move start count before) t x (band, is, here) = absurd (no_span is)
  where
    no_span : None ≡ Some band → ⊥
    no_span e = cc

-- and it came from nowhere
fresh_from_none : (limit : ℕ) (edit : Edit) (t : Span) (x y : ℕ) → IsSoundEdit limit edit → IsOn (fresh_lines edit t) x → line_before limit edit x ≡ Some y → ⊥
fresh_from_none limit (Insert start count) t x y sound (band, is, here) at = let some = sound.0 in grind (arith, nat_tests)
fresh_from_none limit (Delete start count) t x y sound (band, is, here) at = no_span is
  where
    no_span : None ≡ Some band → ⊥
    no_span e = cc
fresh_from_none limit (Move start count before) t x y sound (band, is, here) at = no_span is
  where
    no_span : None ≡ Some band → ⊥
    no_span e = cc

-- ---- lines along one axis

-- the lines of the second span are those of the first, and the fresh ones; and no others of the first are left
pub record Goes (t u : LineTable) (s r : Span) (fresh : Option Span) : Type 0 where
  pub from : (x : ℕ) → IsWithin r x → ((y : ℕ) × IsWithin s y × (number_of t y ≡ number_of u x)) ⊎ IsOn fresh x
  pub to : (x y : ℕ) → IsWithin s y → number_of t y ≡ number_of u x → IsWithin r x
  pub inside : (x : ℕ) → IsOn fresh x → IsWithin r x
  pub new : (x y : ℕ) → IsOn fresh x → y < t.limit → number_of t y ≡ number_of u x → ⊥

no_lines : (x : ℕ) → IsOn None x → ⊥
no_lines x (band, is, here) = none is
  where
    none : None ≡ Some band → ⊥
    none e = cc

-- where all lines stay
pub goes_same : (t u : LineTable) (s r : Span) → HasLowLines u → AreSame u t → number_of t s.first ≡ number_of u r.first → number_of t s.last ≡ number_of u r.last → Goes t u s r None
goes_same t u s r low same first last =
    let start : s.first ≡ r.first = one_position u s.first r.first low (sym (same_number t u s.first same) ∙ first) in
    let end : s.last ≡ r.last = one_position u s.last r.last low (sym (same_number t u s.last same) ∙ last) in
    record {
      from = λ x here. inl (x, (omega (arith, here.0, start), omega (arith, here.1, end)), same_number t u x same);
      to = λ x y here number.
          let is : y ≡ x = one_position u y x low (sym (same_number t u y same) ∙ number) in
          (omega (arith, here.0, start, is), omega (arith, here.1, end, is));
      inside = λ x on. absurd (no_lines x on);
      new = λ x y on low number. no_lines x on;
    }

module _ (limit : ℕ) (edit : Edit) (t u : LineTable) (low_t : HasLowLines t) (low_u : HasLowLines u) (bound : t.limit ≡ limit) (renewed : AreRenewed (line_before limit edit) t u) where
  -- a line was at a position before, or came in
  abbrev CameFrom : ℕ → Option ℕ → Type 0
  CameFrom x o = ((y : ℕ) × (o ≡ Some y) × (y < limit) × (number_of t y ≡ number_of u x)) ⊎ ((o ≡ None) × (t.next ≤ number_of u x))

  came_by : (x l : ℕ) (o : Option ℕ) → line_at u x ≡ Some l → number_of u x ≡ l → ComesTo t u x o → CameFrom x o
  came_by x l (Some y) at here comes =
      let there : line_at t y ≡ Some l = sym comes ∙ at in
      let on : y < t.limit = t.within y l there in
      inl (y, refl, omega (arith, on, bound), number_line t y l there ∙ sym here)
  came_by x l None at here comes =
      let new : t.next ≤ l = subst (λ o. IsSomeAnd o (λ line. t.next ≤ line)) at comes in
      inr (refl, omega (arith, new, here))

  came : (x : ℕ) → x < limit → CameFrom x (line_before limit edit x)
  came x on = elim (has_number u x) [
    | inl (l, at, here, lt) ↦ came_by x l (line_before limit edit x) at here (renewed.2 x (omega (arith, on, bound)))
    | inr (here, past) ↦ let same = renewed.0 in absurd (omega (arith, past, on, bound, same))
  ]

  -- a line of the sheet stands where it comes to
  line_from : (x y : ℕ) → y < limit → number_of t y ≡ number_of u x → (x < limit) × (line_before limit edit x ≡ Some y)
  line_from x y on same = elim (has_number t y) [
    | inl (l, at, here, lt) ↦
        let small = low_t y l at in
        let old : l < t.next = t.below y l at in elim (cases_lt x limit) [
          | inl inside ↦ (
            inside,
            elim (came x inside) [
              | inl (z, is, z_on, number) ↦ is ∙ ap Some (one_position t z y low_t (number ∙ sym same))
              | inr (none, new) ↦ absurd (omega (arith, new, old, here, same))
            ],
          )
          | inr outside ↦ elim (has_number u x) [
            | inl (m, there, is, within_u) ↦ let limits = renewed.0 in absurd (omega (arith, outside, within_u, limits, bound))
            | inr (is, far) ↦ absurd (omega (arith, is, small, here, same))
          ]
        ]
    | inr (here, past) ↦ absurd (omega (arith, past, on, bound))
  ]

  pub goes_edited : (s r : Span) → IsSoundEdit limit edit → (s.first ≤ s.last) × (s.last < limit) → (r.first ≤ r.last) × (r.last < limit)
      → number_of t s.first ≡ number_of u r.first → number_of t s.last ≡ number_of u r.last → AreAsMany edit s r → Goes t u s r (fresh_lines edit r)
  goes_edited s r sound s_on r_on first last count =
      let ends : AreEnds limit edit s r = record {
        before = s_on.0;
        after = r_on.0;
        inside = r_on.1;
        first = (line_from r.first s.first (omega (arith, s_on.0, s_on.1)) first).1;
        last = (line_from r.last s.last s_on.1 last).1;
        count = count;
      } in
      record {
        from = λ x here. elim (came x (omega (arith, here.1, r_on.1))) [
          | inl (y, is, y_on, number) ↦ inl (y, within limit edit s r x y sound ends is here, number)
          | inr (none, new) ↦ inr (fresh limit edit s r x sound ends none here)
        ];
        to = λ x y here number.
            let (on, is) = line_from x y (omega (arith, here.1, s_on.1)) number in
            returned limit edit s r x y sound ends on is here;
        inside = fresh_within edit r;
        new = λ x y on low number. fresh_from_none limit edit r x y sound on (line_from x y (omega (arith, low, bound)) number).1;
      }

-- ---- blocks

corner_numbers : (axis : Axis) (old new : PlaceLines) (b after : Block) → area_of old b ≡ area_of new after
    → (number_of (table_along axis old b.sheet) (span_of axis b).first ≡ number_of (table_along axis new after.sheet) (span_of axis after).first)
    × (number_of (table_along axis old b.sheet) (span_of axis b).last ≡ number_of (table_along axis new after.sheet) (span_of axis after).last)
corner_numbers Rows old new b after e = (ap (λ a. a.top) e, ap (λ a. a.bottom) e)
corner_numbers Cols old new b after e = (ap (λ a. a.left) e, ap (λ a. a.right) e)

-- along the axis the second block has the lines of the first, and fresh ones
abbrev pub GoesAlong : Axis → PlaceLines → PlaceLines → Block → Block → Option Span → Type 0
GoesAlong axis old new b after lines = Goes (table_along axis old b.sheet) (table_along axis new after.sheet) (span_of axis b) (span_of axis after) lines

same_along : (axis : Axis) (old new : PlaceLines) (b after : Block) → area_of old b ≡ area_of new after → AreSame (table_along axis new b.sheet) (table_along axis old b.sheet) → GoesAlong axis old new b after None
same_along axis old new b after area same =
    let sheet : b.sheet ≡ after.sheet = ap (λ a. a.sheet) area in
    let (first, last) = corner_numbers axis old new b after area in
    goes_same (table_along axis old b.sheet) (table_along axis new after.sheet) (span_of axis b) (span_of axis after) (low_along axis new after.sheet)
    (subst (λ s. AreSame (table_along axis new s) (table_along axis old b.sheet)) sheet same) first last

-- along one axis there may be fresh lines, and along the other all stay
pub record GoesOn (f : Form) (old new : PlaceLines) (b after : Block) (axis : Axis) (lines : Option Span) : Type 0 where
  pub along : GoesAlong axis old new b after lines
  pub over : GoesAlong (across axis) old new b after None
  pub part : fresh_part f after ≡ option_map (λ span. with_span axis span after) lines

edited_here : (sheet : ℕ) (axis : Axis) (edit : Edit) (old new : PlaceLines) (b after : Block) → IsHandedOn (Lines sheet axis edit) old new b after → b.sheet ≡ sheet
    → GoesOn (Lines sheet axis edit) old new b after axis (fresh_lines edit (span_of axis after))
edited_here sheet axis edit old new b after on here =
    let there : after.sheet ≡ sheet = sym (ap (λ a. a.sheet) on.area) ∙ here in
    let (first, last) = corner_numbers axis old new b after on.area in
    record {
      along = goes_edited (limit_of axis) edit (table_along axis old b.sheet) (table_along axis new after.sheet) (low_along axis old b.sheet) (low_along axis new after.sheet) (limit_along axis old b.sheet)
          (subst (λ s. AreRenewed (line_before (limit_of axis) edit) (table_along axis old b.sheet) (table_along axis new s)) (sym there)
          (subst (λ s. AreRenewed (line_before (limit_of axis) edit) (table_along axis old s) (table_along axis new sheet)) (sym here) on.moved.0))
          (span_of axis b) (span_of axis after) on.sound (ends_inside axis b on.here) (ends_inside axis after on.there) first last on.count;
      over = same_along (across axis) old new b after on.area (on.moved.2 b.sheet);
      part = cond-true _ _ _ (eq-eqb after.sheet sheet there);
    }

edited_elsewhere : (sheet : ℕ) (axis : Axis) (edit : Edit) (old new : PlaceLines) (b after : Block) → IsHandedOn (Lines sheet axis edit) old new b after → nat_eq b.sheet sheet ≡ false → GoesOn (Lines sheet axis edit) old new b after axis None
edited_elsewhere sheet axis edit old new b after on off = record {
  along = same_along axis old new b after on.area (on.moved.1 b.sheet off);
  over = same_along (across axis) old new b after on.area (on.moved.2 b.sheet);
  part = cond-false _ _ _ (subst (λ s. nat_eq s sheet ≡ false) (ap (λ a. a.sheet) on.area) off);
}

pub goes_on_by : (f : Form) (old new : PlaceLines) (b after : Block) → IsHandedOn f old new b after → (axis : Axis) × (lines : Option Span) × GoesOn f old new b after axis lines
goes_on_by (Lines sheet axis edit) old new b after on = elim (cases_eq b.sheet sheet) [
  | inl here ↦ (axis, fresh_lines edit (span_of axis after), edited_here sheet axis edit old new b after on here)
  | inr off ↦ (axis, None, edited_elsewhere sheet axis edit old new b after on (ne_eqb b.sheet sheet off))
]
goes_on_by (Cells source to) old new b after on = (
  Rows,
  None,
  record {
    along = same_along Rows old new b after on.area (on.moved Rows b.sheet);
    over = same_along Cols old new b after on.area (on.moved Cols b.sheet);
    part = refl;
  },
)
goes_on_by (Sheet sheet) old new b after on = (
  Rows,
  None,
  record {
    along = same_along Rows old new b after on.area (on.moved Rows b.sheet);
    over = same_along Cols old new b after on.area (on.moved Cols b.sheet);
    part = refl;
  },
)

-- ---- the places of a block

abbrev on_lines : Axis → ℕ → ℕ → ℕ → Place
on_lines Rows sheet line other = record { sheet = sheet; row = line; col = other }
on_lines Cols sheet line other = record { sheet = sheet; row = other; col = line }

on_sheet : (axis : Axis) (sheet line other : ℕ) → (on_lines axis sheet line other).sheet ≡ sheet
on_sheet Rows sheet line other = refl
on_sheet Cols sheet line other = refl

on_line : (axis : Axis) (sheet line other : ℕ) → line_of axis (on_lines axis sheet line other) ≡ line
on_line Rows sheet line other = refl
on_line Cols sheet line other = refl

on_other : (axis : Axis) (sheet line other : ℕ) → line_of (across axis) (on_lines axis sheet line other) ≡ other
on_other Rows sheet line other = refl
on_other Cols sheet line other = refl

number_on : (axis : Axis) (old new : PlaceLines) (p q : Place) → spot_of old p ≡ spot_of new q → number_of (table_along axis old p.sheet) (line_of axis p) ≡ number_of (table_along axis new q.sheet) (line_of axis q)
number_on Rows old new p q e = ap (λ s. s.row) e
number_on Cols old new p q e = ap (λ s. s.col) e

part_covers : (axis : Axis) (after : Block) (band : Span) (q : Place) → Covers after q → IsWithin band (line_of axis q) → Covers (with_span axis band after) q
part_covers Rows after band q c w = (c.0, w.0, w.1, c.3, c.4)
part_covers Cols after band q c w = (c.0, c.1, c.2, w.0, w.1)

covers_part : (axis : Axis) (after : Block) (band : Span) (q : Place) → Covers (with_span axis band after) q → (after.sheet ≡ q.sheet) × IsWithin band (line_of axis q) × IsWithin (span_of (across axis) after) (line_of (across axis) q)
covers_part Rows after band q c = (c.0, (c.1, c.2), (c.3, c.4))
covers_part Cols after band q c = (c.0, (c.3, c.4), (c.1, c.2))

part_from : (axis : Axis) (lines : Option Span) (after part : Block) → option_map (λ span. with_span axis span after) lines ≡ Some part → (band : Span) × (lines ≡ Some band) × (with_span axis band after ≡ part)
part_from axis (Some band) after part e = (band, refl, same_Some (with_span axis band after) part e)
part_from axis None after part e = absurd (none e)
  where
    none : None ≡ Some part → ⊥
    none e = cc

module _ (f : Form) (old new : PlaceLines) (b after : Block) (axis : Axis) (lines : Option Span) (sheet : b.sheet ≡ after.sheet) (goes : GoesOn f old new b after axis lines) (q : Place) where
  place_from : Covers after q → ((p : Place) × Covers b p × (spot_of old p ≡ spot_of new q)) ⊎ IsIn (fresh_part f after) q
  place_from c =
      let (on, at, other) = covers_along axis after q c in elim (goes.along.from (line_of axis q) at) [
        | inl (y, y_in, number) ↦ elim (goes.over.from (line_of (across axis) q) other) [
          | inl (z, z_in, beside) ↦
              let p = on_lines axis b.sheet y z in
              let there = on_sheet axis b.sheet y z in
              inl (
                p,
                covers_by axis b p (sym there) (subst (IsWithin (span_of axis b)) (sym (on_line axis b.sheet y z)) y_in) (subst (IsWithin (span_of (across axis) b)) (sym (on_other axis b.sheet y z)) z_in),
                one_spot axis old new p q (there ∙ (sheet ∙ on))
                    (ap (λ s. number_of (table_along axis old s) (line_of axis p)) there ∙ (ap (number_of (table_along axis old b.sheet)) (on_line axis b.sheet y z)
                    ∙ (number ∙ ap (λ s. number_of (table_along axis new s) (line_of axis q)) on)))
                    (ap (λ s. number_of (table_along (across axis) old s) (line_of (across axis) p)) there ∙ (ap (number_of (table_along (across axis) old b.sheet)) (on_other axis b.sheet y z)
                    ∙ (beside ∙ ap (λ s. number_of (table_along (across axis) new s) (line_of (across axis) q)) on))),
              )
          | inr none ↦ absurd (no_lines (line_of (across axis) q) none)
        ]
        | inr (band, is, within_band) ↦
            inr (with_span axis band after, goes.part ∙ ap (option_map (λ span. with_span axis span after)) is, part_covers axis after band q c within_band)
      ]

  place_to : (p : Place) → Covers b p → spot_of old p ≡ spot_of new q → Covers after q
  place_to p c same =
      let (on, at, other) = covers_along axis b p c in
      let sheets : p.sheet ≡ q.sheet = ap (λ s. s.sheet) same in
      let there : after.sheet ≡ q.sheet = sym sheet ∙ (on ∙ sheets) in
      covers_by axis after q there
      (goes.along.to (line_of axis q) (line_of axis p) at
      (ap (λ s. number_of (table_along axis old s) (line_of axis p)) on ∙ (number_on axis old new p q same ∙ ap (λ s. number_of (table_along axis new s) (line_of axis q)) (sym there))))
      (goes.over.to (line_of (across axis) q) (line_of (across axis) p) other
      (ap (λ s. number_of (table_along (across axis) old s) (line_of (across axis) p)) on ∙ (number_on (across axis) old new p q same ∙ ap (λ s. number_of (table_along (across axis) new s) (line_of (across axis) q)) (sym there))))

  fresh_to : IsIn (fresh_part f after) q → Covers after q
  fresh_to (part, is, c) =
      let (band, on_band, whole) = part_from axis lines after part (sym goes.part ∙ is) in
      let (on, at, other) = covers_part axis after band q (subst (λ x. Covers x q) (sym whole) c) in
      covers_by axis after q on (goes.along.inside (line_of axis q) (band, on_band, at)) other

  -- no place of the sheet had the spot of one that came in
  fresh_is_new : (p : Place) → IsInside p → spot_of old p ≡ spot_of new q → IsIn (fresh_part f after) q → ⊥
  fresh_is_new p on_sheet same (part, is, c) =
      let (band, on_band, whole) = part_from axis lines after part (sym goes.part ∙ is) in
      let (on, at, other) = covers_part axis after band q (subst (λ x. Covers x q) (sym whole) c) in
      let there : p.sheet ≡ b.sheet = ap (λ s. s.sheet) same ∙ (sym on ∙ sym sheet) in
      goes.along.new (line_of axis q) (line_of axis p) (band, on_band, at) (subst (λ n. line_of axis p < n) (sym (limit_along axis old b.sheet)) (line_inside axis p on_sheet))
      (ap (λ s. number_of (table_along axis old s) (line_of axis p)) (sym there) ∙ (number_on axis old new p q same ∙ ap (λ s. number_of (table_along axis new s) (line_of axis q)) (sym on)))

pub handed_on : BlocksAreHandedOn
handed_on f old new b after q on =
    let (axis, lines, goes) = goes_on_by f old new b after on in
    let sheet : b.sheet ≡ after.sheet = ap (λ a. a.sheet) on.area in (
      place_from f old new b after axis lines sheet goes q,
      λ w. elim w [
        | inl (p, c, same) ↦ place_to f old new b after axis lines sheet goes q p c same
        | inr part ↦ fresh_to f old new b after axis lines sheet goes q part
      ],
    )

-- a place that came in has a spot that no line had
pub fresh_unknown : (f : Form) (old new : PlaceLines) (b after : Block) (q : Place) → IsHandedOn f old new b after → IsIn (fresh_part f after) q → IsKnown old (spot_of new q) → ⊥
fresh_unknown f old new b after q on part known =
    let (axis, lines, goes) = goes_on_by f old new b after on in
    let sheet : b.sheet ≡ after.sheet = ap (λ a. a.sheet) on.area in
    let c : Covers after q = fresh_to f old new b after axis lines sheet goes q part in
    let (p, same, inside, narrow) = spot_was_there f old new q on.moved known in
    fresh_is_new f old new b after axis lines sheet goes q p (inside (covered_inside after q on.there c)) same part
  where
    covered_inside : (b : Block) (p : Place) → IsBlockInside b → Covers b p → IsInside p
    covered_inside b p i c = (omega arith, omega arith)

-- ---- what is kept of a block

goes_over_on : (axis : Axis) (old new : PlaceLines) (x y : TouchIndex) (b after : Block) (lines : Option Span) (n : ℕ) → b.sheet ≡ after.sheet → GoesAlong axis old new b after lines
    → number_of (table_along axis old b.sheet) (span_of axis b).first ≡ number_of (table_along axis new after.sheet) (span_of axis after).first
    → Grows x y → ((position : ℕ) → IsOn lines position → goes_on axis y after.sheet (number_of (table_along axis new after.sheet) position) n ≡ true) → GoesOver axis x old b n → GoesOver axis y new after n
goes_over_on axis old new x y b after lines n sheet goes firsts grows added kept position low high = elim (goes.from position (omega (arith, low), high)) [
  | inl (line, here, number) ↦ elim (cases_lt (span_of axis b).first line) [
    | inl later ↦
        subst (λ m. goes_on axis y after.sheet m n ≡ true) number
        (subst (λ s. goes_on axis y s (number_of (table_along axis old b.sheet) line) n ≡ true) sheet (grows.2 axis _ _ _ (kept line later here.1)))
    | inr at ↦
        let is_first : line ≡ (span_of axis b).first = omega (arith, at, here.0) in
        let same : position ≡ (span_of axis after).first
        = one_position (table_along axis new after.sheet) position (span_of axis after).first (low_along axis new after.sheet)
        (sym number ∙ (ap (number_of (table_along axis old b.sheet)) is_first ∙ firsts)) in
        absurd (omega (arith, same, low))
  ]
  | inr on ↦ added position on
]

both_axes : (axis : Axis) (P : Axis → Type 0) → P axis → P (across axis) → P Rows × P Cols
both_axes Rows P along over = (along, over)
both_axes Cols P along over = (over, along)

begins_on : (old new : PlaceLines) (b after : Block) → area_of old b ≡ area_of new after → spot_of old (first_place b) ≡ spot_of new (first_place after)
begins_on old new b after e = ap first_spot e

module _ (f : Form) (old new : PlaceLines) (x y : TouchIndex) (b after : Block) (n : ℕ) (on : IsHandedOn f old new b after) (grows : Grows x y) (kept : KeepsBlock x old b n) where
  goes_by : (axis : Axis) → GoesOver axis x old b n
  goes_by Rows = kept.1
  goes_by Cols = kept.2

  over_axes : (axis : Axis) (lines : Option Span) → GoesOn f old new b after axis lines → ((position : ℕ) → IsOn lines position → goes_on axis y after.sheet (number_of (table_along axis new after.sheet) position) n ≡ true)
      → GoesOver Rows y new after n × GoesOver Cols y new after n
  over_axes axis lines goes added =
      let sheet : b.sheet ≡ after.sheet = ap (λ a. a.sheet) on.area in
      both_axes axis (λ a. GoesOver a y new after n)
      (goes_over_on axis old new x y b after lines n sheet goes.along (corner_numbers axis old new b after on.area).0 grows added (goes_by axis))
      (goes_over_on (across axis) old new x y b after None n sheet goes.over (corner_numbers (across axis) old new b after on.area).0 grows (λ position none. absurd (no_lines position none)) (goes_by (across axis)))

  with_ends : GoesOver Rows y new after n × GoesOver Cols y new after n → KeepsBlock y new after n
  with_ends over = (subst (λ s. begins_at y s n ≡ true) (begins_on old new b after on.area) (grows.1 _ _ kept.0), over.0, over.1)

-- a block is kept where fresh lines along the axis of an edit of its sheet were added
pub kept_here : (sheet : ℕ) (axis : Axis) (edit : Edit) (old new : PlaceLines) (x y : TouchIndex) (b after : Block) (n : ℕ) → sheet ≡ after.sheet → Grows x y
    → ((band : Span) (position : ℕ) → fresh_lines edit (span_of axis after) ≡ Some band → IsWithin band position → goes_on axis y after.sheet (number_of (table_along axis new after.sheet) position) n ≡ true)
    → IsHandedOn (Lines sheet axis edit) old new b after → KeepsBlock x old b n → KeepsBlock y new after n
kept_here sheet axis edit old new x y b after n here grows added on kept =
    with_ends (Lines sheet axis edit) old new x y b after n on grows kept
    (over_axes (Lines sheet axis edit) old new x y b after n on grows kept axis (fresh_lines edit (span_of axis after)) (edited_here sheet axis edit old new b after on (ap (λ a. a.sheet) on.area ∙ sym here))
    (λ position w. added w.0 position w.1 w.2))

no_growth : (x : TouchIndex) → Grows x x
no_growth x = (λ spot n h. h, λ spot n h. h, λ axis sheet line n h. h)

-- and where none came in: on another sheet, where cells are moved, and where a sheet is dropped
pub kept_elsewhere : (sheet : ℕ) (axis : Axis) (edit : Edit) (old new : PlaceLines) (x : TouchIndex) (b after : Block) (n : ℕ) → nat_eq sheet after.sheet ≡ false
    → IsHandedOn (Lines sheet axis edit) old new b after → KeepsBlock x old b n → KeepsBlock x new after n
kept_elsewhere sheet axis edit old new x b after n off on kept =
    let other : nat_eq b.sheet sheet ≡ false = by (nat_eq b.sheet sheet) refl in
    with_ends (Lines sheet axis edit) old new x x b after n on (no_growth x) kept
    (over_axes (Lines sheet axis edit) old new x x b after n on (no_growth x) kept axis None (edited_elsewhere sheet axis edit old new b after on other) (λ position none. absurd (no_lines position none)))
  where
    by : (t : Bool) → nat_eq b.sheet sheet ≡ t → nat_eq b.sheet sheet ≡ false
    by false e = e
    by true e = absurd (clash (sym (eq-eqb sheet after.sheet (sym (eqb-true b.sheet sheet e) ∙ ap (λ a. a.sheet) on.area)) ∙ off))
      where
        clash : true ≡ false → ⊥
        clash e = cc

pub kept_beside : (source : Block) (to : Place) (old new : PlaceLines) (x : TouchIndex) (b after : Block) (n : ℕ) → IsHandedOn (Cells source to) old new b after → KeepsBlock x old b n → KeepsBlock x new after n
unfolding goes_on_by
kept_beside source to old new x b after n on kept =
    with_ends (Cells source to) old new x x b after n on (no_growth x) kept
    (over_axes (Cells source to) old new x x b after n on (no_growth x) kept Rows None (goes_on_by (Cells source to) old new b after on).2 (λ position none. absurd (no_lines position none)))

pub kept_on_drop : (sheet : ℕ) (old new : PlaceLines) (x : TouchIndex) (b after : Block) (n : ℕ) → IsHandedOn (Sheet sheet) old new b after → KeepsBlock x old b n → KeepsBlock x new after n
unfolding goes_on_by
kept_on_drop sheet old new x b after n on kept =
    with_ends (Sheet sheet) old new x x b after n on (no_growth x) kept
    (over_axes (Sheet sheet) old new x x b after n on (no_growth x) kept Rows None (goes_on_by (Sheet sheet) old new b after on).2 (λ position none. absurd (no_lines position none)))
