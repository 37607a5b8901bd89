-- Whole ranges by the numbers of their lines: found by their ends, held by filings, and handed on over operations. Serves
-- the needs of the graph by its filings.
use Rattle.std.proofs.Common.{◌≡◌, ◌∙◌, sym, ap, refl, subst, arith, ℕ, ◌<◌, ◌≤◌, ◌↔◌, inl, inr, ◌⊎◌, Bool, true, false, nat_lt, nat_eq, Option, Some, None, IsTrue}
use Rattle.std.specs.Option.{option_map}
use Rattle.std.proofs.lemmas.Bool.{cases_eq, cond-false, cond-true, eq-eqb, le-leb, leb-true, lt-ltb, ltb-true, ne_eqb, or_cases, or_left, or_right}
use Rattle.std.proofs.lemmas.Option.{same_Some}
use Rattle.cell_addr.specs.Axis.{across, limit_of, line_of, same_axis, with_span}
use Rattle.cell_addr.specs.Place.{Covers, covers}
use Rattle.cell_addr.specs.Whole.{IsWholeInside, lines_of, whole_block, whole_of}
use Rattle.cell_addr.specs.declared.axis.Axis.{Axis}
use Rattle.cell_addr.specs.declared.axis.Axis.TheVariants.{Cols, Rows}
use Rattle.cell_addr.specs.declared.axis.Span.{Span}
use Rattle.cell_addr.specs.declared.place.Place.{Place}
use Rattle.cell_addr.specs.declared.whole.Whole.{Whole}
use Rattle.cell_addr.proofs.SamePlaces.{same_axis-equal}
use Rattle.cell_addr.proofs.Wholes.{along}
use Rattle.shift_core.specs.Form.{IsWithin}
use Rattle.shift_core.specs.Lines.{line_before}
use Rattle.shift_core.specs.Sound.{IsSoundForm}
use Rattle.shift_core.specs.declared.edit.Edit.{Edit}
use Rattle.shift_core.specs.declared.form.Form.{Form}
use Rattle.shift_core.specs.declared.form.Form.TheVariants.{Cells, Lines, Sheet}
use Rattle.shift_core.proofs.Axes.{sheet-with_span}
use Rattle.shift_core.proofs.CellMoves.{Covers-from_covers, covers-from_Covers}
use Rattle.stable_lines.specs.Lines.{AreRenewed, AreSame}
use Rattle.stable_lines.specs.declared.table.LineTable.{LineTable}
use Rattle.place_lines.specs.Moved.{AreMoved, IsKnown, IsKnownLine, is_known_line}
use Rattle.place_lines.specs.Spots.{number_of, past, position_at, positions, spot_of, table_along}
use Rattle.place_lines.specs.declared.lines.PlaceLines.{PlaceLines}
use Rattle.place_lines.specs.declared.spot.LineSpot.{LineSpot}
use Rattle.place_lines.specs.internal.Low.{HasLowLines}
use Rattle.place_lines.proofs.Known.{spot_was_there, stays_known}
use Rattle.place_lines.proofs.LineNumbers.{has_number, number_returns, one_position, position_returns}
use Rattle.place_lines.proofs.Places.{limit_along, low_along}
use Rattle.touch_index.specs.Handed.{AreAsMany, HasAsManyLines, fresh_lines, fresh_part}
use Rattle.touch_index.proofs.Handing.{Goes, goes_edited, goes_same}
use Rattle.dep_graph.specs.declared.ends.Ends.{Ends}
use Rattle.dep_graph.specs.internal.Keys.{ends_of, is_narrow_line, whole_at, whole_between}
use Rattle.dep_graph.specs.internal.Wholes.{HoldsWhole, IsOnLines, fresh_whole, is_line, is_on_sheet, number_on}

-- ---- found by their ends

-- no two whole ranges have one key
pub one_whole : (lines : PlaceLines) (v w : Whole) → ends_of lines v ≡ ends_of lines w → v ≡ w
one_whole lines v w e =
    let sheet : v.sheet ≡ w.sheet = ap (λ x. x.sheet) e in
    let axis : v.axis ≡ w.axis = ap (λ x. x.axis) e in
    let low : HasLowLines (table_along w.axis lines w.sheet) = low_along w.axis lines w.sheet in
    let here : (n : ℕ) → number_of (table_along w.axis lines w.sheet) n ≡ number_of (table_along v.axis lines v.sheet) n
    = λ n. λ i. number_of (table_along (sym axis i) lines (sym sheet i)) n in
    let first : v.first ≡ w.first = one_position (table_along w.axis lines w.sheet) v.first w.first low (here v.first ∙ ap (λ x. x.first) e) in
    let last : v.last ≡ w.last = one_position (table_along w.axis lines w.sheet) v.last w.last low (here v.last ∙ ap (λ x. x.last) e) in
    λ i. record { sheet = sheet i; axis = axis i; first = first i; last = last i }

narrow_position : (t : LineTable) (x : ℕ) → number_of t x < past positions → x < positions
narrow_position t x low =
    elim (has_number t x) [
      | inl (l, at, here, within) ↦ let small = t.narrow in omega arith
      | inr (here, over) ↦ omega arith
    ]

number_narrow : (t : LineTable) (x : ℕ) → HasLowLines t → x < positions → number_of t x < past positions
number_narrow t x low narrow =
    elim (has_number t x) [
      | inl (l, at, here, within) ↦ let small = low x l at in omega arith
      | inr (here, over) ↦ omega arith
    ]

-- the ends of a whole range of 32 bits are narrow
pub narrow_ends : (lines : PlaceLines) (w : Whole) → w.first < positions → w.last < positions → (is_narrow_line (ends_of lines w).first ≡ true) × (is_narrow_line (ends_of lines w).last ≡ true)
narrow_ends lines w first last = (
  lt-ltb (ends_of lines w).first (past positions) (number_narrow (table_along w.axis lines w.sheet) w.first (low_along w.axis lines w.sheet) first),
  lt-ltb (ends_of lines w).last (past positions) (number_narrow (table_along w.axis lines w.sheet) w.last (low_along w.axis lines w.sheet) last),
)

-- and it is found by them
pub whole_returns : (lines : PlaceLines) (w : Whole) → is_narrow_line (ends_of lines w).first ≡ true → is_narrow_line (ends_of lines w).last ≡ true → whole_at lines (ends_of lines w) ≡ Some w
whole_returns lines w first last =
    let t = table_along w.axis lines w.sheet in
    let low : HasLowLines t = low_along w.axis lines w.sheet in
    let one : position_at t (number_of t w.first) ≡ Some w.first = position_returns t w.first low (narrow_position t w.first (ltb-true (number_of t w.first) (past positions) first)) in
    let two : position_at t (number_of t w.last) ≡ Some w.last = position_returns t w.last low (narrow_position t w.last (ltb-true (number_of t w.last) (past positions) last)) in
    ap (λ o. whole_between (ends_of lines w) o (position_at t (number_of t w.last))) one ∙ ap (whole_between (ends_of lines w) (Some w.first)) two

between : (e : Ends) (first last : Option ℕ) (w : Whole) → whole_between e first last ≡ Some w → (w.sheet ≡ e.sheet) × (w.axis ≡ e.axis) × (first ≡ Some w.first) × (last ≡ Some w.last)
between e (Some first) (Some last) w h =
    let same = same_Some _ w h in
    (ap (λ x. x.sheet) (sym same), ap (λ x. x.axis) (sym same), ap (λ x. Some x.first) same, ap (λ x. Some x.last) same)
between e (Some first) None w h = absurd (cc)
between e None (Some last) w h = absurd (cc)
between e None None w h = absurd (cc)

-- what is found by ends has these
pub ends_return : (lines : PlaceLines) (e : Ends) (w : Whole) → whole_at lines e ≡ Some w → ends_of lines w ≡ e
ends_return lines e w h =
    let t = table_along e.axis lines e.sheet in
    let (sheet, axis, one, two) = between e (position_at t e.first) (position_at t e.last) w h in
    let here : (n : ℕ) → number_of (table_along w.axis lines w.sheet) n ≡ number_of t n = λ n. λ i. number_of (table_along (axis i) lines (sheet i)) n in
    let first : (ends_of lines w).first ≡ e.first = here w.first ∙ number_returns t e.first w.first one in
    let last : (ends_of lines w).last ≡ e.last = here w.last ∙ number_returns t e.last w.last two in
    λ i. record { sheet = sheet i; axis = axis i; first = first i; last = last i }

-- ---- the cells of a whole range

-- a number is that of a line of the sheet just where it stands on it
line_stands : (t : LineTable) (x : ℕ) → HasLowLines t → is_line (number_of t x) ≡ true → x < t.limit
line_stands t x low is =
    elim (has_number t x) [
      | inl (l, at, here, lt) ↦ lt
      | inr (here, over) ↦ let small = ltb-true (number_of t x) (past 0) is in absurd (omega arith)
    ]

stands_line : (t : LineTable) (x : ℕ) → HasLowLines t → x < t.limit → is_line (number_of t x) ≡ true
stands_line t x low on =
    elim (has_number t x) [
      | inl (l, at, here, lt) ↦ let small = low x l at in ap is_line here ∙ lt-ltb l (past 0) (omega arith)
      | inr (here, over) ↦ absurd (omega arith)
    ]

-- the number of a place's line along an axis
pub number_at : (axis : Axis) (lines : PlaceLines) (p : Place) → number_on axis (spot_of lines p) ≡ number_of (table_along axis lines p.sheet) (line_of axis p)
number_at Rows lines p = refl
number_at Cols lines p = refl

-- a spot of a place is on the sheet across the axis where the place is
on_sheet_stands : (axis : Axis) (lines : PlaceLines) (p : Place) → is_on_sheet axis (spot_of lines p) ≡ true → line_of (across axis) p < limit_of (across axis)
on_sheet_stands axis lines p is =
    let t = table_along (across axis) lines p.sheet in
    subst (λ n. line_of (across axis) p < n) (limit_along (across axis) lines p.sheet)
    (line_stands t (line_of (across axis) p) (low_along (across axis) lines p.sheet) (sym (ap is_line (number_at (across axis) lines p)) ∙ is))

stands_on_sheet : (axis : Axis) (lines : PlaceLines) (p : Place) → line_of (across axis) p < limit_of (across axis) → is_on_sheet axis (spot_of lines p) ≡ true
stands_on_sheet axis lines p on =
    let t = table_along (across axis) lines p.sheet in
    ap is_line (number_at (across axis) lines p)
    ∙ stands_line t (line_of (across axis) p) (low_along (across axis) lines p.sheet) (subst (λ n. line_of (across axis) p < n) (sym (limit_along (across axis) lines p.sheet)) on)

covered_along : (axis : Axis) (sheet first last : ℕ) (p : Place) → Covers (whole_block (along axis sheet first last)) p
    → (sheet ≡ p.sheet) × (first ≤ line_of axis p) × (line_of axis p ≤ last) × (line_of (across axis) p < limit_of (across axis))
covered_along Rows sheet first last p c = (c.0, c.1, c.2, omega arith)
covered_along Cols sheet first last p c = (c.0, c.3, c.4, omega arith)

along_covered : (axis : Axis) (sheet first last : ℕ) (p : Place) → (sheet ≡ p.sheet) × (first ≤ line_of axis p) × (line_of axis p ≤ last) × (line_of (across axis) p < limit_of (across axis))
    → Covers (whole_block (along axis sheet first last)) p
along_covered Rows sheet first last p h = (h.0, h.1, h.2, omega arith, omega arith)
along_covered Cols sheet first last p h = (h.0, omega arith, omega arith, h.1, h.2)

-- what holds a whole range is passed by just the spots of its cells, of all places
pub whole_covers : (lines : PlaceLines) (test : LineSpot → Type 0) (w : Whole) (p : Place) → HoldsWhole lines test w → test (spot_of lines p) ↔ IsTrue (covers (whole_block w) p)
whole_covers lines test w p holds = (
  λ passes.
      let sheet : p.sheet ≡ w.sheet = holds.sheet (spot_of lines p) passes in
      let (on_sheet, within) = (holds.exact (spot_of lines p) (line_of w.axis p) sheet (here sheet)).0 passes in
      covers-from_Covers (whole_block w) p (along_covered w.axis w.sheet w.first w.last p (sym sheet, within.0, within.1, on_sheet_stands w.axis lines p on_sheet)),
  λ covered.
      let (sheet, first, last, on) = covered_along w.axis w.sheet w.first w.last p (Covers-from_covers (whole_block w) p covered) in
      (holds.exact (spot_of lines p) (line_of w.axis p) (sym sheet) (here (sym sheet))).1 (stands_on_sheet w.axis lines p on, (first, last)),
)
  where
    here : p.sheet ≡ w.sheet → number_of (table_along w.axis lines w.sheet) (line_of w.axis p) ≡ number_on w.axis (spot_of lines p)
    here sheet = ap (λ s. number_of (table_along w.axis lines s) (line_of w.axis p)) (sym sheet) ∙ sym (number_at w.axis lines p)

-- ---- a new filing

known_line : (t : LineTable) (n : ℕ) → is_known_line t n ≡ true → IsKnownLine t n
known_line t n passes = elim (or_cases (nat_lt n t.next) _ passes) [
  | inl low ↦ inl (ltb-true n t.next low)
  | inr high ↦ inr (leb-true _ n high)
]

line_known : (t : LineTable) (n : ℕ) → IsKnownLine t n → is_known_line t n ≡ true
line_known t n known = elim known [
  | inl low ↦ or_left (nat_lt n t.next) _ (lt-ltb n t.next low)
  | inr high ↦ or_right (nat_lt n t.next) _ (le-leb _ n high)
]

number_known : (t : LineTable) (x : ℕ) → is_known_line t (number_of t x) ≡ true
number_known t x = line_known t (number_of t x) (elim (has_number t x) [
  | inl (l, at, here, lt) ↦ let below = t.below x l at in inl (omega arith)
  | inr (here, over) ↦ inr (omega arith)
])

-- what just the spots on the lines of a whole range pass holds it
pub lines_hold : (lines : PlaceLines) (test : LineSpot → Type 0) (w : Whole) → ((spot : LineSpot) → test spot ↔ IsOnLines lines w spot) → HoldsWhole lines test w
lines_hold lines test w same = record {
  sheet = λ spot passes. ((same spot).0 passes).0;
  exact = λ spot position sheet is. (
    λ passes.
        let (s, on_sheet, (x, within, number)) = (same spot).0 passes in
        let one : x ≡ position = one_position t x position (low_along w.axis lines w.sheet) (number ∙ sym is) in
        (on_sheet, subst (IsWithin (lines_of w)) one within),
    λ h. (same spot).1 (sheet, h.0, (position, h.1, is)),
  );
  known = λ spot passes.
      let (s, on_sheet, (x, within, number)) = (same spot).0 passes in
      subst (λ n. is_known_line t n ≡ true) number (number_known t x);
}
  where
    t : LineTable
    t = table_along w.axis lines w.sheet

-- ---- over an operation that leaves the lines of the ends

-- the operation leaves the lines of a whole range's ends to the second one; both are within the sheet, and a move of lines
-- leaves their number
pub record IsHandedWhole (f : Form) (old new : PlaceLines) (v w : Whole) : Type 0 where
  pub sound : IsSoundForm f
  pub moved : AreMoved f old new
  pub here : IsWholeInside v
  pub there : IsWholeInside w
  pub ends : ends_of old v ≡ ends_of new w
  pub count : HasAsManyLines f (whole_block v) (whole_block w)

-- the whole range of these lines
abbrev whole_on : Whole → Span → Whole
whole_on w span = record { sheet = w.sheet; axis = w.axis; first = span.first; last = span.last }

-- the second whole range has the lines of the first and fresh ones
abbrev GoesOn : Form → PlaceLines → PlaceLines → Whole → Whole → Option Span → Type 0
GoesOn f old new v w fresh =
    Goes (table_along v.axis old v.sheet) (table_along w.axis new w.sheet) (lines_of v) (lines_of w) fresh × (fresh_whole f w ≡ option_map (whole_on w) fresh)

stays : (old new : PlaceLines) (v w : Whole) → ends_of old v ≡ ends_of new w → AreSame (table_along v.axis new v.sheet) (table_along v.axis old v.sheet)
    → Goes (table_along v.axis old v.sheet) (table_along w.axis new w.sheet) (lines_of v) (lines_of w) None
stays old new v w ends same =
    let sheet : v.sheet ≡ w.sheet = ap (λ e. e.sheet) ends in
    let axis : v.axis ≡ w.axis = ap (λ e. e.axis) ends in
    goes_same (table_along v.axis old v.sheet) (table_along w.axis new w.sheet) (lines_of v) (lines_of w) (low_along w.axis new w.sheet)
    (subst (λ s. AreSame (table_along w.axis new s) (table_along v.axis old v.sheet)) sheet (subst (λ a. AreSame (table_along a new v.sheet) (table_along v.axis old v.sheet)) axis same))
    (ap (λ e. e.first) ends) (ap (λ e. e.last) ends)

other_axis : (a b : Axis) → same_axis a (across b) ≡ false → a ≡ b
other_axis Rows Rows h = refl
other_axis Cols Cols h = refl
other_axis Rows Cols h = absurd (cc)
other_axis Cols Rows h = absurd (cc)

-- an edit of its own lines
count_along : (a : Axis) (sheet : ℕ) (edit : Edit) (vs vf vl ws wf wl : ℕ) → HasAsManyLines (Lines sheet a edit) (whole_block (along a vs vf vl)) (whole_block (along a ws wf wl))
    → AreAsMany edit (record { first = vf; last = vl }) (record { first = wf; last = wl })
count_along Rows sheet edit vs vf vl ws wf wl h = h
count_along Cols sheet edit vs vf vl ws wf wl h = h

fresh_along : (a : Axis) (sheet : ℕ) (edit : Edit) (ws wf wl : ℕ) → ws ≡ sheet
    → option_map (whole_of a) (fresh_part (Lines sheet a edit) (whole_block (along a ws wf wl))) ≡ option_map (whole_on (along a ws wf wl)) (fresh_lines edit (record { first = wf; last = wl }))
fresh_along a sheet edit ws wf wl here = by a
  where
    lines : Span
    lines = record { first = wf; last = wl }

    twice : (b : Axis) (o : Option Span) → option_map (whole_of b) (option_map (λ span. with_span b span (whole_block (along b ws wf wl))) o) ≡ option_map (whole_on (along b ws wf wl)) o
    twice Rows None = refl
    twice Cols None = refl
    twice Rows (Some span) = refl
    twice Cols (Some span) = refl

    by : (b : Axis) → option_map (whole_of b) (fresh_part (Lines sheet b edit) (whole_block (along b ws wf wl))) ≡ option_map (whole_on (along b ws wf wl)) (fresh_lines edit lines)
    by Rows = ap (option_map (whole_of Rows)) (cond-true _ _ _ (eq-eqb ws sheet here)) ∙ twice Rows (fresh_lines edit lines)
    by Cols = ap (option_map (whole_of Cols)) (cond-true _ _ _ (eq-eqb ws sheet here)) ∙ twice Cols (fresh_lines edit lines)

edited : (a : Axis) (sheet : ℕ) (edit : Edit) (old new : PlaceLines) (vs vf vl ws wf wl : ℕ) → same_axis a (across a) ≡ false → IsHandedWhole (Lines sheet a edit) old new (along a vs vf vl) (along a ws wf wl) → vs ≡ sheet
    → GoesOn (Lines sheet a edit) old new (along a vs vf vl) (along a ws wf wl) (fresh_lines edit (record { first = wf; last = wl }))
edited a sheet edit old new vs vf vl ws wf wl apart on here =
    let there : ws ≡ sheet = sym (ap (λ e. e.sheet) on.ends) ∙ here in
    let t = table_along a old vs in
    let u = table_along a new ws in (
      goes_edited (limit_of a) edit t u (low_along a old vs) (low_along a new ws) (limit_along a old vs)
          (subst (λ s. AreRenewed (line_before (limit_of a) edit) (table_along a old vs) (table_along a new s)) (sym there)
          (subst (λ s. AreRenewed (line_before (limit_of a) edit) (table_along a old s) (table_along a new sheet)) (sym here) on.moved.0))
          (record { first = vf; last = vl }) (record { first = wf; last = wl }) on.sound on.here on.there (ap (λ e. e.first) on.ends) (ap (λ e. e.last) on.ends) (count_along a sheet edit vs vf vl ws wf wl on.count),
      cond-false _ _ _ apart ∙ fresh_along a sheet edit ws wf wl there,
    )

no_part : (sheet : ℕ) (a : Axis) (edit : Edit) (w : Whole) → nat_eq w.sheet sheet ≡ false → option_map (whole_of w.axis) (fresh_part (Lines sheet a edit) (whole_block w)) ≡ None
no_part sheet a edit w off =
    ap (option_map (whole_of w.axis)) (cond-false _ _ _ (ap (λ s. nat_eq s sheet) (sheet-with_span w.axis (lines_of w) _) ∙ off))

goes_on : (f : Form) (old new : PlaceLines) (v w : Whole) → IsHandedWhole f old new v w → (fresh : Option Span) × GoesOn f old new v w fresh
goes_on (Lines sheet a edit) old new v w on = by (same_axis w.axis (across a)) refl
  where
    axes : v.axis ≡ w.axis
    axes = ap (λ e. e.axis) on.ends

    sheets : v.sheet ≡ w.sheet
    sheets = ap (λ e. e.sheet) on.ends

    by_sheet : w.axis ≡ a → same_axis w.axis (across a) ≡ false → (v.sheet ≡ sheet) ⊎ (v.sheet ≡ sheet → ⊥) → (fresh : Option Span) × GoesOn (Lines sheet a edit) old new v w fresh
    by_sheet is e (inl here) =
        let first : along a v.sheet v.first v.last ≡ v = λ i. record { sheet = v.sheet; axis = sym (axes ∙ is) i; first = v.first; last = v.last } in
        let second : along a w.sheet w.first w.last ≡ w = λ i. record { sheet = w.sheet; axis = sym is i; first = w.first; last = w.last } in
        let there : IsHandedWhole (Lines sheet a edit) old new (along a v.sheet v.first v.last) (along a w.sheet w.first w.last)
        = subst (λ y. IsHandedWhole (Lines sheet a edit) old new (along a v.sheet v.first v.last) y) (sym second) (subst (λ x. IsHandedWhole (Lines sheet a edit) old new x w) (sym first) on) in
        let apart : same_axis a (across a) ≡ false = subst (λ b. same_axis b (across a) ≡ false) is e in
        let goes = edited a sheet edit old new v.sheet v.first v.last w.sheet w.first w.last apart there here in (
          fresh_lines edit (lines_of w),
          subst (λ y. GoesOn (Lines sheet a edit) old new v y (fresh_lines edit (lines_of w))) second
              (subst (λ x. GoesOn (Lines sheet a edit) old new x (along a w.sheet w.first w.last) (fresh_lines edit (lines_of w))) first goes),
        )
    by_sheet is e (inr off) = (
      None,
      (
        stays old new v w on.ends (subst (λ b. AreSame (table_along b new v.sheet) (table_along b old v.sheet)) (sym (axes ∙ is)) (on.moved.1 v.sheet (ne_eqb v.sheet sheet off))),
        cond-false _ _ _ e ∙ no_part sheet a edit w (subst (λ s. nat_eq s sheet ≡ false) sheets (ne_eqb v.sheet sheet off)),
      ),
    )

    by : (b : Bool) → same_axis w.axis (across a) ≡ b → (fresh : Option Span) × GoesOn (Lines sheet a edit) old new v w fresh
    by true e =
        let is : w.axis ≡ across a = same_axis-equal w.axis (across a) e in (
          None,
          (stays old new v w on.ends (subst (λ b. AreSame (table_along b new v.sheet) (table_along b old v.sheet)) (sym (axes ∙ is)) (on.moved.2 v.sheet)), cond-true _ _ _ e),
        )
    by false e = by_sheet (other_axis w.axis a e) e (cases_eq v.sheet sheet)
goes_on (Cells source to) old new v w on = (None, (stays old new v w on.ends (on.moved v.axis v.sheet), refl))
goes_on (Sheet sheet) old new v w on = (None, (stays old new v w on.ends (on.moved v.axis v.sheet), refl))

-- ---- lines that are known

-- a spot of a sheet by the number of its line along an axis; across it is past the sheet's end
abbrev spot_along : Axis → ℕ → ℕ → LineSpot
spot_along Rows sheet n = record { sheet = sheet; row = n; col = past 0 }
spot_along Cols sheet n = record { sheet = sheet; row = past 0; col = n }

known_spot : (axis : Axis) (lines : PlaceLines) (sheet n : ℕ) → IsKnownLine (table_along axis lines sheet) n → IsKnown lines (spot_along axis sheet n)
known_spot Rows lines sheet n known = (known, inr (omega arith))
known_spot Cols lines sheet n known = (inr (omega arith), known)

spot_is_known : (axis : Axis) (lines : PlaceLines) (sheet n : ℕ) → IsKnown lines (spot_along axis sheet n) → IsKnownLine (table_along axis lines sheet) n
spot_is_known Rows lines sheet n known = known.0
spot_is_known Cols lines sheet n known = known.1

-- a known line stays known
pub stays_known_along : (f : Form) (old new : PlaceLines) (axis : Axis) (sheet n : ℕ) → AreMoved f old new → is_known_line (table_along axis old sheet) n ≡ true → is_known_line (table_along axis new sheet) n ≡ true
stays_known_along f old new axis sheet n moved passes =
    line_known (table_along axis new sheet) n (spot_is_known axis new sheet n
    (stays_known f old new (spot_along axis sheet n) moved (known_spot axis old sheet n (known_line (table_along axis old sheet) n passes))))

-- a place on a line along an axis, past the sheet's end across
abbrev place_along : Axis → ℕ → ℕ → Place
place_along Rows sheet x = record { sheet = sheet; row = x; col = limit_of Cols }
place_along Cols sheet x = record { sheet = sheet; row = limit_of Rows; col = x }

far_known : (t : LineTable) (x : ℕ) → t.limit ≤ x → (u : LineTable) → IsKnownLine u (number_of t x)
far_known t x far u = elim (has_number t x) [
  | inl (l, at, here, lt) ↦ absurd (omega arith)
  | inr (here, over) ↦ inr (omega arith)
]

known_place : (axis : Axis) (old new : PlaceLines) (sheet x : ℕ) → IsKnownLine (table_along axis old sheet) (number_of (table_along axis new sheet) x) → IsKnown old (spot_of new (place_along axis sheet x))
known_place Rows old new sheet x known =
    let limit = limit_along Cols new sheet in
    (known, far_known (table_along Cols new sheet) (limit_of Cols) (omega arith) (table_along Cols old sheet))
known_place Cols old new sheet x known =
    let limit = limit_along Rows new sheet in
    (far_known (table_along Rows new sheet) (limit_of Rows) (omega arith) (table_along Rows old sheet), known)

along_from : (axis : Axis) (old new : PlaceLines) (sheet x : ℕ) (p : Place) → spot_of old p ≡ spot_of new (place_along axis sheet x) → (n : ℕ) × (number_of (table_along axis old sheet) n ≡ number_of (table_along axis new sheet) x)
along_from Rows old new sheet x p is = (p.row, ap (λ s. number_of (table_along Rows old s) p.row) (sym (ap (λ s. s.sheet) is)) ∙ ap (λ s. s.row) is)
along_from Cols old new sheet x p is = (p.col, ap (λ s. number_of (table_along Cols old s) p.col) (sym (ap (λ s. s.sheet) is)) ∙ ap (λ s. s.col) is)

-- the number of a line that was known before an operation is that of a position then
was_along : (f : Form) (old new : PlaceLines) (axis : Axis) (sheet x : ℕ) → AreMoved f old new → is_known_line (table_along axis old sheet) (number_of (table_along axis new sheet) x) ≡ true
    → (n : ℕ) × (number_of (table_along axis old sheet) n ≡ number_of (table_along axis new sheet) x)
was_along f old new axis sheet x moved passes =
    let known = known_line (table_along axis old sheet) (number_of (table_along axis new sheet) x) passes in
    let (p, is, inside, narrow) = spot_was_there f old new (place_along axis sheet x) moved (known_place axis old new sheet x known) in
    along_from axis old new sheet x p is

-- ---- what holds a whole range that is handed on holds what it becomes, with the lines that come in

pub whole_served : (form : Form) (old new : PlaceLines) (before test : LineSpot → Type 0) (v w : Whole) → IsHandedWhole form old new v w
    → ((spot : LineSpot) → test spot → before spot ⊎ ((part : Whole) × (fresh_whole form w ≡ Some part) × IsOnLines new part spot))
    → ((spot : LineSpot) → before spot → test spot)
    → ((part : Whole) (spot : LineSpot) → fresh_whole form w ≡ Some part → IsOnLines new part spot → test spot)
    → HoldsWhole old before v → HoldsWhole new test w
whole_served form old new before test v w on only grows added holds = record {
  sheet = λ spot passes. by_sheet spot (only spot passes);
  exact = λ spot position sheet is. (λ passes. inside spot position sheet is (only spot passes), λ h. outside spot position sheet is h.0 h.1);
  known = λ spot passes. by_known spot (only spot passes);
}
  where
    t : LineTable
    t = table_along v.axis old v.sheet

    u : LineTable
    u = table_along w.axis new w.sheet

    axes : v.axis ≡ w.axis
    axes = ap (λ e. e.axis) on.ends

    sheets : v.sheet ≡ w.sheet
    sheets = ap (λ e. e.sheet) on.ends

    fresh : Option Span
    fresh = (goes_on form old new v w on).0

    goes : Goes t u (lines_of v) (lines_of w) fresh
    goes = (goes_on form old new v w on).1.0

    parts : fresh_whole form w ≡ option_map (whole_on w) fresh
    parts = (goes_on form old new v w on).1.1

    IsFresh : LineSpot → Type 0
    IsFresh spot = (part : Whole) × (fresh_whole form w ≡ Some part) × IsOnLines new part spot

    -- a part is on some of the lines
    band_of : (o : Option Span) (part : Whole) → option_map (whole_on w) o ≡ Some part → (band : Span) × (o ≡ Some band) × (whole_on w band ≡ part)
    band_of (Some band) part h = (band, refl, same_Some (whole_on w band) part h)
    band_of None part h = absurd (cc)

    on_band : (spot : LineSpot) → IsFresh spot → (band : Span) × (fresh ≡ Some band) × IsOnLines new (whole_on w band) spot
    on_band spot (part, is_part, on_lines) =
        let (band, is, same) = band_of fresh part (sym parts ∙ is_part) in
        (band, is, subst (λ x. IsOnLines new x spot) (sym same) on_lines)

    by_sheet : (spot : LineSpot) → before spot ⊎ IsFresh spot → spot.sheet ≡ w.sheet
    by_sheet spot (inl was) = holds.sheet spot was ∙ sheets
    by_sheet spot (inr put) = (on_band spot put).2.0

    same_number_on : (spot : LineSpot) → number_on v.axis spot ≡ number_on w.axis spot
    same_number_on spot = ap (λ a. number_on a spot) axes

    by_known : (spot : LineSpot) → before spot ⊎ IsFresh spot → is_known_line u (number_on w.axis spot) ≡ true
    by_known spot (inl was) =
        let here : is_known_line (table_along v.axis old v.sheet) (number_on v.axis spot) ≡ true = holds.known spot was in
        subst (λ a. is_known_line (table_along a new w.sheet) (number_on a spot) ≡ true) axes
        (subst (λ s. is_known_line (table_along v.axis new s) (number_on v.axis spot) ≡ true) sheets (stays_known_along form old new v.axis v.sheet (number_on v.axis spot) on.moved here))
    by_known spot (inr put) =
        let (band, is, (sheet, on_sheet, (x, within, number))) = on_band spot put in
        subst (λ n. is_known_line u n ≡ true) number (number_known u x)

    -- the same table, by the first range
    there : (x : ℕ) → number_of (table_along v.axis new v.sheet) x ≡ number_of u x
    there x = λ i. number_of (table_along (axes i) new (sheets i)) x

    inside : (spot : LineSpot) (position : ℕ) → spot.sheet ≡ w.sheet → number_of u position ≡ number_on w.axis spot → before spot ⊎ IsFresh spot → IsTrue (is_on_sheet w.axis spot) × IsWithin (lines_of w) position
    inside spot position sheet is (inl was) =
        let number : number_on v.axis spot ≡ number_of (table_along v.axis new v.sheet) position = same_number_on spot ∙ (sym is ∙ sym (there position)) in
        let (n, at) = was_along form old new v.axis v.sheet position on.moved (subst (λ m. is_known_line t m ≡ true) number (holds.known spot was)) in
        let (on_sheet, within) = (holds.exact spot n (holds.sheet spot was) (at ∙ sym number)).0 was in
        (subst (λ a. is_on_sheet a spot ≡ true) axes on_sheet, goes.to position n within (at ∙ there position))
    inside spot position sheet is (inr put) =
        let (band, is_band, (s, on_sheet, (x, within, number))) = on_band spot put in
        let one : x ≡ position = one_position u x position (low_along w.axis new w.sheet) (number ∙ sym is) in
        (on_sheet, goes.inside position (band, is_band, subst (IsWithin band) one within))

    outside : (spot : LineSpot) (position : ℕ) → spot.sheet ≡ w.sheet → number_of u position ≡ number_on w.axis spot → is_on_sheet w.axis spot ≡ true → IsWithin (lines_of w) position → test spot
    outside spot position sheet is on_sheet within = elim (goes.from position within) [
      | inl (n, was_within, at) ↦
          grows spot ((holds.exact spot n (sheet ∙ sym sheets) (at ∙ (is ∙ sym (same_number_on spot)))).1 (subst (λ a. is_on_sheet a spot ≡ true) (sym axes) on_sheet, was_within))
      | inr (band, is_band, here) ↦
          added (whole_on w band) spot (parts ∙ ap (option_map (whole_on w)) is_band) (sheet, on_sheet, (position, here, is))
    ]
