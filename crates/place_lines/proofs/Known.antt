-- Spots that are known: those of places are, they stay known, and what was known before an operation stood somewhere then.
use Rattle.std.proofs.Common.{◌≡◌, ◌∙◌, sym, refl, subst, ℕ, ◌<◌, ◌≤◌, ◌⊎◌, inl, inr, Option, Some, None, IsSomeAnd, arith}
use Rattle.std.proofs.lemmas.Bool.{cases_eq, ne_eqb}
use Rattle.cell_addr.specs.declared.axis.Axis.{Axis}
use Rattle.cell_addr.specs.declared.axis.Axis.TheVariants.{Rows, Cols}
use Rattle.cell_addr.specs.declared.place.Place.{Place}
use Rattle.cell_addr.specs.Axis.{limit_of}
use Rattle.cell_addr.specs.Place.{IsInside}
use Rattle.shift_core.specs.Form.{across}
use Rattle.shift_core.specs.Lines.{line_before}
use Rattle.shift_core.specs.declared.form.Form.{Form}
use Rattle.shift_core.specs.declared.form.Form.TheVariants.{Lines, Cells, Sheet}
use Rattle.stable_lines.specs.Lines.{AreRenewed, AreSame, ComesTo, line_at}
use Rattle.stable_lines.specs.Sheets.{table_of}
use Rattle.stable_lines.specs.declared.table.LineTable.{LineTable}
use Rattle.place_lines.specs.Laws.{IsNarrow}
use Rattle.place_lines.specs.Moved.{AreMoved, IsKnown, IsKnownLine, OthersStay}
use Rattle.place_lines.specs.Spots.{number_of, positions, spot_of, table_along}
use Rattle.place_lines.specs.internal.Low.{HasLowLines}
use Rattle.place_lines.specs.declared.lines.PlaceLines.{PlaceLines}
use Rattle.place_lines.specs.declared.spot.LineSpot.{LineSpot}
use Rattle.place_lines.proofs.LineNumbers.{has_number, number_line, number_past}
use Rattle.place_lines.proofs.Places.{limit_along, low_along, same_spot}

-- the number of each position is known
number_known : (t : LineTable) (x : ℕ) → IsKnownLine t (number_of t x)
number_known t x =
    elim (has_number t x) [
      | inl (l, at, here, lt) ↦ let below = t.below x l at in inl (omega arith)
      | inr w ↦ let n = w.0 in inr (omega arith)
    ]

pub spot_known : (lines : PlaceLines) (p : Place) → IsKnown lines (spot_of lines p)
spot_known lines p = (number_known (table_of lines.rows p.sheet) p.row, number_known (table_of lines.cols p.sheet) p.col)

-- an operation renews the lines of a sheet along an axis, or leaves them
abbrev pub AreRenewedOrSame : LineTable → LineTable → Type 0
AreRenewedOrSame t u = ((before : ℕ → Option ℕ) × AreRenewed before t u) ⊎ AreSame u t

edited_or_same : (edited : ℕ) (axis : Axis) (before : ℕ → Option ℕ) (old new : PlaceLines) (sheet : ℕ) → AreRenewed before (table_along axis old edited) (table_along axis new edited)
    → OthersStay axis edited old new → AreRenewedOrSame (table_along axis old sheet) (table_along axis new sheet)
edited_or_same edited axis before old new sheet renewed others =
    elim (cases_eq sheet edited) [
      | inl e ↦ inl (before, subst (λ s. AreRenewed before (table_along axis old s) (table_along axis new s)) (sym e) renewed)
      | inr n ↦ inr (others sheet (ne_eqb sheet edited n))
    ]

both_axes : (axis : Axis) (P : Axis → Type 0) → P axis → P (across axis) → (any : Axis) → P any
both_axes Rows P along over Rows = along
both_axes Rows P along over Cols = over
both_axes Cols P along over Rows = over
both_axes Cols P along over Cols = along

pub renewed_or_same : (f : Form) (old new : PlaceLines) (axis : Axis) (sheet : ℕ) → AreMoved f old new → AreRenewedOrSame (table_along axis old sheet) (table_along axis new sheet)
renewed_or_same (Lines edited along edit) old new axis sheet moved =
    both_axes along (λ a. AreRenewedOrSame (table_along a old sheet) (table_along a new sheet))
    (edited_or_same edited along (line_before (limit_of along) edit) old new sheet moved.0 moved.1) (inr (moved.2 sheet)) axis
renewed_or_same (Cells source to) old new axis sheet moved = inr (moved axis sheet)
renewed_or_same (Sheet dropped) old new axis sheet moved = inr (moved axis sheet)

next_grows : (t u : LineTable) → AreRenewedOrSame t u → t.next ≤ u.next
next_grows t u w =
    elim w [
      | inl (before, renewed) ↦ renewed.1
      | inr same ↦ let e = same.1 in omega arith
    ]

-- known numbers stay known, since none is given a second time
stays_known_line : (t u : LineTable) (n : ℕ) → AreRenewedOrSame t u → IsKnownLine t n → IsKnownLine u n
stays_known_line t u n w known =
    let le = next_grows t u w in
    elim known [
      | inl lt ↦ inl (omega arith)
      | inr high ↦ inr high
    ]

pub stays_known : (f : Form) (old new : PlaceLines) (spot : LineSpot) → AreMoved f old new → IsKnown old spot → IsKnown new spot
stays_known f old new spot moved known = (
  stays_known_line (table_of old.rows spot.sheet) (table_of new.rows spot.sheet) spot.row (renewed_or_same f old new Rows spot.sheet moved) known.0,
  stays_known_line (table_of old.cols spot.sheet) (table_of new.cols spot.sheet) spot.col (renewed_or_same f old new Cols spot.sheet moved) known.1,
)

-- the same lines have the same numbers
pub same_number : (t u : LineTable) (x : ℕ) → AreSame u t → number_of t x ≡ number_of u x
same_number t u x w = rw (w.2 x) refl

-- the position that a line of the new table stood at, where its number was known
came_from : (t u : LineTable) (x : ℕ) (from : Option ℕ) (l : ℕ) → ComesTo t u x from → line_at u x ≡ Some l → l < t.next → (n : ℕ) × (line_at t n ≡ Some l)
came_from t u x (Some n) l comes at lt = (n, sym comes ∙ at)
came_from t u x None l comes at lt = let new : t.next ≤ l = subst (λ r. IsSomeAnd r (λ line. t.next ≤ line)) at comes in absurd (omega arith)

-- a number of the new table that was known is that of a position before, of the sheet or the same
abbrev pub WasThere : LineTable → LineTable → ℕ → Type 0
WasThere t u x = (n : ℕ) × (number_of t n ≡ number_of u x) × ((bound : ℕ) → t.limit ≤ bound → x < bound → n < bound)

renewed_was_there : (before : ℕ → Option ℕ) (t u : LineTable) (x : ℕ) → HasLowLines u → AreRenewed before t u → IsKnownLine t (number_of u x) → WasThere t u x
renewed_was_there before t u x low renewed known =
    let limits = renewed.0 in
    elim (has_number u x) [
      | inl (l, at, here, lt) ↦
          let small = low x l at in
          let old : l < t.next = elim known [ inl k ↦ omega arith | inr k ↦ absurd (omega arith) ] in
          let w = came_from t u x (before x) l (renewed.2 x (omega arith)) at old in
          let within = t.within w.0 l w.1 in
          (w.0, number_line t w.0 l w.1 ∙ sym here, λ bound le inside. omega arith)
      | inr (here, le) ↦ (x, number_past t x (omega arith) ∙ sym here, λ bound over inside. inside)
    ]

line_was_there : (t u : LineTable) (x : ℕ) → HasLowLines u → AreRenewedOrSame t u → IsKnownLine t (number_of u x) → WasThere t u x
line_was_there t u x low w known =
    elim w [
      | inl (before, renewed) ↦ renewed_was_there before t u x low renewed known
      | inr same ↦ (x, same_number t u x same, λ bound over inside. inside)
    ]

-- a place whose spot was known has the spot that some place had, which was on the sheet if it is, and had numbers of 32
-- bits if it has
pub spot_was_there : (f : Form) (old new : PlaceLines) (q : Place) → AreMoved f old new → IsKnown old (spot_of new q)
    → (p : Place) × (spot_of old p ≡ spot_of new q) × (IsInside q → IsInside p) × (IsNarrow q → IsNarrow p)
spot_was_there f old new q moved known =
    let row = line_was_there (table_of old.rows q.sheet) (table_of new.rows q.sheet) q.row (low_along Rows new q.sheet) (renewed_or_same f old new Rows q.sheet moved) known.0 in
    let col = line_was_there (table_of old.cols q.sheet) (table_of new.cols q.sheet) q.col (low_along Cols new q.sheet) (renewed_or_same f old new Cols q.sheet moved) known.1 in
    let rows = limit_along Rows old q.sheet in
    let cols = limit_along Cols old q.sheet in
    let narrow_rows = (table_of old.rows q.sheet).narrow in
    let narrow_cols = (table_of old.cols q.sheet).narrow in (
      record { sheet = q.sheet; row = row.0; col = col.0 },
      same_spot _ _ refl row.1 col.1,
      λ inside. (row.2 (limit_of Rows) (omega arith) inside.0, col.2 (limit_of Cols) (omega arith) inside.1),
      λ narrow. (row.2 positions (omega arith) narrow.0, col.2 positions (omega arith) narrow.1),
    )
