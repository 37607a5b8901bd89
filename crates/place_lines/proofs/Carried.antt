-- A place that an edit of lines moves keeps its spot, and a block that it carries along as it is covers the same spots.
use Rattle.std.proofs.Common.{◌≡◌, ◌≢◌, ◌∙◌, sym, ap, refl, subst, ℕ, ◌-◌, ◌<◌, ◌⊎◌, ◌↔◌, inl, inr, Option, Some, MatchOption, arith}
use Rattle.std.specs.Bool.{⊤}
use Rattle.std.proofs.lemmas.Bool.{ne_eqb}
use Rattle.std.proofs.lemmas.Bool.Decides.{nat_tests}
use Rattle.cell_addr.specs.declared.axis.Axis.{Axis}
use Rattle.cell_addr.specs.declared.axis.Axis.TheVariants.{Rows, Cols}
use Rattle.cell_addr.specs.declared.place.Place.{Place}
use Rattle.cell_addr.specs.declared.place.Block.{Block}
use Rattle.cell_addr.specs.Axis.{limit_of, line_of, with_line}
use Rattle.cell_addr.specs.Place.{Covers, IsBlockInside, IsInside}
use Rattle.shift_core.specs.Bent.{BendsBlock, CutsBlock, HaveOtherSizes, MeetsDisplaced}
use Rattle.shift_core.specs.Carried.{carried_place, first_place, last_place}
use Rattle.shift_core.specs.Form.{across}
use Rattle.shift_core.specs.Laws.{NoCellsMove}
use Rattle.shift_core.specs.Lines.{line_after, line_before}
use Rattle.shift_core.specs.Sound.{IsSoundForm}
use Rattle.shift_core.specs.Spans.{span_after}
use Rattle.shift_core.specs.Tables.{block_moved, place_moved}
use Rattle.shift_core.specs.declared.edit.Edit.{Edit}
use Rattle.shift_core.specs.declared.form.Form.{Form}
use Rattle.shift_core.specs.declared.form.Form.TheVariants.{Lines, Cells, Sheet}
use Rattle.shift_core.proofs.Axes.{across-with_line, cases_by_line, cases_by_span, line_inside, line_of-with_line, sheet-with_line, sheet-with_span, size_along}
use Rattle.shift_core.proofs.BlockLaws.{block_moved_inside}
use Rattle.shift_core.proofs.CellMoves.{same_place}
use Rattle.shift_core.proofs.LinesReturn.{edit_inside, edit_returns}
use Rattle.shift_core.proofs.PlaceLaws.{stays_on_drop}
use Rattle.shift_core.proofs.UnbentBlocks.{unbent_keeps}
use Rattle.stable_lines.specs.Lines.{AreRenewed, ComesTo, line_at}
use Rattle.stable_lines.specs.declared.table.LineTable.{LineTable}
use Rattle.place_lines.specs.Moved.{AreMoved}
use Rattle.place_lines.specs.Spots.{area_of, number_of, spot_of, table_along}
use Rattle.place_lines.specs.declared.lines.PlaceLines.{PlaceLines}
use Rattle.place_lines.proofs.Known.{same_number}
use Rattle.place_lines.proofs.LineNumbers.{has_number, number_line}
use Rattle.place_lines.proofs.Places.{limit_along, number_along, one_place, one_spot, same_area}

-- a line that comes to a position keeps its number
same_line : (t u : LineTable) (n x : ℕ) → n < t.limit → line_at u x ≡ line_at t n → number_of t n ≡ number_of u x
same_line t u n x lt e =
    elim (has_number t n) [
      | inl (l, at, here, within) ↦ here ∙ sym (number_line u x l (e ∙ at))
      | inr (here, over) ↦ absurd (omega arith)
    ]

moved_number : (before : ℕ → Option ℕ) (t u : LineTable) (n x : ℕ) → AreRenewed before t u → x < t.limit → n < t.limit → before x ≡ Some n → number_of t n ≡ number_of u x
moved_number before t u n x renewed to from e =
    same_line t u n x from (subst (ComesTo t u x) e (renewed.2 x to))

edited_number : (sheet : ℕ) (axis : Axis) (edit : Edit) (old new : PlaceLines) (r q : ℕ) → IsSoundForm (Lines sheet axis edit) → AreMoved (Lines sheet axis edit) old new → r < limit_of axis
    → line_after (limit_of axis) edit r ≡ Some q → number_of (table_along axis old sheet) r ≡ number_of (table_along axis new sheet) q
edited_number sheet axis edit old new r q sound moved lt h =
    let limit = limit_along axis old sheet in
    let inside = edit_inside (limit_of axis) edit r q sound lt h in
    moved_number (line_before (limit_of axis) edit) (table_along axis old sheet) (table_along axis new sheet) r q moved.0 (omega arith) (omega arith)
    (edit_returns (limit_of axis) edit r q sound lt h)

-- the number along an axis of a place on that sheet and that line
number_at : (axis : Axis) (lines : PlaceLines) (q : Place) (sheet n : ℕ) → q.sheet ≡ sheet → line_of axis q ≡ n → number_along axis lines q ≡ number_of (table_along axis lines sheet) n
number_at axis lines q sheet n on e =
    ap (λ s. number_of (table_along axis lines s) (line_of axis q)) on ∙ ap (number_of (table_along axis lines sheet)) e

edited_spot : (sheet : ℕ) (axis : Axis) (edit : Edit) (old new : PlaceLines) (p : Place) (n : ℕ) → IsSoundForm (Lines sheet axis edit) → AreMoved (Lines sheet axis edit) old new → IsInside p
    → p.sheet ≡ sheet → line_after (limit_of axis) edit (line_of axis p) ≡ Some n → spot_of old p ≡ spot_of new (with_line axis n p)
edited_spot sheet axis edit old new p n sound moved inside on h =
    let q = with_line axis n p in
    let here = sheet-with_line axis n p in
    one_spot axis old new p q (sym here)
    (
    number_at axis old p sheet (line_of axis p) on refl
    ∙ edited_number sheet axis edit old new (line_of axis p) n sound moved (line_inside axis p inside) h
    ∙ sym (number_at axis new q sheet n (here ∙ on) (line_of-with_line axis n p))
    )
    (
    same_number (table_along (across axis) old p.sheet) (table_along (across axis) new p.sheet) (line_of (across axis) p) (moved.2 p.sheet)
    ∙ sym (number_at (across axis) new q p.sheet (line_of (across axis) p) here (across-with_line axis n p))
    )

other_spot : (sheet : ℕ) (axis : Axis) (edit : Edit) (old new : PlaceLines) (p : Place) → AreMoved (Lines sheet axis edit) old new → p.sheet ≢ sheet → spot_of old p ≡ spot_of new p
other_spot sheet axis edit old new p moved off =
    one_spot axis old new p p refl
    (same_number (table_along axis old p.sheet) (table_along axis new p.sheet) (line_of axis p) (moved.1 p.sheet (ne_eqb p.sheet sheet off)))
    (same_number (table_along (across axis) old p.sheet) (table_along (across axis) new p.sheet) (line_of (across axis) p) (moved.2 p.sheet))

-- unless cells are moved, a place that moves keeps its spot
pub spot_stays : (f : Form) (old new : PlaceLines) (p q : Place) → IsSoundForm f → NoCellsMove f → AreMoved f old new → IsInside p → place_moved f p ≡ Some q → spot_of old p ≡ spot_of new q
spot_stays (Lines sheet axis edit) old new p q sound none moved inside h =
    elim (cases_by_line sheet axis (line_after (limit_of axis) edit) p q h) [
      | inl (n, w) ↦ edited_spot sheet axis edit old new p n sound moved inside w.0 w.1 ∙ ap (spot_of new) (sym w.2)
      | inr w ↦ other_spot sheet axis edit old new p moved w.0 ∙ ap (spot_of new) (sym w.1)
    ]
spot_stays (Cells source to) old new p q sound none moved inside h = absurd none
spot_stays (Sheet sheet) old new p q sound none moved inside h =
    one_spot Rows old new p p refl
    (same_number (table_along Rows old p.sheet) (table_along Rows new p.sheet) p.row (moved Rows p.sheet))
    (same_number (table_along Cols old p.sheet) (table_along Cols new p.sheet) p.col (moved Cols p.sheet))
    ∙ ap (spot_of new) (stays_on_drop sheet p q h)

-- blocks of the same sheet and the same size
pub record AreAlike (b c : Block) : Type 0 where
  pub sheet : b.sheet ≡ c.sheet
  pub rows : b.bottom - b.top ≡ c.bottom - c.top
  pub cols : b.right - b.left ≡ c.right - c.left

alike_back : (b c : Block) → AreAlike b c → AreAlike c b
alike_back b c w = record { sheet = sym w.sheet; rows = sym w.rows; cols = sym w.cols }

-- a place at the same offset in a block of the same size
carried_covers : (b c : Block) (p : Place) → AreAlike b c → IsBlockInside c → Covers b p → Covers c (carried_place b (first_place c) p)
carried_covers b c p w i v = let rows = w.rows in let cols = w.cols in (refl, omega arith, omega arith, omega arith, omega arith)

carried_returns : (b c : Block) (p : Place) → Covers b p → carried_place c (first_place b) (carried_place b (first_place c) p) ≡ p
carried_returns b c p v = same_place _ p v.0 (omega arith) (omega arith)

kept_sheet : (f : Form) (b after : Block) → NoCellsMove f → block_moved f b ≡ Some after → after.sheet ≡ b.sheet
kept_sheet (Lines sheet axis edit) b after none h =
    elim (cases_by_span sheet axis (span_after (limit_of axis) edit) b after h) [
      | inl (t, w) ↦ ap (λ x. x.sheet) w.2 ∙ sheet-with_span axis t b
      | inr w ↦ ap (λ x. x.sheet) w.1
    ]
kept_sheet (Cells source to) b after none h = absurd none
kept_sheet (Sheet sheet) b after none h = grind (arith, nat_tests)

same_sizes : (f : Form) (b after : Block) → ¬ BendsBlock f b → block_moved f b ≡ Some after → ¬ HaveOtherSizes b after
same_sizes f b after still h other =
    let P : Option Block → Type 0 = λ o. MatchOption o ⊤ (λ x. HaveOtherSizes b x ⊎ MeetsDisplaced f b) in still (subst P (sym h) (inl other))

carried_alike : (f : Form) (b after : Block) → NoCellsMove f → ¬ BendsBlock f b → block_moved f b ≡ Some after → AreAlike b after
carried_alike f b after none still h =
    let same = same_sizes f b after still h in
    record { sheet = sym (kept_sheet f b after none h); rows = sym (size_along Rows b after same); cols = sym (size_along Cols b after same) }

-- what a form of operation carries along as it is
pub record IsCarriedBlock (f : Form) (b after : Block) : Type 0 where
  pub sound : IsSoundForm f
  pub none : NoCellsMove f
  pub inside : IsBlockInside b
  pub still : BendsBlock f b → ⊥
  pub whole : CutsBlock f b → ⊥
  pub moves : block_moved f b ≡ Some after

covered_inside : (b : Block) (p : Place) → IsBlockInside b → Covers b p → IsInside p
covered_inside b p i c = (omega arith, omega arith)

-- each place of the block keeps its spot at its offset
carried_spot : (f : Form) (old new : PlaceLines) (b after : Block) (p : Place) → IsCarriedBlock f b after → AreMoved f old new → Covers b p → spot_of old p ≡ spot_of new (carried_place b (first_place after) p)
carried_spot f old new b after p w moved c =
    spot_stays f old new p (carried_place b (first_place after) p) w.sound w.none moved (covered_inside b p w.inside c)
    (unbent_keeps f b after p w.sound w.none w.inside w.still w.whole w.moves c)

-- so the block covers the same spots as before
pub carried_spots : (f : Form) (old new : PlaceLines) (b after : Block) (q : Place) → IsCarriedBlock f b after → AreMoved f old new
    → Covers after q ↔ ((p : Place) × Covers b p × (spot_of old p ≡ spot_of new q))
carried_spots f old new b after q w moved =
    let alike = carried_alike f b after w.none w.still w.moves in
    let there = block_moved_inside f b after w.sound w.inside w.moves in (
      λ c.
          let p = carried_place after (first_place b) q in
          let covered = carried_covers after b q (alike_back b after alike) w.inside c in
          (p, covered, carried_spot f old new b after p w moved covered ∙ ap (spot_of new) (carried_returns after b q c)),
      λ e.
          let (p, c, same) = e in
          let one : carried_place b (first_place after) p ≡ q = one_place new (carried_place b (first_place after) p) q (sym (carried_spot f old new b after p w moved c) ∙ same) in
          subst (Covers after) one (carried_covers b after p alike there c),
    )

-- and keeps its area
pub carried_area : (f : Form) (old new : PlaceLines) (b after : Block) → IsCarriedBlock f b after → AreMoved f old new → area_of old b ≡ area_of new after
carried_area f old new b after w moved =
    let alike = carried_alike f b after w.none w.still w.moves in
    let i = w.inside in
    let j = block_moved_inside f b after w.sound w.inside w.moves in
    let rows = alike.rows in
    let cols = alike.cols in
    let first : carried_place b (first_place after) (first_place b) ≡ first_place after = same_place _ (first_place after) refl (omega arith) (omega arith) in
    let last : carried_place b (first_place after) (last_place b) ≡ last_place after = same_place _ (last_place after) refl (omega arith) (omega arith) in
    same_area (area_of old b) (area_of new after)
    (carried_spot f old new b after (first_place b) w moved (refl, omega arith, omega arith, omega arith, omega arith) ∙ ap (spot_of new) first)
    (carried_spot f old new b after (last_place b) w moved (refl, omega arith, omega arith, omega arith, omega arith) ∙ ap (spot_of new) last)
