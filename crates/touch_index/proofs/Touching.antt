-- What an operation touches is near the lines that it edits, or in the blocks of its cells. Serves the search of an index.
use Rattle.std.proofs.Common.{◌≡◌, ◌∙◌, ◌≢◌, sym, ap, refl, subst, arith, ℕ, ◌-◌, ◌<◌, ◌≤◌, ◌⊎◌, inl, inr, ⊎_elim, Bool, true, false, cond, eqb-true, nat_eq, List, [], ◌∷◌, Option, Some, None, MatchOption, option_map}
use Rattle.std.specs.Bool.{⊤}
use Rattle.std.proofs.lemmas.Bool.{and_parts, cases_Bool, cases_lt, eq-eqb}
use Rattle.std.proofs.lemmas.Bool.Decides.{nat_tests}
use Rattle.cell_addr.specs.Axis.{limit_of, line_of, span_of, with_line, with_span}
use Rattle.cell_addr.specs.Place.{Covers, IsBlockInside, IsInside, covers}
use Rattle.cell_addr.specs.declared.axis.Axis.{Axis}
use Rattle.cell_addr.specs.declared.axis.Axis.TheVariants.{Cols, Rows}
use Rattle.cell_addr.specs.declared.axis.Span.{Span}
use Rattle.cell_addr.specs.declared.place.Block.{Block}
use Rattle.cell_addr.specs.declared.place.Place.{Place}
use Rattle.needs_order.specs.Needs.{has}
use Rattle.std.specs.declared.ops.Range.{Range}
use Rattle.place_lines.specs.Spots.{AreNumbersOf, in_runs, number_of, spot_of, table_along}
use Rattle.place_lines.specs.declared.lines.PlaceLines.{PlaceLines}
use Rattle.stable_lines.specs.Sheets.{table_of}
use Rattle.shift_core.specs.Bent.{BendsBlock, HaveOtherSizes, MeetsDisplaced}
use Rattle.shift_core.specs.Carried.{carried_block, contains, destination, first_place, last_place}
use Rattle.shift_core.specs.Form.{IsWithin}
use Rattle.shift_core.specs.Lines.{IsSoundEdit, line_after}
use Rattle.shift_core.specs.Spans.{span_after}
use Rattle.shift_core.specs.declared.edit.Edit.{Edit}
use Rattle.shift_core.specs.declared.form.Form.TheVariants.{Cells, Lines, Sheet}
use Rattle.place_lines.proofs.LineNumbers.{has_number}
use Rattle.place_lines.proofs.Places.{limit_along}
use Rattle.shift_core.proofs.Axes.{ends_inside, line_inside}
use Rattle.touch_index.specs.Kept.{FindsBlocks, FindsCells, FindsMeeting, GoesOver, KeepsBlock, goes_on}
use Rattle.touch_index.specs.Touched.{TouchesBlock, TouchesCell}
use Rattle.touch_index.specs.declared.index.TouchIndex.{TouchIndex}
use Rattle.touch_index.specs.internal.Bands.{gap_of, lost_span, started_span}
use Rattle.touch_index.specs.internal.Points.{has_point, line_in}
use Rattle.touch_index.proofs.Bands.{GoOver, IsHit, IsNear, lost_line, near}

-- ---- an edit of lines

-- a cell that an edit of a sheet's lines loses stands on one of the lost ones
lost_option : (on : Bool) (r : Option ℕ) (g : ℕ → Place) (p : Place) → cond on (option_map g r) (Some p) ≡ None → (on ≡ true) × (r ≡ None)
lost_option true None g p e = (refl, refl)
lost_option true (Some x) g p e = cc
lost_option false r g p e = cc

pub lost_cell : (sheet : ℕ) (axis : Axis) (edit : Edit) (p : Place) → IsSoundEdit (limit_of axis) edit → IsInside p → TouchesCell (Lines sheet axis edit) p
    → (p.sheet ≡ sheet) × ((band : Span) × (lost_span (limit_of axis) edit ≡ Some band) × IsWithin band (line_of axis p))
lost_cell sheet axis edit p sound inside (inl e) =
    let w = lost_option (nat_eq p.sheet sheet) (line_after (limit_of axis) edit (line_of axis p)) (λ line. with_line axis line p) p e in
    (eqb-true p.sheet sheet w.0, lost_line (limit_of axis) edit (line_of axis p) sound (line_inside axis p inside) w.1)
lost_cell sheet axis edit p sound inside (inr t) = absurd t

-- what becomes of a block on another sheet, and on this one
other_block : (on : Bool) (r : Option Span) (g : Span → Block) (b : Block) → on ≡ false → cond on (option_map g r) (Some b) ≡ Some b
other_block on r g b e = rw e refl

same_block : (on : Bool) (r : Option Span) (g : Span → Block) (b : Block) → on ≡ true → cond on (option_map g r) (Some b) ≡ option_map g r
same_block on r g b e = rw e refl

resized_span : (axis : Axis) (b : Block) (t : Span) → HaveOtherSizes b (with_span axis t b) → t.last - t.first ≢ (span_of axis b).last - (span_of axis b).first
resized_span Rows b t (inl rows) = λ e. rows (sym e)
resized_span Rows b t (inr cols) = absurd (cols refl)
resized_span Cols b t (inl rows) = absurd (rows refl)
resized_span Cols b t (inr cols) = λ e. cols (sym e)

no_other_size : (b : Block) → ¬ HaveOtherSizes b b
no_other_size b (inl rows) = rows refl
no_other_size b (inr cols) = cols refl

-- of a block that an edit of a sheet's lines bends the lines are hit
hit_here : (sheet : ℕ) (axis : Axis) (edit : Edit) (b : Block) (r : Option Span) → span_after (limit_of axis) edit (span_of axis b) ≡ r
    → MatchOption (option_map (λ span. with_span axis span b) r) ⊤ (λ after. HaveOtherSizes b after ⊎ MeetsDisplaced (Lines sheet axis edit) b) → IsHit (limit_of axis) edit (span_of axis b)
hit_here sheet axis edit b None e h = IsHit.lost e
hit_here sheet axis edit b (Some t) e (inl sizes) = IsHit.resized t e (resized_span axis b t sizes)
hit_here sheet axis edit b (Some t) e (inr meets) = IsHit.displaced meets.1

bent_on : (sheet : ℕ) (axis : Axis) (edit : Edit) (b : Block) → BendsBlock (Lines sheet axis edit) b → b.sheet ≡ sheet
bent_on sheet axis edit b h = ⊎_elim
    (λ (on : nat_eq b.sheet sheet ≡ true). eqb-true b.sheet sheet on)
    (λ (off : nat_eq b.sheet sheet ≡ false).
    let stays = other_block (nat_eq b.sheet sheet) (span_after (limit_of axis) edit (span_of axis b)) (λ span. with_span axis span b) b off in
    let P : Option Block → Type 0 = λ o. MatchOption o ⊤ (λ after. HaveOtherSizes b after ⊎ MeetsDisplaced (Lines sheet axis edit) b) in
    ⊎_elim (λ (sizes : HaveOtherSizes b b). absurd (no_other_size b sizes)) (λ (meets : MeetsDisplaced (Lines sheet axis edit) b). meets.0) (subst P stays h))
    (cases_Bool (nat_eq b.sheet sheet))

bent_hit : (sheet : ℕ) (axis : Axis) (edit : Edit) (b : Block) → BendsBlock (Lines sheet axis edit) b → IsHit (limit_of axis) edit (span_of axis b)
bent_hit sheet axis edit b h =
    let on = eq-eqb b.sheet sheet (bent_on sheet axis edit b h) in
    let moves = same_block (nat_eq b.sheet sheet) (span_after (limit_of axis) edit (span_of axis b)) (λ span. with_span axis span b) b on in
    let P : Option Block → Type 0 = λ o. MatchOption o ⊤ (λ after. HaveOtherSizes b after ⊎ MeetsDisplaced (Lines sheet axis edit) b) in
    hit_here sheet axis edit b (span_after (limit_of axis) edit (span_of axis b)) refl (subst P moves h)

-- so a block that an edit touches is on the sheet, and its lines are near the band
pub near_block : (sheet : ℕ) (axis : Axis) (edit : Edit) (b : Block) → IsSoundEdit (limit_of axis) edit → IsBlockInside b → TouchesBlock (Lines sheet axis edit) b
    → (b.sheet ≡ sheet) × IsNear (limit_of axis) edit (span_of axis b)
near_block sheet axis edit b sound inside (inl bent) =
    let ends = ends_inside axis b inside in
    (bent_on sheet axis edit b bent, near (limit_of axis) edit (span_of axis b) sound ends.0 ends.1 (bent_hit sheet axis edit b bent))
near_block sheet axis edit b sound inside (inr (inl cut)) =
    let ends = ends_inside axis b inside in
    (cut.0, near (limit_of axis) edit (span_of axis b) sound ends.0 ends.1 (IsHit.cut cut.1))
near_block sheet axis edit b sound inside (inr (inr t)) = absurd t

-- ---- what is kept of a block

first_line : (axis : Axis) (b : Block) → line_of axis (first_place b) ≡ (span_of axis b).first
first_line Rows b = refl
first_line Cols b = refl

goes_along : (axis : Axis) (x : TouchIndex) (lines : PlaceLines) (b : Block) (n : ℕ) → KeepsBlock x lines b n → GoesOver axis x lines b n
goes_along Rows x lines b n kept = kept.1
goes_along Cols x lines b n kept = kept.2

-- found on the band, over its first line and over the gap, all that an edit touches is found
module _ (x : TouchIndex) (lines : PlaceLines) (sheet : ℕ) (axis : Axis) (edit : Edit) (sound : IsSoundEdit (limit_of axis) edit) (found : List ℕ) where
  abbrev FoundOver : ℕ → Type 0
  FoundOver line = (n : ℕ) → goes_on axis x sheet (number_of (table_along axis lines sheet) line) n ≡ true → has n found ≡ true

  found_over : (b : Block) (n line : ℕ) → b.sheet ≡ sheet → KeepsBlock x lines b n → FoundOver line → GoOver line (span_of axis b) → has n found ≡ true
  found_over b n line on kept over goes =
      over n (subst (λ s. goes_on axis x s (number_of (table_along axis lines s) line) n ≡ true) on (goes_along axis x lines b n kept line goes.0 goes.1))

  pub edited_blocks : ((p : Place) (n : ℕ) → has_point x.firsts (spot_of lines p) n ≡ true → p.sheet ≡ sheet → IsWithin (started_span (limit_of axis) edit) (line_of axis p) → has n found ≡ true)
      → FoundOver (started_span (limit_of axis) edit).first → FoundOver (gap_of edit) → FindsBlocks x lines (Lines sheet axis edit) found
  edited_blocks starts over gap b n inside kept touched =
      let w = near_block sheet axis edit b sound inside touched in elim w.1 [
        | inl within ↦ starts (first_place b) n kept.0 w.0 (subst (IsWithin (started_span (limit_of axis) edit)) (sym (first_line axis b)) within)
        | inr (inl goes) ↦ found_over b n (started_span (limit_of axis) edit).first w.0 kept over goes
        | inr (inr goes) ↦ found_over b n (gap_of edit) w.0 kept gap goes
      ]

  pub edited_cells : ((band : Span) → lost_span (limit_of axis) edit ≡ Some band → (p : Place) (n : ℕ) → has_point x.cells (spot_of lines p) n ≡ true → p.sheet ≡ sheet → IsWithin band (line_of axis p) → has n found ≡ true)
      → FindsCells x lines (Lines sheet axis edit) found
  edited_cells on p n inside kept touched =
      let w = lost_cell sheet axis edit p sound inside touched in on w.1.0 w.1.1 p n kept w.0 w.1.2

-- ---- moved cells

lost_carried : (a c : Bool) (q p : Place) → cond a (Some q) (cond c None (Some p)) ≡ None → c ≡ true
lost_carried a true q p e = refl
lost_carried true false q p e = cc
lost_carried false false q p e = cc

pub moved_cell : (source : Block) (to p : Place) → TouchesCell (Cells source to) p → (covers source p ≡ true) ⊎ (covers (destination source to) p ≡ true)
moved_cell source to p (inl e) = inr (lost_carried (covers source p) (covers (destination source to) p) _ p e)
moved_cell source to p (inr t) = inl t

same_sizes : (source : Block) (to : Place) (b : Block) → contains source b ≡ true → (b.bottom - b.top ≡ (carried_block source to b).bottom - (carried_block source to b).top) × (b.right - b.left ≡ (carried_block source to b).right - (carried_block source to b).left)
same_sizes source to b h = (grind (arith, nat_tests), grind (arith, nat_tests))

bent_cells : (a c : Bool) (source : Block) (to : Place) (b : Block) → contains source b ≡ a → contains (destination source to) b ≡ c
    → MatchOption (cond a (Some (carried_block source to b)) (cond c None (Some b))) ⊤ (λ after. HaveOtherSizes b after ⊎ ⊥) → (a ≡ true) ⊎ (c ≡ true)
bent_cells true c source to b is there h = inl refl
bent_cells false true source to b is there h = inr refl
bent_cells false false source to b is there (inl sizes) = absurd (no_other_size b sizes)
bent_cells false false source to b is there (inr t) = absurd t

pub moved_block : (source : Block) (to : Place) (b : Block) → TouchesBlock (Cells source to) b → (contains source b ≡ true) ⊎ (contains (destination source to) b ≡ true)
moved_block source to b (inl bent) = bent_cells (contains source b) (contains (destination source to) b) source to b refl refl bent
moved_block source to b (inr (inl cut)) = absurd cut
moved_block source to b (inr (inr taken)) = inl taken

-- a block begins where one that contains it has its first place
begins_in : (outer b : Block) → contains outer b ≡ true → covers outer (first_place b) ≡ true
begins_in outer b h = (and_parts (covers outer (first_place b)) (covers outer (last_place b)) h).0

module _ (x : TouchIndex) (lines : PlaceLines) (source : Block) (to : Place) (found : List ℕ) where
  pub moved_cells : ((p : Place) (n : ℕ) → has_point x.cells (spot_of lines p) n ≡ true → covers source p ≡ true → has n found ≡ true)
      → ((p : Place) (n : ℕ) → has_point x.cells (spot_of lines p) n ≡ true → covers (destination source to) p ≡ true → has n found ≡ true)
      → FindsCells x lines (Cells source to) found
  moved_cells here there p n inside kept touched = ⊎_elim (λ (c : covers source p ≡ true). here p n kept c) (λ (c : covers (destination source to) p ≡ true). there p n kept c) (moved_cell source to p touched)

  pub moved_blocks : ((p : Place) (n : ℕ) → has_point x.firsts (spot_of lines p) n ≡ true → covers source p ≡ true → has n found ≡ true)
      → ((p : Place) (n : ℕ) → has_point x.firsts (spot_of lines p) n ≡ true → covers (destination source to) p ≡ true → has n found ≡ true)
      → FindsBlocks x lines (Cells source to) found
  moved_blocks here there b n inside kept touched = ⊎_elim
      (λ (c : contains source b ≡ true). here (first_place b) n kept.0 (begins_in source b c))
      (λ (c : contains (destination source to) b ≡ true). there (first_place b) n kept.0 (begins_in (destination source to) b c))
      (moved_block source to b touched)

-- ---- a dropped sheet

pub dropped_cell : (sheet : ℕ) (p : Place) → TouchesCell (Sheet sheet) p → p.sheet ≡ sheet
dropped_cell sheet p (inl e) = grind (arith, nat_tests)
dropped_cell sheet p (inr t) = absurd t

dropped_option : (on : Bool) (b : Block) → MatchOption (cond on None (Some b)) ⊤ (λ after. HaveOtherSizes b after ⊎ ⊥) → on ≡ true
dropped_option true b h = refl
dropped_option false b (inl sizes) = absurd (no_other_size b sizes)
dropped_option false b (inr t) = absurd t

pub dropped_block : (sheet : ℕ) (b : Block) → TouchesBlock (Sheet sheet) b → b.sheet ≡ sheet
dropped_block sheet b (inl bent) = eqb-true b.sheet sheet (dropped_option (nat_eq b.sheet sheet) b bent)
dropped_block sheet b (inr (inl cut)) = absurd cut
dropped_block sheet b (inr (inr t)) = absurd t

-- the row of a cell of the sheet has a lower number than the last one of 64 bits
pub low_row : (lines : PlaceLines) (p : Place) → IsInside p → (spot_of lines p).row < 18446744073709551615
low_row lines p inside = elim (has_number (table_of lines.rows p.sheet) p.row) [
  | inl (l, at, here, within) ↦ let low = lines.low_rows p.sheet p.row l at in omega arith
  | inr (here, over) ↦ let limit = limit_along Rows lines p.sheet in let row = inside.0 in absurd (omega arith)
]

pub in_all : (line : ℕ) → line < 18446744073709551615 → in_runs (record { start = 0; end = 18446744073709551615 } ∷ []) line ≡ true
in_all line low = grind (arith, nat_tests)

-- ---- runs of lines

-- a place whose line is in the span is on one of its runs
spot_line : (axis : Axis) (lines : PlaceLines) (p : Place) (sheet : ℕ) → p.sheet ≡ sheet → number_of (table_along axis lines sheet) (line_of axis p) ≡ line_in axis (spot_of lines p)
spot_line Rows lines p sheet e = ap (λ s. number_of (table_along Rows lines s) p.row) (sym e)
spot_line Cols lines p sheet e = ap (λ s. number_of (table_along Cols lines s) p.col) (sym e)

pub on_runs : (axis : Axis) (lines : PlaceLines) (p : Place) (sheet : ℕ) (span own : Span) (items runs : List (Range ℕ)) → AreNumbersOf (table_along axis lines sheet) span items → span ≡ own → runs ≡ items
    → p.sheet ≡ sheet → (own.first ≤ line_of axis p) → (line_of axis p ≤ own.last) → in_runs runs (line_in axis (spot_of lines p)) ≡ true
on_runs axis lines p sheet span own items runs numbers is same on low high =
    let are : AreNumbersOf (table_along axis lines sheet) own items = subst (λ s. AreNumbersOf (table_along axis lines sheet) s items) is numbers in
    subst (λ rs. in_runs rs (line_in axis (spot_of lines p)) ≡ true) (sym same) ((are (line_in axis (spot_of lines p))).1 (line_of axis p, low, high, spot_line axis lines p sheet on))

pub first_inside : (b : Block) → IsBlockInside b → IsInside (first_place b)
first_inside b inside = (omega (arith, inside.0, inside.1), omega (arith, inside.2, inside.3))

-- ---- cells in common

within : (axis : Axis) (b : Block) (p : Place) → Covers b p → ((span_of axis b).first ≤ line_of axis p) × (line_of axis p ≤ (span_of axis b).last)
within Rows b p c = (c.1, c.2)
within Cols b p c = (c.3, c.4)

-- found where its lines begin and over the first of them, all that has a cell in common with a block is found
pub meeting_blocks : (x : TouchIndex) (lines : PlaceLines) (axis : Axis) (other : Block) (found : List ℕ)
    → ((p : Place) (n : ℕ) → has_point x.firsts (spot_of lines p) n ≡ true → p.sheet ≡ other.sheet → IsWithin (span_of axis other) (line_of axis p) → has n found ≡ true)
    → ((n : ℕ) → goes_on axis x other.sheet (number_of (table_along axis lines other.sheet) (span_of axis other).first) n ≡ true → has n found ≡ true)
    → FindsMeeting x lines other found
meeting_blocks x lines axis other found starts over b n inside kept meet =
    let (p, both) = meet in
    let (mine, theirs) = both in
    let sheet : b.sheet ≡ other.sheet = mine.0 ∙ sym theirs.0 in
    let own = within axis b p mine in
    let its = within axis other p theirs in
    let first = first_line axis b in
    ⊎_elim
    (λ (before : (span_of axis b).first < (span_of axis other).first).
    over n (subst (λ s. goes_on axis x s (number_of (table_along axis lines s) (span_of axis other).first) n ≡ true) sheet
    (goes_along axis x lines b n kept (span_of axis other).first before (omega (arith, its.0, own.1)))))
    (λ (after : (span_of axis other).first ≤ (span_of axis b).first).
    starts (first_place b) n kept.0 sheet (omega (arith, first, after), omega (arith, first, own.0, its.1)))
    (cases_lt (span_of axis b).first (span_of axis other).first)
