-- Cells and blocks that an operation doesn't touch keep the numbers of their lines, and so are kept where they are then.
use Rattle.std.proofs.Common.{◌≡◌, ◌∙◌, sym, ap, refl, subst, arith, ℕ, ◌<◌, ◌≤◌, inl, inr, ◌⊎◌, ⊎_elim, Bool, true, false, cond, Option, Some, None, MatchOption}
use Rattle.std.specs.Bool.{⊤}
use Rattle.std.proofs.lemmas.Bool.{cases_lt}
use Rattle.std.proofs.lemmas.Option.{same_Some}
use Rattle.cell_addr.specs.Axis.{line_of, span_of, with_line}
use Rattle.cell_addr.specs.Place.{Covers, IsBlockInside, IsInside, covers}
use Rattle.cell_addr.specs.declared.axis.Axis.{Axis}
use Rattle.cell_addr.specs.declared.axis.Axis.TheVariants.{Cols, Rows}
use Rattle.cell_addr.specs.declared.place.Block.{Block}
use Rattle.cell_addr.specs.declared.place.Place.{Place}
use Rattle.place_lines.specs.Moved.{AreMoved}
use Rattle.place_lines.specs.Spots.{area_of, first_spot, number_of, spot_of, table_along}
use Rattle.place_lines.specs.declared.lines.PlaceLines.{PlaceLines}
use Rattle.place_lines.proofs.Carried.{IsCarriedBlock, carried_area, carried_spots, spot_stays}
use Rattle.place_lines.proofs.Known.{same_number}
use Rattle.place_lines.proofs.LineNumbers.{one_position}
use Rattle.place_lines.proofs.Places.{low_along, one_spot, same_area}
use Rattle.shift_core.specs.Bent.{HaveOtherSizes, MeetsDisplaced}
use Rattle.shift_core.specs.Carried.{carried_block, carried_place, contains, destination, first_place, last_place}
use Rattle.shift_core.specs.Laws.{NoCellsMove}
use Rattle.shift_core.specs.Sound.{IsSoundForm}
use Rattle.shift_core.specs.Tables.{block_moved, place_moved}
use Rattle.shift_core.specs.declared.form.Form.{Form}
use Rattle.shift_core.specs.declared.form.Form.TheVariants.{Cells, Lines, Sheet}
use Rattle.shift_core.proofs.BlockLaws.{block_moved_inside}
use Rattle.touch_index.specs.Kept.{GoesOver, KeepsBlock, begins_at, goes_on}
use Rattle.touch_index.specs.Touched.{TouchesBlock, TouchesCell}
use Rattle.touch_index.specs.declared.index.TouchIndex.{TouchIndex}

-- ---- cells

some_place : (o : Option Place) → ¬ (o ≡ None) → (q : Place) × (o ≡ Some q)
some_place None h = absurd (h refl)
some_place (Some q) h = (q, refl)

-- where no lines are edited, each spot stays
spots_stay : (source : Block) (to : Place) (old new : PlaceLines) (p : Place) → AreMoved (Cells source to) old new → spot_of old p ≡ spot_of new p
spots_stay source to old new p moved =
    one_spot Rows old new p p refl
    (same_number (table_along Rows old p.sheet) (table_along Rows new p.sheet) p.row (moved Rows p.sheet))
    (same_number (table_along Cols old p.sheet) (table_along Cols new p.sheet) p.col (moved Cols p.sheet))

stays_beside : (a c : Bool) (q r p : Place) → cond a (Some q) (cond c None (Some p)) ≡ Some r → ¬ (a ≡ true) → p ≡ r
stays_beside true c q r p e beside = absurd (beside refl)
stays_beside false true q r p e beside = cc
stays_beside false false q r p e beside = same_Some p r e

pub cell_stays : (f : Form) (old new : PlaceLines) (p q : Place) → IsSoundForm f → AreMoved f old new → IsInside p → ¬ TouchesCell f p → place_moved f p ≡ Some q → spot_of old p ≡ spot_of new q
cell_stays (Lines sheet axis edit) old new p q sound moved inside untouched e = spot_stays (Lines sheet axis edit) old new p q sound tt moved inside e
cell_stays (Cells source to) old new p q sound moved inside untouched e =
    spots_stay source to old new p moved
    ∙ ap (spot_of new) (stays_beside (covers source p) (covers (destination source to) p) (carried_place source to p) q p e (λ taken. untouched (inr taken)))
cell_stays (Sheet sheet) old new p q sound moved inside untouched e = spot_stays (Sheet sheet) old new p q sound tt moved inside e

pub cell_is_somewhere : (f : Form) (old new : PlaceLines) (p : Place) → IsSoundForm f → AreMoved f old new → IsInside p → ¬ TouchesCell f p
    → (q : Place) × (place_moved f p ≡ Some q) × (spot_of old p ≡ spot_of new q)
cell_is_somewhere f old new p sound moved inside untouched =
    let w = some_place (place_moved f p) (λ e. untouched (inl e)) in (w.0, w.1, cell_stays f old new p w.0 sound moved inside untouched w.1)

-- ---- blocks

-- a block that is lost is bent
lost_bends : (f : Form) (b : Block) → block_moved f b ≡ None → TouchesBlock f b
lost_bends f b e =
    let P : Option Block → Type 0 = λ o. MatchOption o ⊤ (λ after. HaveOtherSizes b after ⊎ MeetsDisplaced f b) in inl (subst P (sym e) tt)

some_block : (f : Form) (b : Block) (o : Option Block) → block_moved f b ≡ o → ¬ TouchesBlock f b → (after : Block) × (block_moved f b ≡ Some after)
some_block f b None e untouched = absurd (untouched (lost_bends f b e))
some_block f b (Some after) e untouched = (after, e)

block_beside : (a c : Bool) (q r b : Block) → cond a (Some q) (cond c None (Some b)) ≡ Some r → ¬ (a ≡ true) → b ≡ r
block_beside true c q r b e beside = absurd (beside refl)
block_beside false true q r b e beside = cc
block_beside false false q r b e beside = same_Some b r e

is_beside : (source : Block) (to : Place) (b after : Block) → ¬ TouchesBlock (Cells source to) b → block_moved (Cells source to) b ≡ Some after → b ≡ after
is_beside source to b after untouched e =
    block_beside (contains source b) (contains (destination source to) b) (carried_block source to b) after b e (λ taken. untouched (inr (inr taken)))

area_beside : (source : Block) (to : Place) (old new : PlaceLines) (b : Block) → AreMoved (Cells source to) old new → area_of old b ≡ area_of new b
area_beside source to old new b moved = same_area (area_of old b) (area_of new b) (spots_stay source to old new (first_place b) moved) (spots_stay source to old new (last_place b) moved)

is_carried : (f : Form) (b after : Block) → IsSoundForm f → NoCellsMove f → IsBlockInside b → ¬ TouchesBlock f b → block_moved f b ≡ Some after → IsCarriedBlock f b after
is_carried f b after sound none inside untouched e = record {
  sound = sound;
  none = none;
  inside = inside;
  still = λ bent. untouched (inl bent);
  whole = λ cut. untouched (inr (inl cut));
  moves = e;
}

pub block_stays : (f : Form) (old new : PlaceLines) (b after : Block) → IsSoundForm f → AreMoved f old new → IsBlockInside b → ¬ TouchesBlock f b → block_moved f b ≡ Some after → area_of old b ≡ area_of new after
block_stays (Lines sheet axis edit) old new b after sound moved inside untouched e =
    carried_area (Lines sheet axis edit) old new b after (is_carried (Lines sheet axis edit) b after sound tt inside untouched e) moved
block_stays (Cells source to) old new b after sound moved inside untouched e =
    area_beside source to old new b moved ∙ ap (area_of new) (is_beside source to b after untouched e)
block_stays (Sheet sheet) old new b after sound moved inside untouched e =
    carried_area (Sheet sheet) old new b after (is_carried (Sheet sheet) b after sound tt inside untouched e) moved

pub block_is_somewhere : (f : Form) (old new : PlaceLines) (b : Block) → IsSoundForm f → AreMoved f old new → IsBlockInside b → ¬ TouchesBlock f b
    → (after : Block) × (block_moved f b ≡ Some after) × (area_of old b ≡ area_of new after)
block_is_somewhere f old new b sound moved inside untouched =
    let w = some_block f b (block_moved f b) refl untouched in (w.0, w.1, block_stays f old new b w.0 sound moved inside untouched w.1)

-- ---- what is kept of a block

number_in : (axis : Axis) (old new : PlaceLines) (p q : Place) → spot_of old p ≡ spot_of new q → number_of (table_along axis old p.sheet) (line_of axis p) ≡ number_of (table_along axis new q.sheet) (line_of axis q)
number_in Rows old new p q e = ap (λ s. s.row) e
number_in Cols old new p q e = ap (λ s. s.col) e

abbrev on_line : Axis → Block → ℕ → Place
on_line axis b line = with_line axis line (first_place b)

line_there : (axis : Axis) (b : Block) (line : ℕ) → line_of axis (on_line axis b line) ≡ line
line_there Rows b line = refl
line_there Cols b line = refl

sheet_there : (axis : Axis) (b : Block) (line : ℕ) → (on_line axis b line).sheet ≡ b.sheet
sheet_there Rows b line = refl
sheet_there Cols b line = refl

first_there : (axis : Axis) (b : Block) → on_line axis b (span_of axis b).first ≡ first_place b
first_there Rows b = refl
first_there Cols b = refl

covers_there : (axis : Axis) (b : Block) (line : ℕ) → b.top ≤ b.bottom → b.left ≤ b.right → (span_of axis b).first ≤ line → line ≤ (span_of axis b).last → Covers b (on_line axis b line)
covers_there Rows b line rows cols low high = (refl, low, high, omega arith, cols)
covers_there Cols b line rows cols low high = (refl, omega arith, rows, low, high)

within_there : (axis : Axis) (b : Block) (p : Place) → Covers b p → ((span_of axis b).first ≤ line_of axis p) × (line_of axis p ≤ (span_of axis b).last)
within_there Rows b p c = (c.1, c.2)
within_there Cols b p c = (c.3, c.4)

module _ (axis : Axis) (f : Form) (old new : PlaceLines) (b after : Block) (carried : IsCarriedBlock f b after) (moved : AreMoved f old new) where
  -- the lines of the block afterwards had their numbers in it before, and another one than the first has no first one's number
  old_line : (line : ℕ) → after.top ≤ after.bottom → after.left ≤ after.right → (span_of axis after).first < line → line ≤ (span_of axis after).last
      → (before : ℕ) × ((span_of axis b).first < before) × (before ≤ (span_of axis b).last) × (number_of (table_along axis old b.sheet) before ≡ number_of (table_along axis new after.sheet) line)
  old_line line rows cols low high =
      let q = on_line axis after line in
      let covered : Covers after q = covers_there axis after line rows cols (omega (arith, low)) high in
      let w = (carried_spots f old new b after q carried moved).0 covered in
      let p = w.0 in
      let number : number_of (table_along axis old b.sheet) (line_of axis p) ≡ number_of (table_along axis new after.sheet) line
      = ap (λ s. number_of (table_along axis old s) (line_of axis p)) w.1.0
      ∙ (number_in axis old new p q w.2
      ∙ (ap (λ s. number_of (table_along axis new s) (line_of axis q)) (sheet_there axis after line) ∙ ap (number_of (table_along axis new after.sheet)) (line_there axis after line))) in
      let within = within_there axis b p w.1 in
      let area = carried_area f old new b after carried moved in
      let firsts : number_of (table_along axis old b.sheet) (line_of axis (first_place b)) ≡ number_of (table_along axis new after.sheet) (line_of axis (first_place after))
      = number_in axis old new (first_place b) (first_place after) (ap first_spot area) in
      ⊎_elim
      (λ (later : (span_of axis b).first < line_of axis p). (line_of axis p, later, within.1, number))
      (λ (at : line_of axis p ≤ (span_of axis b).first).
      let is_first : line_of axis p ≡ line_of axis (first_place b) = omega (arith, at, within.0, first_is axis b) in
      let same : (span_of axis after).first ≡ line
      = sym (first_is axis after) ∙ one_position (table_along axis new after.sheet) (line_of axis (first_place after)) line (low_along axis new after.sheet)
      (sym firsts ∙ (ap (number_of (table_along axis old b.sheet)) (sym is_first) ∙ number)) in
      absurd (omega (arith, same, low)))
      (cases_lt (span_of axis b).first (line_of axis p))
    where
      first_is : (axis : Axis) (b : Block) → line_of axis (first_place b) ≡ (span_of axis b).first
      first_is Rows b = refl
      first_is Cols b = refl

  pub goes_over_still : (x : TouchIndex) (n : ℕ) → after.top ≤ after.bottom → after.left ≤ after.right → GoesOver axis x old b n → GoesOver axis x new after n
  goes_over_still x n rows cols goes line low high =
      let w = old_line line rows cols low high in
      let sheet : b.sheet ≡ after.sheet = ap (λ a. a.sheet) (carried_area f old new b after carried moved) in
      subst (λ m. goes_on axis x after.sheet m n ≡ true) w.3
      (subst (λ s. goes_on axis x s (number_of (table_along axis old b.sheet) w.0) n ≡ true) sheet (goes w.0 w.1 w.2))

keeps_carried : (f : Form) (x : TouchIndex) (old new : PlaceLines) (b after : Block) (n : ℕ) → IsCarriedBlock f b after → AreMoved f old new → KeepsBlock x old b n → KeepsBlock x new after n
keeps_carried f x old new b after n carried moved kept =
    let there = block_moved_inside f b after carried.sound carried.inside carried.moves in
    let area = carried_area f old new b after carried moved in (
      subst (λ s. begins_at x s n ≡ true) (ap first_spot area) kept.0,
      goes_over_still Rows f old new b after carried moved x n there.0 there.2 kept.1,
      goes_over_still Cols f old new b after carried moved x n there.0 there.2 kept.2,
    )

-- where no lines are edited, what is kept of a block is kept still
keeps_beside : (source : Block) (to : Place) (x : TouchIndex) (old new : PlaceLines) (b : Block) (n : ℕ) → AreMoved (Cells source to) old new → KeepsBlock x old b n → KeepsBlock x new b n
keeps_beside source to x old new b n moved kept = (
  subst (λ s. begins_at x s n ≡ true) (spots_stay source to old new (first_place b) moved) kept.0,
  λ line low high. subst (λ m. goes_on Rows x b.sheet m n ≡ true) (same_number (table_along Rows old b.sheet) (table_along Rows new b.sheet) line (moved Rows b.sheet)) (kept.1 line low high),
  λ line low high. subst (λ m. goes_on Cols x b.sheet m n ≡ true) (same_number (table_along Cols old b.sheet) (table_along Cols new b.sheet) line (moved Cols b.sheet)) (kept.2 line low high),
)

pub block_kept : (f : Form) (x : TouchIndex) (old new : PlaceLines) (b after : Block) (n : ℕ) → IsSoundForm f → AreMoved f old new → IsBlockInside b → ¬ TouchesBlock f b → block_moved f b ≡ Some after → KeepsBlock x old b n → KeepsBlock x new after n
block_kept (Lines sheet axis edit) x old new b after n sound moved inside untouched e kept =
    keeps_carried (Lines sheet axis edit) x old new b after n (is_carried (Lines sheet axis edit) b after sound tt inside untouched e) moved kept
block_kept (Cells source to) x old new b after n sound moved inside untouched e kept =
    subst (λ c. KeepsBlock x new c n) (is_beside source to b after untouched e) (keeps_beside source to x old new b n moved kept)
block_kept (Sheet sheet) x old new b after n sound moved inside untouched e kept =
    keeps_carried (Sheet sheet) x old new b after n (is_carried (Sheet sheet) b after sound tt inside untouched e) moved kept
