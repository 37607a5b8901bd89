-- Whole ranges go where their blocks do, unless lines across them are edited. Serves the laws on whole ranges.
use Rattle.std.proofs.Common.{◌≡◌, ◌≢◌, ◌∙◌, ap, refl, sym, subst, ℕ, ◌-◌, ◌⊎◌, inl, inr, Bool, true, false, cond, Option, Some, None, option_map, MatchOption, arith}
use Rattle.std.specs.Bool.{⊤}
use Rattle.std.proofs.lemmas.Bool.{and_parts}
use Rattle.std.proofs.lemmas.Option.{same_Some}
use Rattle.cell_addr.specs.declared.axis.Axis.{Axis}
use Rattle.cell_addr.specs.declared.axis.Axis.TheVariants.{Rows, Cols}
use Rattle.cell_addr.specs.declared.axis.Span.{Span}
use Rattle.cell_addr.specs.declared.place.Place.{Place}
use Rattle.cell_addr.specs.declared.place.Block.{Block}
use Rattle.cell_addr.specs.declared.place.TheConstants.{ROWS, COLS}
use Rattle.cell_addr.specs.declared.whole.Whole.{Whole}
use Rattle.cell_addr.specs.Axis.{across, limit_of, same_axis, with_span}
use Rattle.cell_addr.specs.Place.{IsBlockInside, Covers, covers}
use Rattle.cell_addr.specs.Whole.{IsWholeInside, lines_of, sheet_block, whole_block, whole_of}
use Rattle.cell_addr.proofs.SamePlaces.{same_axis-equal, same_axis-self}
use Rattle.cell_addr.proofs.Wholes.{along, whole_block-inside, whole_of-whole_block}
use Rattle.shift_core.specs.declared.edit.Edit.{Edit}
use Rattle.shift_core.specs.declared.form.Form.{Form}
use Rattle.shift_core.specs.declared.form.Form.TheVariants.{Lines, Cells, Sheet}
use Rattle.shift_core.specs.Bent.{BendsBlock, HaveOtherSizes, MeetsDisplaced}
use Rattle.shift_core.specs.Carried.{contains, carried_block, carried_place, destination, first_place, last_place}
use Rattle.shift_core.specs.Laws.{NoCellsMove}
use Rattle.shift_core.specs.Opposite.{form_back}
use Rattle.shift_core.specs.Sound.{IsSoundForm}
use Rattle.shift_core.specs.Spans.{span_after, span_before}
use Rattle.shift_core.specs.Tables.{by_span, block_moved, block_returned, place_moved}
use Rattle.shift_core.specs.Wholes.{runs_across, whole_moved, whole_returned, MeetsAcross, BendsWhole}
use Rattle.shift_core.proofs.Axes.{by_span_off, cases_by_span, ends_inside, sheet-with_span}
use Rattle.shift_core.proofs.BlockLaws.{block_moved_inside, block_returned_inside, cases_else, kept_block}
use Rattle.shift_core.proofs.CellMoves.{cases_chosen, Covers-from_covers}
use Rattle.shift_core.proofs.Opposites.{block_goes_back, comes_home}
use Rattle.shift_core.proofs.UnbentBlocks.{same_block, unbent_keeps, unbent_returns}

-- the block is that of a whole range along the axis
abbrev pub IsFull : Axis → Block → Type 0
IsFull axis b = whole_block (whole_of axis b) ≡ b

full-along : (axis : Axis) (sheet first last : ℕ) → IsFull axis (whole_block (along axis sheet first last))
full-along Rows sheet first last = refl
full-along Cols sheet first last = refl

pub full-whole : (w : Whole) → IsFull w.axis (whole_block w)
full-whole w = full-along w.axis w.sheet w.first w.last

full-with_span : (axis : Axis) (t : Span) (b : Block) → IsFull axis b → IsFull axis (with_span axis t b)
full-with_span Rows t b e = ap (with_span Rows t) e
full-with_span Cols t b e = ap (with_span Cols t) e

-- a rule for lines along the axis leaves it full
full-by_span : (axis : Axis) (sheet : ℕ) (F : Span → Option Span) (b c : Block) → IsFull axis b → by_span sheet axis F b ≡ Some c → IsFull axis c
full-by_span axis sheet F b c e h =
    elim (cases_by_span sheet axis F b c h) [
      | inl (t, w) ↦ rw w.2 (full-with_span axis t b e)
      | inr w ↦ rw w.1 e
    ]

full-lines : (axis other : Axis) (sheet : ℕ) (F : Span → Option Span) (b c : Block) → same_axis axis (across other) ≡ false → IsFull axis b → by_span sheet other F b ≡ Some c → IsFull axis c
full-lines Rows Rows sheet F b c n e h = full-by_span Rows sheet F b c e h
full-lines Cols Cols sheet F b c n e h = full-by_span Cols sheet F b c e h
full-lines Rows Cols sheet F b c n e h = absurd (cc)
full-lines Cols Rows sheet F b c n e h = absurd (cc)

-- and so does a move of cells, whose source reaches from one end of the sheet to the other where the block does
full-carried : (axis : Axis) (source : Block) (to : Place) (b : Block) → IsBlockInside (destination source to) → IsFull axis b → contains source b ≡ true → IsFull axis (carried_block source to b)
full-carried Rows source to b d e h =
    let w = and_parts (covers source (first_place b)) (covers source (last_place b)) h in
    let first = Covers-from_covers source (first_place b) w.0 in
    let last = Covers-from_covers source (last_place b) w.1 in
    let left : 0 ≡ b.left = ap (λ x. x.left) e in
    let right : COLS - 1 ≡ b.right = ap (λ x. x.right) e in
    same_block _ _ refl refl (omega arith) refl (omega arith)
full-carried Cols source to b d e h =
    let w = and_parts (covers source (first_place b)) (covers source (last_place b)) h in
    let first = Covers-from_covers source (first_place b) w.0 in
    let last = Covers-from_covers source (last_place b) w.1 in
    let top : 0 ≡ b.top = ap (λ x. x.top) e in
    let bottom : ROWS - 1 ≡ b.bottom = ap (λ x. x.bottom) e in
    same_block _ _ refl (omega arith) refl (omega arith) refl

full-moved : (f : Form) (w : Whole) (c : Block) → IsSoundForm f → runs_across f w ≡ false → block_moved f (whole_block w) ≡ Some c → IsFull w.axis c
full-moved (Lines sheet axis edit) w c sound n h = full-lines w.axis axis sheet (span_after (limit_of axis) edit) (whole_block w) c n (full-whole w) h
full-moved (Cells source to) w c sound n h =
    let b = whole_block w in
    elim (cases_chosen (contains source b) (contains (destination source to) b) (carried_block source to b) b c h) [
      | inl v ↦ rw v.1 (full-carried w.axis source to b sound.1 (full-whole w) v.0)
      | inr v ↦ rw v.2 (full-whole w)
    ]
full-moved (Sheet sheet) w c sound n h = let kept = kept_block sheet (whole_block w) c h in rw kept.1 (full-whole w)

full-returned : (f : Form) (w : Whole) (c : Block) → IsSoundForm f → runs_across f w ≡ false → block_returned f (whole_block w) ≡ Some c → IsFull w.axis c
full-returned (Lines sheet axis edit) w c sound n h = full-lines w.axis axis sheet (span_before (limit_of axis) edit) (whole_block w) c n (full-whole w) h
full-returned (Cells source to) w c sound n h =
    let b = whole_block w in
    let home = subst IsBlockInside (sym (comes_home source to sound.0)) sound.0 in
    elim (cases_else (contains (destination source to) b) (carried_block (destination source to) (first_place source) b) b c h) [
      | inl v ↦ rw v.1 (full-carried w.axis (destination source to) (first_place source) b home (full-whole w) v.0)
      | inr v ↦ rw v.1 (full-whole w)
    ]
full-returned (Sheet sheet) w c sound n h = let kept = kept_block sheet (whole_block w) c h in rw kept.1 (full-whole w)

-- an edit across on another sheet leaves the block too
off_sheet : (sheet : ℕ) (axis : Axis) (edit : Edit) (w : Whole) → same_axis w.axis (across axis) ≡ true → ¬ MeetsAcross (Lines sheet axis edit) w → (whole_block w).sheet ≢ sheet
off_sheet sheet axis edit w a apart e =
    apart (sym (sheet-with_span w.axis (lines_of w) (sheet_block w.sheet)) ∙ e, same_axis-equal w.axis (across axis) a)

left-moved : (f : Form) (w : Whole) → runs_across f w ≡ true → ¬ MeetsAcross f w → block_moved f (whole_block w) ≡ Some (whole_block w)
left-moved (Lines sheet axis edit) w a apart = by_span_off sheet axis (span_after (limit_of axis) edit) (whole_block w) (off_sheet sheet axis edit w a apart)
left-moved (Cells source to) w a apart = absurd (cc)
left-moved (Sheet sheet) w a apart = absurd (cc)

left-returned : (f : Form) (w : Whole) → runs_across f w ≡ true → ¬ MeetsAcross f w → block_returned f (whole_block w) ≡ Some (whole_block w)
left-returned (Lines sheet axis edit) w a apart = by_span_off sheet axis (span_before (limit_of axis) edit) (whole_block w) (off_sheet sheet axis edit w a apart)
left-returned (Cells source to) w a apart = absurd (cc)
left-returned (Sheet sheet) w a apart = absurd (cc)

-- what comes of the block is the block of what comes of the range
as_block : (axis : Axis) (r : Option Block) → ((c : Block) → r ≡ Some c → IsFull axis c) → r ≡ option_map whole_block (option_map (whole_of axis) r)
as_block axis None full = refl
as_block axis (Some c) full = ap (λ x. Some x) (sym (full c refl))

moved-by : (f : Form) (w : Whole) (a : Bool) → IsSoundForm f → ¬ MeetsAcross f w → runs_across f w ≡ a
    → block_moved f (whole_block w) ≡ option_map whole_block (cond a (Some w) (option_map (whole_of w.axis) (block_moved f (whole_block w))))
moved-by f w true sound apart e = left-moved f w e apart
moved-by f w false sound apart e = as_block w.axis (block_moved f (whole_block w)) (λ c h. full-moved f w c sound e h)

returned-by : (f : Form) (w : Whole) (a : Bool) → IsSoundForm f → ¬ MeetsAcross f w → runs_across f w ≡ a
    → block_returned f (whole_block w) ≡ option_map whole_block (cond a (Some w) (option_map (whole_of w.axis) (block_returned f (whole_block w))))
returned-by f w true sound apart e = left-returned f w e apart
returned-by f w false sound apart e = as_block w.axis (block_returned f (whole_block w)) (λ c h. full-returned f w c sound e h)

pub whole_moves_as_block : (f : Form) (w : Whole) → IsSoundForm f → ¬ MeetsAcross f w → block_moved f (whole_block w) ≡ option_map whole_block (whole_moved f w)
whole_moves_as_block f w sound apart = moved-by f w (runs_across f w) sound apart refl

pub whole_returns_as_block : (f : Form) (w : Whole) → IsSoundForm f → ¬ MeetsAcross f w → block_returned f (whole_block w) ≡ option_map whole_block (whole_returned f w)
whole_returns_as_block f w sound apart = returned-by f w (runs_across f w) sound apart refl

-- a whole range stays inside
inside-of : (axis : Axis) (r : Option Block) (v : Whole) → ((c : Block) → r ≡ Some c → IsBlockInside c) → option_map (whole_of axis) r ≡ Some v → IsWholeInside v
inside-of axis None v h e = cc
inside-of axis (Some c) v h e = let same : whole_of axis c ≡ v = same_Some _ _ e in subst IsWholeInside same (ends_inside axis c (h c refl))

inside-by : (a : Bool) (w v : Whole) (r : Option Whole) → IsWholeInside w → (r ≡ Some v → IsWholeInside v) → cond a (Some w) r ≡ Some v → IsWholeInside v
inside-by true w v r i h e = let same : w ≡ v = same_Some _ _ e in subst IsWholeInside same i
inside-by false w v r i h e = h e

pub whole_moved_inside : (f : Form) (w v : Whole) → IsSoundForm f → IsWholeInside w → whole_moved f w ≡ Some v → IsWholeInside v
whole_moved_inside f w v sound i h =
    inside-by (runs_across f w) w v (option_map (whole_of w.axis) (block_moved f (whole_block w))) i
    (inside-of w.axis (block_moved f (whole_block w)) v (λ c m. block_moved_inside f (whole_block w) c sound (whole_block-inside w i) m)) h

pub whole_returned_inside : (f : Form) (w v : Whole) → IsSoundForm f → IsWholeInside w → whole_returned f w ≡ Some v → IsWholeInside v
whole_returned_inside f w v sound i h =
    inside-by (runs_across f w) w v (option_map (whole_of w.axis) (block_returned f (whole_block w))) i
    (inside-of w.axis (block_returned f (whole_block w)) v (λ c m. block_returned_inside f (whole_block w) c sound (whole_block-inside w i) m)) h

-- a lost one is bent
lost-by : (f : Form) (w : Whole) (r : Option Block) → block_moved f (whole_block w) ≡ r → option_map (whole_of w.axis) r ≡ None → BendsBlock f (whole_block w)
lost-by f w None m e =
    let b = whole_block w in
    let P : Option Block → Type 0 = λ o. MatchOption o ⊤ (λ x. HaveOtherSizes b x ⊎ MeetsDisplaced f b) in
    let lost : P None = tt in
    subst P (sym m) lost
lost-by f w (Some c) m e = cc

lost-across : (a : Bool) (w : Whole) (r : Option Whole) → cond a (Some w) r ≡ None → r ≡ None
lost-across true w r e = cc
lost-across false w r e = e

pub lost_whole_bent : (f : Form) (w : Whole) → whole_moved f w ≡ None → BendsWhole f w
lost_whole_bent f w e =
    inr (inl (lost-by f w (block_moved f (whole_block w)) refl (lost-across (runs_across f w) w (option_map (whole_of w.axis) (block_moved f (whole_block w))) e)))

-- what isn't bent goes with its block, which is neither bent nor cut
carried-block : (f : Form) (w v : Whole) → IsSoundForm f → ¬ BendsWhole f w → whole_moved f w ≡ Some v → block_moved f (whole_block w) ≡ Some (whole_block v)
carried-block f w v sound still h = whole_moves_as_block f w sound (λ a. still (inl a)) ∙ ap (option_map whole_block) h

pub unbent_whole_keeps : (f : Form) (w v : Whole) (p : Place) → IsSoundForm f → NoCellsMove f → IsWholeInside w → ¬ BendsWhole f w → whole_moved f w ≡ Some v → Covers (whole_block w) p
    → place_moved f p ≡ Some (carried_place (whole_block w) (first_place (whole_block v)) p)
unbent_whole_keeps f w v p sound none i still h c =
    unbent_keeps f (whole_block w) (whole_block v) p sound none (whole_block-inside w i) (λ b. still (inr (inl b))) (λ b. still (inr (inr b))) (carried-block f w v sound still h) c

-- a moved whole range is of the same axis, and one that an edit across leaves is where it was
axis-of : (axis : Axis) (r : Option Block) (v : Whole) → option_map (whole_of axis) r ≡ Some v → v.axis ≡ axis
axis-of axis None v e = cc
axis-of axis (Some c) v e = let same : whole_of axis c ≡ v = same_Some _ _ e in ap (λ x. x.axis) (sym same)

axis-by : (a : Bool) (w v : Whole) (r : Option Block) → cond a (Some w) (option_map (whole_of w.axis) r) ≡ Some v → v.axis ≡ w.axis
axis-by true w v r e = let same : w ≡ v = same_Some _ _ e in ap (λ x. x.axis) (sym same)
axis-by false w v r e = axis-of w.axis r v e

same-across : (f : Form) (w v : Whole) → v.axis ≡ w.axis → runs_across f v ≡ runs_across f w
same-across (Lines sheet axis edit) w v e = ap (λ a. same_axis a (across axis)) e
same-across (Cells source to) w v e = refl
same-across (Sheet sheet) w v e = refl

moved-across : (f : Form) (w v : Whole) → whole_moved f w ≡ Some v → runs_across f v ≡ runs_across f w
moved-across f w v h = same-across f w v (axis-by (runs_across f w) w v (block_moved f (whole_block w)) h)

left : (w v : Whole) (a : Bool) (r : Option Whole) → a ≡ true → cond a (Some w) r ≡ Some v → w ≡ v
left w v true r e h = same_Some _ _ h
left w v false r e h = cc

-- back again: the range of the block that comes back
home-by : (w v : Whole) (a : Bool) (r : Option Block) → v.axis ≡ w.axis → (a ≡ true → w ≡ v) → r ≡ Some (whole_block w) → cond a (Some v) (option_map (whole_of v.axis) r) ≡ Some w
home-by w v true r e same h = ap (λ x. Some x) (sym (same refl))
home-by w v false r e same h = ap (option_map (whole_of v.axis)) h ∙ ap (λ a. Some (whole_of a (whole_block w))) e ∙ ap (λ x. Some x) (whole_of-whole_block w)

pub unbent_whole_returns : (f : Form) (w v : Whole) → IsSoundForm f → IsWholeInside w → ¬ BendsWhole f w → whole_moved f w ≡ Some v → whole_returned f v ≡ Some w
unbent_whole_returns f w v sound i still h =
    home-by w v (runs_across f v) (block_returned f (whole_block v)) (axis-by (runs_across f w) w v (block_moved f (whole_block w)) h)
    (λ a. left w v (runs_across f w) (option_map (whole_of w.axis) (block_moved f (whole_block w))) (sym (moved-across f w v h) ∙ a) h)
    (unbent_returns f (whole_block w) (whole_block v) sound (whole_block-inside w i) (λ b. still (inr (inl b))) (λ b. still (inr (inr b))) (carried-block f w v sound still h))

-- the opposite edits lines across where the operation does
back-across : (f g : Form) (v : Whole) → form_back f ≡ Some g → runs_across g v ≡ runs_across f v
back-across (Lines sheet axis edit) g v e = ap (λ x. runs_across x v) (sym (same_Some _ _ e))
back-across (Cells source to) g v e = ap (λ x. runs_across x v) (sym (same_Some _ _ e))
back-across (Sheet sheet) g v e = cc

back-meets : (f g : Form) (v : Whole) → form_back f ≡ Some g → MeetsAcross g v → MeetsAcross f v
back-meets (Lines sheet axis edit) g v e m = subst (λ x. MeetsAcross x v) (sym (same_Some _ _ e)) m
back-meets (Cells source to) g v e m = subst (λ x. MeetsAcross x v) (sym (same_Some _ _ e)) m
back-meets (Sheet sheet) g v e m = cc

meets-runs : (f : Form) (v : Whole) → MeetsAcross f v → runs_across f v ≡ true
meets-runs (Lines sheet axis edit) v m = ap (λ a. same_axis a (across axis)) m.1 ∙ same_axis-self (across axis)
meets-runs (Cells source to) v m = absurd m
meets-runs (Sheet sheet) v m = absurd m

pub whole_goes_back : (f g : Form) (w v : Whole) → IsSoundForm f → form_back f ≡ Some g → IsWholeInside w → ¬ BendsWhole f w → whole_moved f w ≡ Some v
    → (whole_moved g v ≡ Some w) × (¬ BendsWhole g v)
whole_goes_back f g w v sound e i still h =
    let back = block_goes_back f g (whole_block w) (whole_block v) sound e (whole_block-inside w i) (λ b. still (inr (inl b))) (λ b. still (inr (inr b))) (carried-block f w v sound still h) in
    let stays : runs_across f v ≡ true → w ≡ v = λ a. left w v (runs_across f w) (option_map (whole_of w.axis) (block_moved f (whole_block w))) (sym (moved-across f w v h) ∙ a) h in (
      home-by w v (runs_across g v) (block_moved g (whole_block v)) (axis-by (runs_across f w) w v (block_moved f (whole_block w)) h) (λ a. stays (sym (back-across f g v e) ∙ a)) back.0,
      λ bent. elim bent [
        | inl m ↦
            let meets = back-meets f g v e m in
            let same = stays (meets-runs f v meets) in
            still (inl (subst (MeetsAcross f) (sym same) meets))
        | inr (inl b) ↦ back.1 b
        | inr (inr b) ↦ back.2 b
      ],
    )
