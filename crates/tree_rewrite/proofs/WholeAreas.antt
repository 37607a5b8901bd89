-- Where an operation takes blocks and whole ranges, by one rule. Serves the passage of trees, and the laws.
use Rattle.std.proofs.Common.{◌≡◌, sym, ap, refl, subst, Bool, true, false, cond, Option, Some, None, option_map}
use Rattle.std.proofs.lemmas.Option.{same_Some}
use Rattle.cell_addr.specs.declared.axis.Axis.{Axis}
use Rattle.cell_addr.specs.declared.place.Block.{Block}
use Rattle.cell_addr.specs.declared.whole.Whole.{Whole}
use Rattle.cell_addr.specs.Place.{IsBlockInside}
use Rattle.cell_addr.specs.Whole.{IsWholeInside, whole_block, whole_of}
use Rattle.cell_addr.proofs.Wholes.{whole_block-inside}
use Rattle.shift_core.specs.Form.{form_of}
use Rattle.shift_core.specs.Sound.{IsSound}
use Rattle.shift_core.specs.Tables.{block_moved, block_returned}
use Rattle.shift_core.specs.Wholes.{runs_across, whole_after, whole_before}
use Rattle.shift_core.specs.declared.shift.Shift.{Shift}
use Rattle.shift_core.proofs.Axes.{ends_inside}
use Rattle.shift_core.proofs.BlockLaws.{block_moved_inside, block_returned_inside}
use Rattle.shift_core.proofs.WholeMoves.{full-whole, whole_moved_inside, whole_returned_inside}
use Rattle.tree_rewrite.specs.Rewritten.{area_after, area_before}
use Rattle.tree_rewrite.specs.declared.direction.Direction.{Direction}
use Rattle.tree_rewrite.specs.declared.direction.Direction.TheVariants.{Forward, Backward}
use Rattle.tree_rewrite.specs.internal.Passage.{IsFull, area_in}

-- a whole range stays one of rows, or of columns
axis-of : (axis : Axis) (r : Option Block) (v : Whole) → option_map (whole_of axis) r ≡ Some v → v.axis ≡ axis
axis-of axis None v h = absurd (cc)
axis-of axis (Some b) v h = ap (λ x. x.axis) (sym (same_Some _ _ h))

axis-by : (a : Bool) (w v : Whole) (r : Option Block) → cond a (Some w) (option_map (whole_of w.axis) r) ≡ Some v → v.axis ≡ w.axis
axis-by true w v r h = ap (λ x. x.axis) (sym (same_Some _ _ h))
axis-by false w v r h = axis-of w.axis r v h

pub axis-after : (s : Shift) (w v : Whole) → whole_after s w ≡ Some v → v.axis ≡ w.axis
axis-after s w v h = axis-by (runs_across (form_of s) w) w v (block_moved (form_of s) (whole_block w)) h

axis-before : (s : Shift) (w v : Whole) → whole_before s w ≡ Some v → v.axis ≡ w.axis
axis-before s w v h = axis-by (runs_across (form_of s) w) w v (block_returned (form_of s) (whole_block w)) h

-- the block that it becomes reaches from one end of the sheet to the other
full-block : (axis : Axis) (v : Whole) → v.axis ≡ axis → IsFull (Some axis) (whole_block v)
full-block axis v e = subst (λ a. whole_block (whole_of a (whole_block v)) ≡ whole_block v) e (full-whole v)

full-each : (axis : Axis) (r : Option Whole) (c : Block) → ((v : Whole) → r ≡ Some v → v.axis ≡ axis) → option_map whole_block r ≡ Some c → IsFull (Some axis) c
full-each axis None c h e = absurd (cc)
full-each axis (Some v) c h e = subst (IsFull (Some axis)) (same_Some _ _ e) (full-block axis v (h v refl))

pub area_after-full : (s : Shift) (lines : Option Axis) (b c : Block) → area_after s lines b ≡ Some c → IsFull lines c
area_after-full s None b c h = tt
area_after-full s (Some axis) b c h = full-each axis (whole_after s (whole_of axis b)) c (λ v e. axis-after s (whole_of axis b) v e) h

pub area_before-full : (s : Shift) (lines : Option Axis) (b c : Block) → area_before s lines b ≡ Some c → IsFull lines c
area_before-full s None b c h = tt
area_before-full s (Some axis) b c h = full-each axis (whole_before s (whole_of axis b)) c (λ v e. axis-before s (whole_of axis b) v e) h

pub area_in-full : (d : Direction) (s : Shift) (lines : Option Axis) (b c : Block) → area_in d s lines b ≡ Some c → IsFull lines c
area_in-full Forward s = area_after-full s
area_in-full Backward s = area_before-full s

-- and stays within the limits of a sheet
inside-each : (r : Option Whole) (c : Block) → ((v : Whole) → r ≡ Some v → IsWholeInside v) → option_map whole_block r ≡ Some c → IsBlockInside c
inside-each None c h e = absurd (cc)
inside-each (Some v) c h e = subst IsBlockInside (same_Some _ _ e) (whole_block-inside v (h v refl))

pub area_after-inside : (s : Shift) (lines : Option Axis) (b c : Block) → IsSound s → IsBlockInside b → area_after s lines b ≡ Some c → IsBlockInside c
area_after-inside s None b c sound i h = block_moved_inside (form_of s) b c sound i h
area_after-inside s (Some axis) b c sound i h =
    inside-each (whole_after s (whole_of axis b)) c (λ v e. whole_moved_inside (form_of s) (whole_of axis b) v sound (ends_inside axis b i) e) h

pub area_before-inside : (s : Shift) (lines : Option Axis) (b c : Block) → IsSound s → IsBlockInside b → area_before s lines b ≡ Some c → IsBlockInside c
area_before-inside s None b c sound i h = block_returned_inside (form_of s) b c sound i h
area_before-inside s (Some axis) b c sound i h =
    inside-each (whole_before s (whole_of axis b)) c (λ v e. whole_returned_inside (form_of s) (whole_of axis b) v sound (ends_inside axis b i) e) h

pub area_in-inside : (d : Direction) (s : Shift) (lines : Option Axis) (b c : Block) → IsSound s → IsBlockInside b → area_in d s lines b ≡ Some c → IsBlockInside c
area_in-inside Forward s = area_after-inside s
area_in-inside Backward s = area_before-inside s
