-- Which operation bends what another one has bent, as it stands after that: its probe. Source: this project's own.
use Rattle.std.specs.Prelude.{◌≡◌, ◌⊎◌, ◌≤◌, ◌+◌, ◌-◌, ℕ, max, min, nat_lt, if◌then◌else◌, Option, Some, None, option_map}
use Rattle.cell_addr.specs.Axis.{limit_of, span_of}
use Rattle.cell_addr.specs.Place.{IsBlockInside}
use Rattle.cell_addr.specs.Whole.{IsWholeInside, whole_block}
use Rattle.cell_addr.specs.declared.place.Block.{Block}
use Rattle.cell_addr.specs.declared.whole.Whole.{Whole}
use Rattle.shift_core.specs.declared.edit.Edit.{Edit}
use Rattle.shift_core.specs.declared.edit.Edit.TheVariants.{Insert, Delete, Move}
use Rattle.shift_core.specs.declared.form.Form.{Form}
use Rattle.shift_core.specs.declared.form.Form.TheVariants.{Lines}
use Rattle.shift_core.specs.declared.shift.Shift.{Shift}
use Rattle.shift_core.specs.Bent.{IsBent, IsCut}
use Rattle.shift_core.specs.Form.{IsWithin, form_of}
use Rattle.shift_core.specs.Opposite.{shift_of}
use Rattle.shift_core.specs.Sound.{IsSound}
use Rattle.shift_core.specs.Tables.{block_after}
use Rattle.shift_core.specs.Wholes.{IsAcross, IsWholeBent, whole_after}

-- for an insert, one more line there; for a deletion, the two lines where it was change places; for a move, the line that stood next to
-- the moved ones, on the side away from where they went, or else the outermost of these, goes there
abbrev pub edit_probe : ℕ → Edit → Edit
edit_probe limit (Insert start count) = Insert start 1
edit_probe limit (Delete start count) = Move (max start 1) 1 (max start 1 - 1)
edit_probe limit (Move start count before) =
    if nat_lt (start + count) before then Move (start - 1) 1 before
    else Move (min (start + count) (limit - 1)) 1 before

-- moved cells and a dropped sheet have none: they bend only what they lose
abbrev pub form_probe : Form → Option Form
form_probe (Lines sheet axis edit) = Some (Lines sheet axis (edit_probe (limit_of axis) edit))
form_probe form = None

-- the probe of an operation
abbrev pub probe_of : Shift → Option Shift
probe_of s = option_map shift_of (form_probe (form_of s))

-- the probe of a sound operation is sound
abbrev pub ProbesAreSound : Type 0
ProbesAreSound = (s probe : Shift) → IsSound s → probe_of s ≡ Some probe → IsSound probe

-- a block that an operation bends or cuts, and doesn't lose, its probe then bends or cuts
abbrev pub BentAreProbed : Type 0
BentAreProbed =
    (s : Shift) (b after : Block) → IsSound s → IsBlockInside b → IsBent s b ⊎ IsCut s b → block_after s b ≡ Some after →
    (probe : Shift) × (probe_of s ≡ Some probe) × (IsBent probe after ⊎ IsCut probe after)

-- so is it with a whole range
abbrev pub BentWholesAreProbed : Type 0
BentWholesAreProbed =
    (s : Shift) (w after : Whole) → IsSound s → IsWholeInside w → IsWholeBent s w → whole_after s w ≡ Some after →
    (probe : Shift) × (probe_of s ≡ Some probe) × IsWholeBent probe after

-- the line stands where an insert put lines, or at the sheet's end, where that cuts; next to where a deletion was; or among or next to
-- those that a move displaced
abbrev pub IsNear : ℕ → Edit → ℕ → Type 0
IsNear limit (Insert start count) line = (line ≡ start) ⊎ (line ≡ limit - 1)
IsNear limit (Delete start count) line = (start ≤ line + 1) × (line ≤ max start 1)
IsNear limit (Move start count before) line = (min start before ≤ line + 1) × (line ≤ max (start + count) before)

-- the block has such a line
abbrev pub HasNear : Form → Block → Type 0
HasNear (Lines sheet axis edit) b = (b.sheet ≡ sheet) × (line : ℕ) × IsWithin (span_of axis b) line × IsNear (limit_of axis) edit line
HasNear form b = ⊥

-- a probe bends and cuts no others
abbrev pub ProbesBendFew : Type 0
ProbesBendFew =
    (s probe : Shift) (b : Block) → IsSound s → probe_of s ≡ Some probe → IsBlockInside b → IsBent probe b ⊎ IsCut probe b → HasNear (form_of s) b

-- of whole ranges it bends none but those that have such a line, and those across which the operation edits lines
abbrev pub ProbesBendFewWholes : Type 0
ProbesBendFewWholes =
    (s probe : Shift) (w : Whole) → IsSound s → probe_of s ≡ Some probe → IsWholeInside w → IsWholeBent probe w → IsAcross s w ⊎ HasNear (form_of s) (whole_block w)
