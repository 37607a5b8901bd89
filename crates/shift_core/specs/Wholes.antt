-- What a structural operation does to whole ranges. Source: this project's own.
use Rattle.std.specs.Prelude.{◌≡◌, ◌⊎◌, Bool, false, if◌then◌else◌, Option, Some, option_map}
use Rattle.cell_addr.specs.declared.whole.Whole.{Whole}
use Rattle.cell_addr.specs.Axis.{across, same_axis}
use Rattle.cell_addr.specs.Whole.{whole_block, whole_of}
use Rattle.shift_core.specs.declared.form.Form.{Form}
use Rattle.shift_core.specs.declared.form.Form.TheVariants.{Lines}
use Rattle.shift_core.specs.declared.shift.Shift.{Shift}
use Rattle.shift_core.specs.Bent.{BendsBlock, CutsBlock}
use Rattle.shift_core.specs.Form.{form_of}
use Rattle.shift_core.specs.Tables.{block_moved, block_returned}

-- the operation edits rows and the range is one of columns, or the other way round
abbrev pub runs_across : Form → Whole → Bool
runs_across (Lines sheet axis edit) w = same_axis w.axis (across axis)
runs_across f w = false

-- where an operation moves a whole range: an edit across leaves it, and else it goes where its block does; a lost
-- one has no place
abbrev pub whole_moved : Form → Whole → Option Whole
whole_moved f w = if runs_across f w then Some w else option_map (whole_of w.axis) (block_moved f (whole_block w))

-- which whole range the ends stood for before the operation; none where an end was nowhere
abbrev pub whole_returned : Form → Whole → Option Whole
whole_returned f w = if runs_across f w then Some w else option_map (whole_of w.axis) (block_returned f (whole_block w))

-- the operation edits lines across the whole range, on its sheet
abbrev pub MeetsAcross : Form → Whole → Type 0
MeetsAcross (Lines sheet axis edit) w = (w.sheet ≡ sheet) × (w.axis ≡ across axis)
MeetsAcross _ w = ⊥

-- lines across the whole range are edited, or its block is bent, or cut at the last row or column
abbrev pub BendsWhole : Form → Whole → Type 0
BendsWhole f w = MeetsAcross f w ⊎ (BendsBlock f (whole_block w) ⊎ CutsBlock f (whole_block w))

-- the same of an operation, by its form
abbrev pub whole_after : Shift → Whole → Option Whole
whole_after s w = whole_moved (form_of s) w

abbrev pub whole_before : Shift → Whole → Option Whole
whole_before s w = whole_returned (form_of s) w

abbrev pub IsAcross : Shift → Whole → Type 0
IsAcross s w = MeetsAcross (form_of s) w

abbrev pub IsWholeBent : Shift → Whole → Type 0
IsWholeBent s w = BendsWhole (form_of s) w
