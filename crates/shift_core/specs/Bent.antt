-- Which blocks a structural operation doesn't just carry along as they are. Source: this project's own.
use Rattle.std.specs.Prelude.{◌≡◌, ◌≢◌, ◌-◌, ◌⊎◌, ⊤, MatchOption}
use Rattle.cell_addr.specs.declared.place.Block.{Block}
use Rattle.cell_addr.specs.Axis.{limit_of, span_of}
use Rattle.shift_core.specs.declared.form.Form.{Form}
use Rattle.shift_core.specs.declared.form.Form.TheVariants.{Lines}
use Rattle.shift_core.specs.declared.shift.Shift.{Shift}
use Rattle.shift_core.specs.Form.{form_of}
use Rattle.shift_core.specs.Spans.{Displaces, PushesOff}
use Rattle.shift_core.specs.Tables.{block_moved}

-- the block meets a row or a column that a move of rows or columns displaces
abbrev pub MeetsDisplaced : Form → Block → Type 0
MeetsDisplaced (Lines sheet axis edit) b = (b.sheet ≡ sheet) × Displaces edit (span_of axis b)
MeetsDisplaced _ b = ⊥

-- the blocks have other heights or other widths
abbrev pub HaveOtherSizes : Block → Block → Type 0
HaveOtherSizes a b = (a.bottom - a.top ≢ b.bottom - b.top) ⊎ (a.right - a.left ≢ b.right - b.left)

-- the block is lost, or its size changes, or lines in it are displaced
abbrev pub BendsBlock : Form → Block → Type 0
BendsBlock f b = MatchOption (block_moved f b) ⊤ (λ after. HaveOtherSizes b after ⊎ MeetsDisplaced f b)

-- an insert pushes the block's end past the last row or column, where it is cut
abbrev pub CutsBlock : Form → Block → Type 0
CutsBlock (Lines sheet axis edit) b = (b.sheet ≡ sheet) × PushesOff (limit_of axis) edit (span_of axis b)
CutsBlock _ b = ⊥

-- the operation doesn't carry the block along as it is
abbrev pub IsBent : Shift → Block → Type 0
IsBent s b = BendsBlock (form_of s) b

-- the operation cuts the block at the sheet's end
abbrev pub IsCut : Shift → Block → Type 0
IsCut s b = CutsBlock (form_of s) b
