-- What a structural operation makes of a tree and of its home, and what they were before it.
-- Source: this project's own.
use Rattle.std.specs.Prelude.{◌≡◌, Option, Some, None, option_map}
use Rattle.cell_addr.specs.declared.axis.Axis.{Axis}
use Rattle.cell_addr.specs.declared.place.Place.{Place}
use Rattle.cell_addr.specs.declared.place.Block.{Block}
use Rattle.cell_addr.specs.Whole.{whole_block, whole_of}
use Rattle.cell_value.specs.declared.fault.FaultKind.TheVariants as faults
use Rattle.formula_tree.specs.Reference.{block_of}
use Rattle.formula_tree.specs.Term.{Term, fault, cell, mapped, shaped}
use Rattle.formula_tree.specs.declared.reference.Corner.{Corner}
use Rattle.formula_tree.specs.declared.reference.Home.{Home}
use Rattle.formula_tree.specs.declared.reference.Home.TheVariants as homes
use Rattle.shift_core.specs.Carried.{first_place, last_place}
use Rattle.shift_core.specs.Tables.{place_after, block_after, place_before, block_before}
use Rattle.shift_core.specs.Wholes.{whole_after, whole_before}
use Rattle.shift_core.specs.declared.shift.Shift.{Shift}

-- the reference at another place, with the same `$`; the fault #REF! where it has none
abbrev pub cell_at : Corner → Option Place → Term Corner
cell_at c (Some p) = cell (record c { at = p })
cell_at c None = fault faults.Ref

-- the corners at the ends of another block, each with its `$`, of a block or of a whole range; the fault #REF! where
-- there is none
abbrev pub area_at : Option Axis → Corner → Corner → Option Block → Term Corner
area_at lines c d (Some b) = shaped lines (record c { at = first_place b }) (record d { at = last_place b })
area_at lines c d None = fault faults.Ref

-- the tree with each reference where a rule for places puts it, and each block or whole range where a rule for these
-- does
abbrev pub placed_by : (Place → Option Place) → (Option Axis → Block → Option Block) → Term Corner → Term Corner
placed_by place area = mapped (λ c. cell_at c (place c.at)) (λ lines c d. area_at lines c d (area lines (block_of c d)))

-- where the operation moves a block, and of which block it moved the ends there; the block of a whole range goes as
-- the whole range does
abbrev pub area_after : Shift → Option Axis → Block → Option Block
area_after s None b = block_after s b
area_after s (Some axis) b = option_map whole_block (whole_after s (whole_of axis b))

abbrev pub area_before : Shift → Option Axis → Block → Option Block
area_before s None b = block_before s b
area_before s (Some axis) b = option_map whole_block (whole_before s (whole_of axis b))

-- the tree after the operation
abbrev pub rewritten : Shift → Term Corner → Term Corner
rewritten s = placed_by (place_after s) (area_after s)

-- the tree before the operation, as far as the tree after it tells
abbrev pub returned : Shift → Term Corner → Term Corner
returned s = placed_by (place_before s) (area_before s)

-- the home of a formula goes as its cell does; that of a name stays
abbrev pub home_by : (Place → Option Place) → Home → Option Home
home_by place (homes.Cell at) = option_map (λ p. homes.Cell p) (place at)
home_by place (homes.Name sheet) = Some (homes.Name sheet)

-- the home after the operation; a lost cell's formula has none
abbrev pub home_after : Shift → Home → Option Home
home_after s = home_by (place_after s)

-- the home before the operation; a cell that came from nowhere had none
abbrev pub home_before : Shift → Home → Option Home
home_before s = home_by (place_before s)

-- the tree comes back from what the operation makes of it
abbrev pub ComesBack : Shift → Term Corner → Type 0
ComesBack s t = returned s (rewritten s t) ≡ t

-- it doesn't: a reference is lost, or a block or whole range comes back with other ends
abbrev pub Loses : Shift → Term Corner → Type 0
Loses s t = ¬ ComesBack s t
