-- What a structural operation does to kept summaries. Source: this project's own.
use Rattle.std.specs.Prelude.{◌≡◌, ◌↔◌, ◌⊎◌, Some}
use Rattle.std.specs.FinMap as map
use Rattle.cell_addr.specs.Place.{CoverOne, CoversAllOf, IsInside}
use Rattle.cell_addr.specs.declared.place.Block.{Block}
use Rattle.cell_addr.specs.declared.place.Place.{Place}
use Rattle.cell_value.specs.declared.scalar.Scalar.{Scalar}
use Rattle.cell_value.specs.declared.summary.Summary.{Summary}
use Rattle.shift_core.specs.Bent.{IsBent, IsCut}
use Rattle.shift_core.specs.Carried.{destination}
use Rattle.shift_core.specs.Form.{form_of}
use Rattle.shift_core.specs.Tables.{block_after, place_after}
use Rattle.shift_core.specs.declared.form.Form.{Form}
use Rattle.shift_core.specs.declared.form.Form.TheVariants.{Cells}
use Rattle.shift_core.specs.declared.shift.Shift.{Shift}
use Rattle.range_table.specs.Blocks.{BlockMap}

-- cells are moved out of the block or over it, and not the whole block is moved
abbrev pub TearsBlock : Form → Block → Type 0
TearsBlock (Cells source to) b = ¬ CoversAllOf source b × (CoverOne b source ⊎ CoverOne b (destination source to))
TearsBlock _ b = ⊥

-- the operation gives up what is kept for the block: it bends the block, cuts it at the sheet's end, or tears it
abbrev pub GivesUpBlock : Shift → Block → Type 0
GivesUpBlock s b = IsBent s b ⊎ (IsCut s b ⊎ TearsBlock (form_of s) b)

-- what is kept for the block is kept on, for the block that it moves to
abbrev pub KeepsBlock : Shift → Block → Block → Type 0
KeepsBlock s b after = ¬ GivesUpBlock s b × (block_after s b ≡ Some after)

-- after the operation a block has the summary of the kept block that moved there, and no other block has one
abbrev pub AreMoved : Shift → BlockMap Summary → BlockMap Summary → Type 0
AreMoved s old new = (after : Block) (x : Summary) → (map.get new after ≡ Some x) ↔ ((b : Block) × (KeepsBlock s b after × (map.get old b ≡ Some x)))

-- each place of the sheet that isn't lost has taken its value along
abbrev pub TakesValues : Shift → (Place → Scalar) → (Place → Scalar) → Type 0
TakesValues s before after = (p q : Place) → IsInside p → place_after s p ≡ Some q → after q ≡ before p
