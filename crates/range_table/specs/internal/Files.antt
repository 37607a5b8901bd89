-- Blocks that are filed under numbers, and which operations and cells find.
use Rattle.std.specs.Prelude.{◌≡◌, ◌⊎◌, ℕ, true, List, Some}
use Rattle.cell_addr.specs.Place.{CoverOne, IsBlockInside}
use Rattle.cell_addr.specs.declared.place.Block.{Block}
use Rattle.needs_order.specs.Needs.{has}
use Rattle.place_lines.specs.declared.lines.PlaceLines.{PlaceLines}
use Rattle.shift_core.specs.Form.{form_of}
use Rattle.shift_core.specs.declared.shift.Shift.{Shift}
use Rattle.touch_index.specs.Kept.{Grows, KeepsBlock}
use Rattle.touch_index.specs.Touched.{TouchesBlock}
use Rattle.range_table.specs.Shifted.{TearsBlock}
use Rattle.range_table.specs.declared.files.Files.{Files}
use Rattle.range_table.specs.declared.table.Table.{Table}
use Rattle.range_table.specs.internal.Filed.{FindsCells, StillFind}
use Rattle.range_table.specs.internal.States.{block_under, is_found}
use Rattle.range_table.specs.internal.Tables.{known}

-- operations and the block's cells find the number
pub record Finds (files : Files) (lines : PlaceLines) (b : Block) (n : ℕ) : Type 0 where
  pub touches : KeepsBlock files.touches lines b n
  pub cells : FindsCells files.cells lines b n

-- what was found is found still
pub record IsMore (old new : Files) : Type 0 where
  pub touches : Grows old.touches new.touches
  pub cells : StillFind old.cells new.cells

-- the operation bends the block, cuts it, tears it or takes it along
abbrev pub IsTouched : Shift → Block → Type 0
IsTouched s b = TouchesBlock (form_of s) b ⊎ TearsBlock (form_of s) b

-- each block for which the operation does so, and that it finds, is among the numbers
abbrev pub FindsGivenUp : Shift → PlaceLines → Files → List ℕ → Type 0
FindsGivenUp s lines files numbers = (b : Block) (n : ℕ) → IsBlockInside b → KeepsBlock files.touches lines b n → IsTouched s b → has n numbers ≡ true

-- each block that is found and has a cell in common with one of two is among the numbers
abbrev pub FindsBoth : Files → PlaceLines → Block → Block → List ℕ → Type 0
FindsBoth files lines first second numbers =
    (b : Block) (n : ℕ) → IsBlockInside b → KeepsBlock files.touches lines b n → CoverOne b first ⊎ CoverOne b second → has n numbers ≡ true

-- where something is known of a number, its block is one of a sheet, and is found by it
abbrev pub AreFound : Table → Files → Type 0
AreFound t files =
    (n : ℕ) (b : Block) → is_found (known t n) ≡ true → block_under t.lines t.keys.keys n ≡ Some b → IsBlockInside b × Finds files t.lines b n
