-- What isn't touched stays as it is kept. Source: this project's own.
use Rattle.std.specs.Prelude.{◌≡◌, ℕ, Some}
use Rattle.cell_addr.specs.Place.{IsBlockInside, IsInside}
use Rattle.cell_addr.specs.declared.place.Block.{Block}
use Rattle.cell_addr.specs.declared.place.Place.{Place}
use Rattle.place_lines.specs.Moved.{AreMoved}
use Rattle.place_lines.specs.Spots.{area_of, spot_of}
use Rattle.place_lines.specs.declared.lines.PlaceLines.{PlaceLines}
use Rattle.shift_core.specs.Form.{form_of}
use Rattle.shift_core.specs.Sound.{IsSound}
use Rattle.shift_core.specs.Tables.{block_after, place_after}
use Rattle.shift_core.specs.declared.shift.Shift.{Shift}
use Rattle.touch_index.specs.Kept.{KeepsBlock, KeepsCell}
use Rattle.touch_index.specs.Touched.{TouchesBlock, TouchesCell}
use Rattle.touch_index.specs.declared.index.TouchIndex.{TouchIndex}

-- a cell of the sheet that an operation doesn't touch is somewhere afterwards, and has the spot that it had
abbrev pub UntouchedCellsStay : Type 0
UntouchedCellsStay =
    (s : Shift) (old new : PlaceLines) (p : Place) → IsSound s → AreMoved (form_of s) old new → IsInside p → ¬ TouchesCell (form_of s) p →
    (q : Place) × (place_after s p ≡ Some q) × (spot_of old p ≡ spot_of new q)

-- and so a kept one is kept still
abbrev pub KeptCellsStay : Type 0
KeptCellsStay =
    (x : TouchIndex) (s : Shift) (old new : PlaceLines) (p q : Place) (n : ℕ) → IsSound s → AreMoved (form_of s) old new → IsInside p → ¬ TouchesCell (form_of s) p →
    place_after s p ≡ Some q → KeepsCell x old p n → KeepsCell x new q n

-- a block of the sheet that an operation doesn't touch is somewhere afterwards, and has the area that it had
abbrev pub UntouchedBlocksStay : Type 0
UntouchedBlocksStay =
    (s : Shift) (old new : PlaceLines) (b : Block) → IsSound s → AreMoved (form_of s) old new → IsBlockInside b → ¬ TouchesBlock (form_of s) b →
    (after : Block) × (block_after s b ≡ Some after) × (area_of old b ≡ area_of new after)

-- and so a kept one is kept still
abbrev pub KeptBlocksStay : Type 0
KeptBlocksStay =
    (x : TouchIndex) (s : Shift) (old new : PlaceLines) (b after : Block) (n : ℕ) → IsSound s → AreMoved (form_of s) old new → IsBlockInside b → ¬ TouchesBlock (form_of s) b →
    block_after s b ≡ Some after → KeepsBlock x old b n → KeepsBlock x new after n
