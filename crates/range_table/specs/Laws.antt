-- What keeps a table right, and how many cells are merged.
use Rattle.std.specs.Prelude.{◌≡◌, ◌≤◌, Some, None, IsSome}
use Rattle.std.specs.FinMap as map
use Rattle.cell_addr.specs.Place.{Covers, IsBlockInside, width}
use Rattle.cell_addr.specs.declared.place.Block.{Block}
use Rattle.cell_addr.specs.declared.place.Place.{Place}
use Rattle.cell_value.specs.declared.scalar.Scalar.{Scalar}
use Rattle.cell_value.specs.declared.summary.Summary.{Summary}
use Rattle.shift_core.specs.Carried.{carried_place, first_place}
use Rattle.shift_core.specs.Sound.{IsSound}
use Rattle.shift_core.specs.Tables.{place_after}
use Rattle.shift_core.specs.declared.shift.Shift.{Shift}
use Rattle.range_table.specs.Blocks.{BlockMap}
use Rattle.range_table.specs.Cells.{nonempty_in}
use Rattle.range_table.specs.Shifted.{KeepsBlock}
use Rattle.range_table.specs.Table.{AreFolds, begun, cells_to_merge, last_row, without_holders}

-- summaries that are right stay so where one place gets another value and those whose blocks hold it are given up
abbrev pub TouchedTablesStayRight : Type 0
TouchedTablesStayRight =
    (before after : Place → Scalar) (changed : Place) (kept : BlockMap Summary) →
    ((p : Place) → ¬ (p ≡ changed) → after p ≡ before p) → AreFolds before kept → AreFolds after (without_holders changed kept)

-- never more cells are merged than the block has that aren't empty, none where its summary is kept, no more than its width
-- where that of the block without its last row is kept, and at least those of its last row that aren't empty where its own
-- isn't
abbrev pub FewCellsAreMerged : Type 0
FewCellsAreMerged =
    (values : Place → Scalar) (kept : BlockMap Summary) (b : Block) → IsBlockInside b →
    (cells_to_merge values kept b ≤ nonempty_in values b)
    × (IsSome (map.get kept b) → cells_to_merge values kept b ≡ 0)
    × (IsSome (begun kept b) → cells_to_merge values kept b ≤ width b)
    × (map.get kept b ≡ None → nonempty_in values (last_row b) ≤ cells_to_merge values kept b)

-- each place of a block that keeps its summary moves to the same offset in the block that this one moves to
abbrev pub KeptBlocksTakeTheirCells : Type 0
KeptBlocksTakeTheirCells =
    (s : Shift) (b after : Block) (p : Place) → IsSound s → IsBlockInside b → KeepsBlock s b after → Covers b p →
    place_after s p ≡ Some (carried_place b (first_place after) p)
