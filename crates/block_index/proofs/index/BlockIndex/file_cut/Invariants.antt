use Rattle.std.proofs.Common.{◌≡◌, ℕ, true, take}
use Rattle.std.specs.List.{list_any}
use Rattle.block_slots.specs.Slots.{has_cell}
use Rattle.block_index.specs.Index.{Files, finds, in_cells}
use Rattle.block_index.proofs.index.BlockIndex.file_cut.Given as goal

-- the cells of the slots gone by find the number
abbrev pub invariant-slots : goal.invariant-slots
invariant-slots l = record {
  files : Files (in_cells l.fn.sheet l.fn.rows l.fn.cols) l.fn.number l.fn.self l.self;
  found : (row col : ℕ) → list_any (λ s. has_cell s row col) (take l.slot-index l.slot-items) ≡ true → finds l.self l.fn.sheet row col l.fn.number ≡ true;
}
