-- Finite maps from blocks. Source: this project's own.
use Rattle.std.specs.FinMap as map
use Rattle.std.specs.Ordering.{nat_cmp, ordering_then}
use Rattle.std.specs.declared.cmp.Ordering.{Ordering}
use Rattle.cell_addr.specs.declared.place.Block.{Block}

-- by sheet, then by the first cell's row and column, then by the last one's
abbrev pub block_cmp : Block → Block → Ordering
block_cmp a b = ordering_then (nat_cmp a.sheet b.sheet) (ordering_then (nat_cmp a.top b.top) (ordering_then (nat_cmp a.left b.left) (ordering_then (nat_cmp a.bottom b.bottom) (nat_cmp a.right b.right))))

-- a finite map from blocks
abbrev pub BlockMap : Type 0 → Type 0
BlockMap X = map.FinMap block_cmp X
