-- Places and blocks carried along with a block of cells. Source: this project's own.
use Rattle.std.specs.Prelude.{Bool, ◌+◌, ◌-◌, ◌&&◌}
use Rattle.cell_addr.specs.declared.place.Place.{Place}
use Rattle.cell_addr.specs.declared.place.Block.{Block}
use Rattle.cell_addr.specs.Place.{covers}

-- the corner with the least row and column
abbrev pub first_place : Block → Place
first_place b = record { sheet = b.sheet; row = b.top; col = b.left }

-- the corner with the greatest row and column
abbrev pub last_place : Block → Place
last_place b = record { sheet = b.sheet; row = b.bottom; col = b.right }

-- both corners of the second block are in the first
abbrev pub contains : Block → Block → Bool
contains b part = covers b (first_place part) && covers b (last_place part)

-- the place with the same offset from `to` as `p` has from the block's first place
abbrev pub carried_place : Block → Place → Place → Place
carried_place source to p =
    record { sheet = to.sheet; row = to.row + (p.row - source.top); col = to.col + (p.col - source.left) }

-- a block inside `source`, both corners carried along
abbrev pub carried_block : Block → Place → Block → Block
carried_block source to b =
    record {
      sheet = to.sheet;
      top = to.row + (b.top - source.top);
      left = to.col + (b.left - source.left);
      bottom = to.row + (b.bottom - source.top);
      right = to.col + (b.right - source.left);
    }

-- the block of the size of `source` that begins at `to`
abbrev pub destination : Block → Place → Block
destination source to = carried_block source to source
