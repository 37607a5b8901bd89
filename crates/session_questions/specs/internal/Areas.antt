-- The least block over places, worked out place by place.
use Rattle.std.specs.Prelude.{List, [], ◌∷◌, Option, Some, None, max, min}
use Rattle.cell_addr.specs.declared.place.Block.{Block}
use Rattle.cell_addr.specs.declared.place.Place.{Place}

-- the least block over a block, if there is one, and a place
abbrev pub widened : Option Block → Place → Block
widened None p = record { sheet = p.sheet; top = p.row; left = p.col; bottom = p.row; right = p.col }
widened (Some b) p = record { sheet = b.sheet; top = min b.top p.row; left = min b.left p.col; bottom = max b.bottom p.row; right = max b.right p.col }

-- and over a list of places
abbrev pub area_over : Option Block → List Place → Option Block
area_over area [] = area
area_over area (p ∷ ps) = area_over (Some (widened area p)) ps
