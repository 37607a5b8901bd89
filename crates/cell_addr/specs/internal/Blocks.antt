-- What the ends of two blocks say of the places that both cover.
use Rattle.std.specs.Prelude.{◌≡◌, ◌≤◌, min, max}
use Rattle.cell_addr.specs.declared.place.Block.{Block}

-- the ends of the second block lie within those of the first
abbrev pub Encloses : Block → Block → Type 0
Encloses a b = (a.sheet ≡ b.sheet) × (a.top ≤ b.top) × (b.bottom ≤ a.bottom) × (a.left ≤ b.left) × (b.right ≤ a.right)

-- no first end of the block is greater than its last one
abbrev pub IsInOrder : Block → Type 0
IsInOrder b = (b.top ≤ b.bottom) × (b.left ≤ b.right)

-- on one sheet, the later of the first ends isn't past the earlier of the last ends
abbrev pub Overlap : Block → Block → Type 0
Overlap a b = (a.sheet ≡ b.sheet) × (max a.top b.top ≤ min a.bottom b.bottom) × (max a.left b.left ≤ min a.right b.right)
