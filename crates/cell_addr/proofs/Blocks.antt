-- What the ends of blocks say of the places that they cover. Serves `meets` and `contains`.
use Rattle.std.proofs.Common.{max, arith, sym, ◌∙◌, refl}
use Rattle.cell_addr.specs.declared.place.Place.{Place}
use Rattle.cell_addr.specs.declared.place.Block.{Block}
use Rattle.cell_addr.specs.Place.{Covers, CoverOne, CoversAllOf}
use Rattle.cell_addr.specs.internal.Blocks.{IsInOrder, Overlap, Encloses}

pub CoverOne-from_overlap : (a b : Block) → Overlap a b → CoverOne a b
CoverOne-from_overlap a b o =
    let rows = o.1 in
    let cols = o.2 in (
      record { sheet = a.sheet; row = max a.top b.top; col = max a.left b.left },
      ((refl, omega arith, omega arith, omega arith, omega arith), (sym o.0, omega arith, omega arith, omega arith, omega arith)),
    )

pub Overlap-from_place : (a b : Block) → CoverOne a b → Overlap a b
Overlap-from_place a b (p, (i, j)) = (i.0 ∙ sym j.0, omega arith, omega arith)

pub CoversAllOf-from_ends : (a b : Block) → Encloses a b → CoversAllOf a b
CoversAllOf-from_ends a b s p c = (s.0 ∙ c.0, omega arith, omega arith, omega arith, omega arith)

-- a block whose ends are in order covers its corners
pub Encloses-from_places : (a b : Block) → IsInOrder b → CoversAllOf a b → Encloses a b
Encloses-from_places a b o all =
    let first : Place = record { sheet = b.sheet; row = b.top; col = b.left } in
    let last : Place = record { sheet = b.sheet; row = b.bottom; col = b.right } in
    let x = all first (refl, omega arith, omega arith, omega arith, omega arith) in
    let y = all last (refl, omega arith, omega arith, omega arith, omega arith) in
    (x.0, x.1, y.2, x.3, y.4)

-- a block whose ends are out of order covers nothing
pub IsInOrder-from_place : (b : Block) (p : Place) → Covers b p → IsInOrder b
IsInOrder-from_place b p c = (omega arith, omega arith)
