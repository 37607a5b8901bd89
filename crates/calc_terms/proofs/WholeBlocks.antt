-- The block between the first and the last cell of a whole range, as a node names it, is that of the range. Serves
-- references.
use Rattle.std.proofs.Common.{◌≡◌, refl}
use Rattle.cell_addr.specs.declared.axis.Axis.{Axis}
use Rattle.cell_addr.specs.declared.axis.Axis.TheVariants.{Rows, Cols}
use Rattle.cell_addr.specs.declared.place.Place.{Place}
use Rattle.formula_tree.specs.Reference.{block_of, corner_at}
use Rattle.formula_tree.specs.Whole.{first_ref, last_ref}
use Rattle.formula_tree.specs.declared.reference.Part.{Part}
use Rattle.formula_tree.specs.declared.reference.SheetPart.{SheetPart}
use Rattle.calc_terms.specs.References.{full_block}

pub block_between : (axis : Axis) (base : Place) (sheet : SheetPart) (p q : Part)
    → block_of (corner_at base (first_ref axis sheet p)) (corner_at base (last_ref axis sheet q)) ≡ full_block axis (corner_at base (first_ref axis sheet p)) (corner_at base (last_ref axis sheet q))
block_between Rows base sheet p q = refl
block_between Cols base sheet p q = refl
