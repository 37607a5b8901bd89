-- The two references that make a block, or a whole range. Source: this project's own.
use Rattle.std.specs.Prelude.{◌≡◌, Option, Some, None}
use Rattle.cell_addr.specs.declared.axis.Axis.{Axis}
use Rattle.cell_addr.specs.declared.axis.Axis.TheVariants.{Rows, Cols}
use Rattle.formula_tree.specs.Whole.{first_ref, last_ref}
use Rattle.formula_tree.specs.declared.reference.Part.{Part}
use Rattle.formula_tree.specs.declared.reference.Ref.{Ref}

-- the row or the column of a reference
abbrev pub part_along : Axis → Ref → Part
part_along Rows r = r.row
part_along Cols r = r.col

-- the references of a whole range name the first and the last cell of its block, on one sheet; any two make a block
abbrev pub AreShaped : Option Axis → Ref → Ref → Type 0
AreShaped None r q = Unit {0}
AreShaped (Some axis) r q = (r ≡ first_ref axis r.sheet (part_along axis r)) × (q ≡ last_ref axis r.sheet (part_along axis q))
