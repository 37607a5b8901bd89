-- Whole ranges in trees: all rows or all columns along an axis, by the first and the last cell of their block. The lines
-- across the axis have a `$`. Source: this project's own.
use Rattle.std.specs.Prelude.{◌≡◌, ℕ, ◌-◌, Bool, true}
use Rattle.cell_addr.specs.declared.axis.Axis.{Axis}
use Rattle.cell_addr.specs.declared.axis.Axis.TheVariants.{Rows, Cols}
use Rattle.cell_addr.specs.declared.whole.Whole.{Whole}
use Rattle.cell_addr.specs.Axis.{across, limit_of, line_of}
use Rattle.cell_addr.specs.Whole.{whole_of}
use Rattle.formula_tree.specs.Reference.{block_of}
use Rattle.formula_tree.specs.Term.{Term, whole}
use Rattle.formula_tree.specs.declared.reference.Corner.{Corner}
use Rattle.formula_tree.specs.declared.reference.Part.{Part}
use Rattle.formula_tree.specs.declared.reference.Part.TheVariants.{Abs}
use Rattle.formula_tree.specs.declared.reference.Ref.{Ref}
use Rattle.formula_tree.specs.declared.reference.SheetPart.{SheetPart}

-- the last line across an axis
abbrev pub last_across : Axis → ℕ
last_across axis = limit_of (across axis) - 1

-- a cell by a line along the axis, with a `$` or without, and by a line across it
abbrev pub corner_on : Axis → ℕ → ℕ → Bool → ℕ → Corner
corner_on Rows sheet line fixed over = record { at = record { sheet = sheet; row = line; col = over }; row_fixed = fixed; col_fixed = true }
corner_on Cols sheet line fixed over = record { at = record { sheet = sheet; row = over; col = line }; row_fixed = true; col_fixed = fixed }

-- the first and the last cell of a whole range, by its first and by its last line
abbrev pub first_corner : Axis → ℕ → ℕ → Bool → Corner
first_corner axis sheet line fixed = corner_on axis sheet line fixed 0

abbrev pub last_corner : Axis → ℕ → ℕ → Bool → Corner
last_corner axis sheet line fixed = corner_on axis sheet line fixed (last_across axis)

-- a whole range as a tree, by which of its ends have a `$`
abbrev pub whole_term : Whole → Bool → Bool → Term Corner
whole_term w first_fixed last_fixed =
    whole w.axis (first_corner w.axis w.sheet w.first first_fixed) (last_corner w.axis w.sheet w.last last_fixed)

-- the whole range whose first and last cell these are, and whether the line of a cell along the axis has a `$`
abbrev pub whole_between : Axis → Corner → Corner → Whole
whole_between axis c d = whole_of axis (block_of c d)

abbrev pub fixed_along : Axis → Corner → Bool
fixed_along Rows c = c.row_fixed
fixed_along Cols c = c.col_fixed

-- the cells are the first and the last one of lines along the axis
abbrev pub AreWhole : Axis → Corner → Corner → Type 0
AreWhole axis c d =
    (c ≡ first_corner axis c.at.sheet (line_of axis c.at) (fixed_along axis c)) × (d ≡ last_corner axis d.at.sheet (line_of axis d.at) (fixed_along axis d))

-- the first and the last cell as they are seen from a home, by the parts of the first and of the last line
abbrev pub ref_on : Axis → SheetPart → Part → ℕ → Ref
ref_on Rows sheet part over = record { sheet = sheet; row = part; col = Abs over }
ref_on Cols sheet part over = record { sheet = sheet; row = Abs over; col = part }

abbrev pub first_ref : Axis → SheetPart → Part → Ref
first_ref axis sheet part = ref_on axis sheet part 0

abbrev pub last_ref : Axis → SheetPart → Part → Ref
last_ref axis sheet part = ref_on axis sheet part (last_across axis)
