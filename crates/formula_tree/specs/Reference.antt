-- References as they are seen from the home of a formula, and the places that they name there.
-- Source: this project's own.
use Rattle.std.specs.Prelude.{ℕ, ℤ, pos, negsuc, ◌+ℤ◌, ◌-ℤ◌, min, Bool, true, false, if◌then◌else◌, ◌==◌}
use Rattle.cell_addr.specs.declared.place.Place.{Place}
use Rattle.cell_addr.specs.declared.place.Block.{Block}
use Rattle.cell_addr.specs.Place as places
use Rattle.formula_tree.specs.declared.reference.TheConstants.{NO_LINE}
use Rattle.formula_tree.specs.declared.reference.Corner.{Corner}
use Rattle.formula_tree.specs.declared.reference.Home.{Home}
use Rattle.formula_tree.specs.declared.reference.Home.TheVariants as homes
use Rattle.formula_tree.specs.declared.reference.Part.{Part}
use Rattle.formula_tree.specs.declared.reference.Part.TheVariants.{Rel, Abs}
use Rattle.formula_tree.specs.declared.reference.Ref.{Ref}
use Rattle.formula_tree.specs.declared.reference.SheetPart.{SheetPart}
use Rattle.formula_tree.specs.declared.reference.SheetPart.TheVariants.{Own, Id}

-- the place from which relative parts count: the cell of a formula, and row 0 and column 0 of its scope
-- for a named expression
abbrev pub base_of : Home → Place
base_of (homes.Cell at) = at
base_of (homes.Name sheet) = record { sheet = sheet; row = 0; col = 0 }

-- the sheet that a formula stands on; references without a sheet's name are on it
abbrev pub sheet_of : Home → ℕ
sheet_of home = (base_of home).sheet

-- the formula stands within the limits of a sheet
abbrev pub IsHomeInside : Home → Type 0
IsHomeInside home = places.IsInside (base_of home)

-- the sheet that a reference is on
abbrev pub sheet_at : ℕ → SheetPart → ℕ
sheet_at own Own = own
sheet_at own (Id sheet) = sheet

-- the line with this number; none has a negative one
abbrev pub line_of : ℤ → ℕ
line_of (pos n) = min n NO_LINE
line_of (negsuc n) = NO_LINE

-- the row or column that a part names, as seen from the home's own
abbrev pub line_at : ℕ → Part → ℕ
line_at base (Rel by) = line_of (pos base +ℤ by)
line_at base (Abs line) = line

-- the part has a `$`
abbrev pub is_fixed : Part → Bool
is_fixed (Rel by) = false
is_fixed (Abs line) = true

-- the corner that a reference names in a formula whose relative parts count from this place
abbrev pub corner_at : Place → Ref → Corner
corner_at base r = record {
  at = record { sheet = sheet_at base.sheet r.sheet; row = line_at base.row r.row; col = line_at base.col r.col };
  row_fixed = is_fixed r.row;
  col_fixed = is_fixed r.col;
}

-- how a sheet, a line and a corner are seen from there: the own sheet and lines without a `$` relative
abbrev pub sheet_from : ℕ → ℕ → SheetPart
sheet_from own sheet = if sheet == own then Own else Id sheet

abbrev pub part_from : ℕ → Bool → ℕ → Part
part_from base fixed line = if fixed then Abs line else Rel (pos line -ℤ pos base)

abbrev pub ref_from : Place → Corner → Ref
ref_from base c = record {
  sheet = sheet_from base.sheet c.at.sheet;
  row = part_from base.row c.row_fixed c.at.row;
  col = part_from base.col c.col_fixed c.at.col;
}

-- the block between two corners
abbrev pub block_of : Corner → Corner → Block
block_of c d = record { sheet = c.at.sheet; top = c.at.row; left = c.at.col; bottom = d.at.row; right = d.at.col }
