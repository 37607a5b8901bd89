-- What a formula becomes where a copy of it is pasted. Source: HyperFormula's guide in outline, and this project's
-- own in the exact rules.
use Rattle.std.specs.Prelude.{◌≡◌, ◌≢◌, ℕ, ◌≤◌, ◌+ℤ◌, ◌-ℤ◌, pos, Bool, ◌&&◌, ◌==◌, if◌then◌else◌, nat_lt, List, Option, Some, None, is_some}
use Rattle.cell_addr.specs.declared.axis.Axis.{Axis}
use Rattle.cell_addr.specs.Sheets.{name_in}
use Rattle.cell_addr.specs.declared.place.Place.{Place}
use Rattle.cell_addr.specs.declared.place.TheConstants.{ROWS, COLS}
use Rattle.cell_value.specs.declared.fault.FaultKind.TheVariants as faults
use Rattle.formula_tree.specs.Grammar.{cell_on, first_of, last_of, placed}
use Rattle.formula_tree.specs.Reference.{base_of, line_of}
use Rattle.formula_tree.specs.Term.{Term, fault, mapped, shaped}
use Rattle.formula_tree.specs.declared.address.Address.{Address}
use Rattle.formula_tree.specs.declared.reference.Corner.{Corner}
use Rattle.formula_tree.specs.declared.reference.Home.{Home}
use Rattle.tree_rewrite.specs.References.{EachReference}

-- a row or column with a `$` stays, and another one goes as far as the formula does
abbrev pub line_pasted : ℕ → ℕ → Bool → ℕ → ℕ
line_pasted from to fixed line = if fixed then line else line_of (pos line +ℤ (pos to -ℤ pos from))

-- where a corner comes to
abbrev pub address_pasted : Place → Place → Corner → Address
address_pasted from to c = record {
  row = line_pasted from.row to.row c.row_fixed c.at.row;
  col = line_pasted from.col to.col c.col_fixed c.at.col;
  row_fixed = c.row_fixed;
  col_fixed = c.col_fixed;
}

-- the sheet that the formula leaves becomes the one that it comes to; another one stays
abbrev pub sheet_pasted : Place → Place → ℕ → ℕ
sheet_pasted from to sheet = if sheet == from.sheet then to.sheet else sheet

-- the address lies within the limits of a sheet
abbrev pub is_inside : Address → Bool
is_inside a = nat_lt a.row ROWS && nat_lt a.col COLS

-- the sheet where it is listed, and all is within its limits; else none
abbrev pub sheet_if : List (ℕ × List ℕ) → ℕ → Bool → Option ℕ
sheet_if sheets sheet fits = if is_some (name_in sheets sheet) && fits then Some sheet else None

-- a reference: the fault #REF! where it leaves the sheet, or its sheet isn't listed
abbrev pub cell_pasted : List (ℕ × List ℕ) → Place → Place → Corner → Term Corner
cell_pasted sheets from to c =
    let a = address_pasted from to c in
    cell_on (sheet_if sheets (sheet_pasted from to c.at.sheet) (is_inside a)) a

-- a block, or a whole range, between two addresses on a sheet, in order; the fault #REF! where there is no sheet
abbrev pub shaped_on : Option Axis → Option ℕ → Address → Address → Term Corner
shaped_on lines (Some sheet) a b = shaped lines (placed sheet (first_of a b)) (placed sheet (last_of a b))
shaped_on lines None a b = fault faults.Ref

-- a block: so where one of its corners does; else its corners are in order again, each row and each column with its
-- `$`. So for a whole range, whose lines across stay where they are
abbrev pub area_pasted : List (ℕ × List ℕ) → Place → Place → Option Axis → Corner → Corner → Term Corner
area_pasted sheets from to lines c d =
    let a = address_pasted from to c in
    let b = address_pasted from to d in
    shaped_on lines (sheet_if sheets (sheet_pasted from to c.at.sheet) (is_inside a && is_inside b)) a b

-- the tree of a formula that is copied from the first home and pasted at the second one, in a workbook of these sheets
abbrev pub pasted : List (ℕ × List ℕ) → Home → Home → Term Corner → Term Corner
pasted sheets from to = mapped (cell_pasted sheets (base_of from) (base_of to)) (area_pasted sheets (base_of from) (base_of to))

-- a reference isn't lost: its sheet is listed, and it is within the limits
abbrev pub IsThere : List (ℕ × List ℕ) → Place → Place → Corner → Type 0
IsThere sheets from to c = sheet_if sheets (sheet_pasted from to c.at.sheet) (is_inside (address_pasted from to c)) ≢ None

-- so is no corner of a block or of a whole range, and they stay in order
pub record IsAreaThere (sheets : List (ℕ × List ℕ)) (from to : Place) (c d : Corner) : Type 0 where
  pub there : sheet_if sheets (sheet_pasted from to c.at.sheet) (is_inside (address_pasted from to c) && is_inside (address_pasted from to d)) ≢ None
  pub sheet : c.at.sheet ≡ d.at.sheet
  pub rows : (address_pasted from to c).row ≤ (address_pasted from to d).row
  pub cols : (address_pasted from to c).col ≤ (address_pasted from to d).col

-- each reference, each block and each whole range of the tree
abbrev pub AreThere : List (ℕ × List ℕ) → Home → Home → Term Corner → Type 0
AreThere sheets from to = EachReference (IsThere sheets (base_of from) (base_of to)) (λ lines. IsAreaThere sheets (base_of from) (base_of to))
