-- References as arguments of functions, and the data that arguments become before a function sees them. Source:
-- OpenFormula; that a name stands for the reference, block or whole range that its own tree is, is this project's
-- own.
use Rattle.std.specs.Prelude.{ℕ, ◌+◌, Bool, if◌then◌else◌, List, [], ◌∷◌, Option, Some, None, Result, Ok, Err}
use Rattle.cell_addr.specs.declared.axis.Axis.{Axis}
use Rattle.cell_addr.specs.declared.place.Block.{Block}
use Rattle.cell_addr.specs.Whole.{whole_block}
use Rattle.cell_value.specs.declared.argument.Arg.{Arg}
use Rattle.cell_value.specs.declared.argument.Arg.TheVariants.{One, Many}
use Rattle.cell_value.specs.declared.fault.FaultKind.{FaultKind}
use Rattle.cell_value.specs.declared.fault.FaultKind.TheVariants.{Value}
use Rattle.cell_value.specs.declared.scalar.Scalar.{Scalar}
use Rattle.cell_value.specs.declared.scalar.Scalar.TheVariants.{Fault}
use Rattle.cell_value.specs.Cells.{Cells}
use Rattle.formula_tree.specs.Reference.{block_of}
use Rattle.formula_tree.specs.Term.{Term, cell, area, whole, name}
use Rattle.formula_tree.specs.Whole.{whole_between}
use Rattle.formula_tree.specs.declared.reference.Corner.{Corner}
use Rattle.calc_terms.specs.Cells.{cells_in, filled_in, fits}
use Rattle.calc_terms.specs.World.{Named, World}
use Rattle.calc_terms.specs.declared.argument.Argument.{Argument}
use Rattle.calc_terms.specs.declared.argument.Argument.TheVariants as argument
use Rattle.calc_terms.specs.declared.reference.Reference.{Reference}
use Rattle.calc_terms.specs.declared.reference.Reference.TheVariants as reference

-- a block as a reference. One beyond the limits of a sheet, which no formula has, is none
abbrev pub area_reference : Block → Option Reference
area_reference b = if fits b then Some (reference.Area b) else None

-- the block of all cells of a whole range, by its first and its last cell
abbrev pub full_block : Axis → Corner → Corner → Block
full_block axis c d = whole_block (whole_between axis c d)

-- the reference that a tree is itself; a whole range is its block
abbrev pub own_reference : Term Corner → Option Reference
own_reference (cell c) = Some (reference.Cell c.at)
own_reference (area c d) = area_reference (block_of c d)
own_reference (whole axis c d) = area_reference (full_block axis c d)
own_reference t = None

abbrev pub reference_named : Option Named → Option Reference
reference_named (Some named) = own_reference named.tree
reference_named None = None

-- the reference that an argument of a formula on this sheet stands for: a name stands for the one that its own tree is
abbrev pub reference_of : World → ℕ → Term Corner → Option Reference
reference_of w sheet (name word) = reference_named (w.named word sheet)
reference_of w sheet t = own_reference t

-- the block of a reference
abbrev pub reference_block : Reference → Block
reference_block (reference.Cell p) = record { sheet = p.sheet; top = p.row; left = p.col; bottom = p.row; right = p.col }
reference_block (reference.Area b) = b

-- its cells
abbrev pub reference_cells : World → Reference → Cells
reference_cells w (reference.Cell p) = record { rows = 1; cols = 1; values = w.shown p ∷ [] }
reference_cells w (reference.Area b) = cells_in w.shown b

-- an argument as its function finds it: the reference that it stands for, or the value of any other expression
abbrev pub argument_of : Option Reference → Scalar → Argument
argument_of (Some r) x = argument.Reference r
argument_of None x = argument.Value x

-- where one value is wanted: the cell's, and a block is #VALUE!
abbrev pub argument_value : World → Argument → Scalar
argument_value w (argument.Reference (reference.Cell p)) = w.shown p
argument_value w (argument.Reference (reference.Area b)) = Fault Value
argument_value w (argument.Value x) = x

-- where a list or a block is wanted: the cells of a reference, and any other value
abbrev pub argument_cells : World → Argument → Arg
argument_cells w (argument.Reference r) = Many (reference_cells w r)
argument_cells w (argument.Value x) = One x

-- where a place is wanted: any other value is its fault, or else #VALUE!
abbrev pub argument_block : Argument → Result Block FaultKind
argument_block (argument.Reference r) = Ok (reference_block r)
argument_block (argument.Value (Fault fault)) = Err fault
argument_block (argument.Value x) = Err Value

-- how many cells of a block aren't empty that it stands for: a single cell is no block
abbrev pub argument_size : World → Argument → ℕ
argument_size w (argument.Reference (reference.Area b)) = filled_in w.shown b
argument_size w _ = 0

-- the arguments as a function takes them: which of them are lists or blocks, by their places from this one on
abbrev pub data_arguments : World → (ℕ → Bool) → ℕ → List Argument → List Arg
data_arguments w takes_block at [] = []
data_arguments w takes_block at (a ∷ rest) =
    (if takes_block at then argument_cells w a else One (argument_value w a)) ∷ data_arguments w takes_block (at + 1) rest
