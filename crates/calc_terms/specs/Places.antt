-- The functions that ask where a reference is; what its cells show isn't read. Source: OpenFormula.
use Rattle.std.specs.Prelude.{ℕ, ◌+◌, List, [], ◌∷◌, Result, Ok, Err}
use Rattle.cell_addr.specs.Place.{height, width}
use Rattle.cell_addr.specs.declared.place.Place.{Place}
use Rattle.cell_addr.specs.declared.place.Block.{Block}
use Rattle.cell_value.specs.declared.fault.FaultKind.{FaultKind}
use Rattle.cell_value.specs.declared.fault.FaultKind.TheVariants.{Na}
use Rattle.cell_value.specs.declared.scalar.Scalar.{Scalar}
use Rattle.func_args.specs.Answers.{and_then, counted, number_value}
use Rattle.calc_terms.specs.declared.function.PlaceFn.{PlaceFn}
use Rattle.calc_terms.specs.declared.function.PlaceFn.TheVariants.{Row, Column, Rows, Columns}

-- what each function counts of a block: the row and column of its first cell, from 1, and its rows and columns
abbrev pub count_in : PlaceFn → Block → ℕ
count_in Row b = b.top + 1
count_in Column b = b.left + 1
count_in Rows b = height b
count_in Columns b = width b

-- and of one argument
abbrev pub count_of : PlaceFn → List (Result Block FaultKind) → Result ℕ FaultKind
count_of f (b ∷ []) = and_then b (λ c. Ok (count_in f c))
count_of f _ = Err Na

-- ROW([R]) and COLUMN([R]), where the formula's own place stands for an absent argument, ROWS(R) and COLUMNS(R)
abbrev pub place_count : PlaceFn → Place → List (Result Block FaultKind) → Result ℕ FaultKind
place_count Row home [] = Ok (home.row + 1)
place_count Column home [] = Ok (home.col + 1)
place_count f home blocks = count_of f blocks

-- the value of each function in a formula whose home is at this place
unfoldable pub place_value : PlaceFn → Place → List (Result Block FaultKind) → Scalar
place_value f home blocks = number_value (and_then (place_count f home blocks) counted)
