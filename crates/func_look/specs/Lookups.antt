-- VLOOKUP and HLOOKUP. Source: OpenFormula.
use Rattle.std.specs.Prelude.{ℕ, zero, suc, ◌+◌, Bool, true, false, ℤ, List, [], ◌∷◌, Option, Some, None, Result, Ok, Err}
use Rattle.cell_value.specs.declared.argument.Arg.{Arg}
use Rattle.cell_value.specs.declared.fault.FaultKind.{FaultKind}
use Rattle.cell_value.specs.declared.fault.FaultKind.TheVariants.{Na}
use Rattle.cell_value.specs.declared.scalar.Scalar.{Scalar}
use Rattle.cell_value.specs.Cells.{Cells, value_at}
use Rattle.func_args.specs.Answers.{and_then}
use Rattle.func_args.specs.Arguments.{block, truth, value, whole}
use Rattle.func_look.specs.declared.taken.Mode.{Mode}
use Rattle.func_look.specs.declared.taken.Mode.TheVariants.{Exact, Rising}
use Rattle.func_look.specs.Index.{place_of}
use Rattle.func_look.specs.Taken.{sought, taken}

-- so many values from this place on
unfoldable pub values_from : (ℕ → Scalar) → ℕ → ℕ → List Scalar
values_from value at zero = []
values_from value at (suc n) = value at ∷ values_from value (at + 1) n

-- the values of the first column, from the top
abbrev pub first_column : Cells → List Scalar
first_column cells = values_from (λ row. value_at cells row 0) 0 cells.rows

-- the values of the first row, from the left
abbrev pub first_row : Cells → List Scalar
first_row cells = values_from (λ col. value_at cells 0 col) 0 cells.cols

-- rising where that is TRUE, else exact
abbrev pub lookup_mode : Bool → Mode
lookup_mode true = Rising
lookup_mode false = Exact

-- what stands at the place that a look-up takes; where it takes none #N/A
abbrev pub found_at : (ℕ → Scalar) → Option ℕ → Result Scalar FaultKind
found_at value (Some at) = Ok (value at)
found_at value None = Err Na

-- the value in this column of the row that the first column's look-up takes: the column is tested first
abbrev pub vlookup : Scalar → Cells → ℤ → Bool → Result Scalar FaultKind
vlookup x cells n rising =
    and_then (place_of n cells.cols) (λ col. found_at (λ row. value_at cells row col) (taken (lookup_mode rising) (sought x) (first_column cells)))

-- the same with rows
abbrev pub hlookup : Scalar → Cells → ℤ → Bool → Result Scalar FaultKind
hlookup x cells n rising =
    and_then (place_of n cells.rows) (λ row. found_at (λ col. value_at cells row col) (taken (lookup_mode rising) (sought x) (first_row cells)))

-- the four arguments of such a look-up, of which the last may be absent: then it is TRUE
abbrev pub lookup_by : (Scalar → Cells → ℤ → Bool → Result Scalar FaultKind) → List Arg → Result Scalar FaultKind
lookup_by look (a ∷ b ∷ c ∷ []) = and_then (value a) (λ x. and_then (block b) (λ cells. and_then (whole c) (λ n. look x cells n true)))
lookup_by look (a ∷ b ∷ c ∷ d ∷ []) = and_then (value a) (λ x. and_then (block b) (λ cells. and_then (whole c) (λ n. and_then (truth d) (λ rising. look x cells n rising))))
lookup_by look _ = Err Na
