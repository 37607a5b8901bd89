-- MATCH. Source: OpenFormula.
use Rattle.std.specs.Prelude.{ℕ, ◌+◌, ◌==◌, Bool, ◌||◌, if◌then◌else◌, ℤ, pos, neg_ℤ, List, [], ◌∷◌, Option, Some, None, Result, Ok, Err}
use Rattle.std.specs.Ordering.{int_eq}
use Rattle.fix_num.specs.declared.number.TheConstants.{ONE}
use Rattle.cell_value.specs.declared.argument.Arg.{Arg}
use Rattle.cell_value.specs.declared.fault.FaultKind.{FaultKind}
use Rattle.cell_value.specs.declared.fault.FaultKind.TheVariants.{Na, Value}
use Rattle.cell_value.specs.declared.scalar.Scalar.{Scalar}
use Rattle.cell_value.specs.Cells.{Cells}
use Rattle.func_args.specs.Answers.{and_then, counted}
use Rattle.func_args.specs.Arguments.{block, number, value}
use Rattle.func_look.specs.declared.taken.Mode.{Mode}
use Rattle.func_look.specs.declared.taken.Mode.TheVariants.{Exact, Rising, Falling}
use Rattle.func_look.specs.Taken.{sought, taken}

-- one row or one column
abbrev pub is_line : Cells → Bool
is_line cells = cells.rows == 1 || cells.cols == 1

-- how a look-up with this number takes an item
abbrev pub mode_of : ℤ → Result Mode FaultKind
mode_of number =
    if int_eq number (pos 0) then Ok Exact
    else if int_eq number (pos ONE) then Ok Rising
    else if int_eq number (neg_ℤ (pos ONE)) then Ok Falling
    else Err Na

-- a position from 1; where nothing is taken #N/A
abbrev pub position_of : Option ℕ → Result ℤ FaultKind
position_of (Some at) = counted (at + 1)
position_of None = Err Na

-- where a value stands in one row or one column, by the mode of a number
abbrev pub matched : Scalar → Cells → ℤ → Result ℤ FaultKind
matched x cells n = if is_line cells then and_then (mode_of n) (λ mode. position_of (taken mode (sought x) cells.values)) else Err Value

-- MATCH(A, R [, N])
abbrev pub match_value : List Arg → Result ℤ FaultKind
match_value (a ∷ b ∷ []) = and_then (value a) (λ x. and_then (block b) (λ cells. matched x cells (pos ONE)))
match_value (a ∷ b ∷ c ∷ []) = and_then (value a) (λ x. and_then (block b) (λ cells. and_then (number c) (λ n. matched x cells n)))
match_value _ = Err Na
