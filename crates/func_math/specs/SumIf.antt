-- SUMIF. Source: OpenFormula; that the blocks have one size is this project's own.
use Rattle.std.specs.Prelude.{◌==◌, Bool, ◌&&◌, if◌then◌else◌, ℤ, List, [], ◌∷◌, Result, Err}
use Rattle.cell_value.specs.declared.argument.Arg.{Arg}
use Rattle.cell_value.specs.declared.fault.FaultKind.{FaultKind}
use Rattle.cell_value.specs.declared.fault.FaultKind.TheVariants.{Na, Value}
use Rattle.cell_value.specs.declared.scalar.Scalar.{Scalar}
use Rattle.cell_value.specs.Cells.{Cells}
use Rattle.cell_value.specs.Summary.{summary_of}
use Rattle.func_args.specs.Answers.{and_then}
use Rattle.func_args.specs.Arguments.{block, value}
use Rattle.func_math.specs.Criteria.{criterion_of, matches}
use Rattle.func_math.specs.Sums.{decided, sum_of}

-- of two lists side by side, the second one's values beside those of the first that pass
abbrev pub chosen : (Scalar → Bool) → List Scalar → List Scalar → List Scalar
chosen p (x ∷ xs) (y ∷ ys) = if p x then y ∷ chosen p xs ys else chosen p xs ys
chosen p [] ys = []
chosen p (x ∷ xs) [] = []

-- the blocks have one size
abbrev pub same_size : Cells → Cells → Bool
same_size a b = a.rows == b.rows && a.cols == b.cols

-- the sum of the cells of the second block at whose places the criterion matches those of the first: a
-- fault in a cell that is summed decides
abbrev pub sum_where : Scalar → Cells → Cells → Result ℤ FaultKind
sum_where x tested summed =
    if same_size tested summed
    then and_then (decided (summary_of (chosen (matches (criterion_of x)) tested.values summed.values))) sum_of
    else Err Value

-- SUMIF(R, A [, R])
abbrev pub sum_if : List Arg → Result ℤ FaultKind
sum_if (a ∷ b ∷ []) = and_then (block a) (λ tested. and_then (value b) (λ x. sum_where x tested tested))
sum_if (a ∷ b ∷ c ∷ []) = and_then (block a) (λ tested. and_then (value b) (λ x. and_then (block c) (λ summed. sum_where x tested summed)))
sum_if _ = Err Na
