-- COUNTA, COUNTBLANK and COUNTIF. Source: OpenFormula.
use Rattle.std.specs.Prelude.{ℕ, not, List, [], ◌∷◌, Result, Err}
use Rattle.std.specs.List.{count_by, flat_map}
use Rattle.cell_value.specs.declared.argument.Arg.{Arg}
use Rattle.cell_value.specs.declared.argument.Arg.TheVariants.{One, Many}
use Rattle.cell_value.specs.declared.fault.FaultKind.{FaultKind}
use Rattle.cell_value.specs.declared.fault.FaultKind.TheVariants.{Na}
use Rattle.cell_value.specs.declared.scalar.Scalar.{Scalar}
use Rattle.cell_value.specs.Scalar.{is_empty}
use Rattle.std.specs.Prelude.{ℤ}
use Rattle.func_args.specs.Answers.{and_then, counted}
use Rattle.func_args.specs.Arguments.{block, value}
use Rattle.func_math.specs.Criteria.{criterion_of, matches}

-- the values of an argument: of a block those of its cells
abbrev pub all_values : Arg → List Scalar
all_values (One x) = x ∷ []
all_values (Many cells) = cells.values

-- how many of them aren't empty
abbrev pub values_in : Arg → ℕ
values_in argument = count_by (λ x. not (is_empty x)) (all_values argument)

-- COUNTA(L, ..): how many values there are, faults too, without empty ones
abbrev pub counta : List Arg → Result ℤ FaultKind
counta [] = Err Na
counta args = counted (count_by (λ x. not (is_empty x)) (flat_map all_values args))

-- COUNTBLANK(R): how many cells are empty
abbrev pub countblank : List Arg → Result ℤ FaultKind
countblank (a ∷ []) = and_then (block a) (λ cells. counted (count_by is_empty cells.values))
countblank _ = Err Na

-- COUNTIF(R, A): how many cells the criterion matches
abbrev pub count_if : List Arg → Result ℤ FaultKind
count_if (a ∷ b ∷ []) = and_then (block a) (λ cells. and_then (value b) (λ x. counted (count_by (matches (criterion_of x)) cells.values)))
count_if _ = Err Na
