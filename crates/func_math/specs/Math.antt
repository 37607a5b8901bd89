-- The functions of numbers, one line each. Source: OpenFormula; each line's file has what is this
-- project's own.
use Rattle.std.specs.Prelude.{ℤ, pos, not, List, Result, Ok}
use Rattle.fix_num.specs.Number.{floor_of, power_of}
use Rattle.cell_value.specs.declared.argument.Arg.{Arg}
use Rattle.cell_value.specs.declared.fault.FaultKind.{FaultKind}
use Rattle.cell_value.specs.declared.scalar.Scalar.{Scalar}
use Rattle.func_args.specs.Answers.{and_then, calculated, gives, number_value, truth_value}
use Rattle.func_args.specs.Lists.{list_summary}
use Rattle.func_args.specs.Signatures.{one_number, one_whole, two_numbers, number_and_whole}
use Rattle.func_math.specs.declared.function.MathFn.{MathFn}
use Rattle.func_math.specs.declared.function.MathFn.TheVariants.{Sum, Average, Min, Max, Count, CountA, CountBlank, Product, SumIf, CountIf, Abs, Sign, Int, Trunc, Round, RoundUp, RoundDown, Mod, Quotient, Power, IsEven, IsOdd}
use Rattle.func_math.specs.Counts.{counta, countblank, count_if}
use Rattle.func_math.specs.Division.{modulo, cut_quotient}
use Rattle.func_math.specs.Products.{product_value}
use Rattle.func_math.specs.Rounding.{absolute, sign_of, round_to, raised_to, cut_to, is_even}
use Rattle.func_math.specs.SumIf.{sum_if}
use Rattle.func_math.specs.Sums.{summary_answer}

-- a number of one number
abbrev pub of_number : (ℤ → Result ℤ FaultKind) → List Arg → Scalar
of_number f args = number_value (and_then (one_number args) f)

-- a number of two numbers
abbrev pub of_two : (ℤ → ℤ → Result ℤ FaultKind) → List Arg → Scalar
of_two f args = number_value (and_then (two_numbers args) (λ p. f p.0 p.1))

-- a number of a number and of places, 0 where they are absent
abbrev pub of_places : (ℤ → ℤ → Result ℤ FaultKind) → List Arg → Scalar
of_places f args = number_value (and_then (number_and_whole args (pos 0)) (λ p. f p.0 p.1))

-- the value of each function
abbrev pub math_value : MathFn → List Arg → Scalar
math_value Sum args = number_value (and_then (list_summary args) (summary_answer Sum))
math_value Average args = number_value (and_then (list_summary args) (summary_answer Average))
math_value Min args = number_value (and_then (list_summary args) (summary_answer Min))
math_value Max args = number_value (and_then (list_summary args) (summary_answer Max))
math_value Count args = number_value (and_then (list_summary args) (summary_answer Count))
math_value CountA args = number_value (counta args)
math_value CountBlank args = number_value (countblank args)
math_value Product args = number_value (product_value args)
math_value SumIf args = number_value (sum_if args)
math_value CountIf args = number_value (count_if args)
math_value Abs args = of_number absolute args
math_value Sign args = of_number sign_of args
math_value Int args = of_number (λ n. gives (floor_of n)) args
math_value Trunc args = of_places cut_to args
math_value Round args = of_places round_to args
math_value RoundUp args = of_places raised_to args
math_value RoundDown args = of_places cut_to args
math_value Mod args = of_two modulo args
math_value Quotient args = of_two cut_quotient args
math_value Power args = of_two (λ a b. calculated (power_of a b)) args
math_value IsEven args = truth_value (and_then (one_whole args) (λ n. Ok (is_even n)))
math_value IsOdd args = truth_value (and_then (one_whole args) (λ n. Ok (not (is_even n))))
