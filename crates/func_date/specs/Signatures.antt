-- The signatures of functions of dates: numbers that are cut toward zero. The wrong number of arguments is #N/A
-- before any is read; then they are read from the left, and the first fault decides. Source: this project's own.
use Rattle.std.specs.Prelude.{ℤ, pos, List, [], ◌∷◌, Result, Ok, Err}
use Rattle.cell_value.specs.declared.argument.Arg.{Arg}
use Rattle.cell_value.specs.declared.fault.FaultKind.{FaultKind}
use Rattle.cell_value.specs.declared.fault.FaultKind.TheVariants.{Na}
use Rattle.fix_num.specs.declared.number.TheConstants.{ONE}
use Rattle.func_args.specs.Answers.{and_then}
use Rattle.func_args.specs.Arguments.{number, whole}

-- N, N
abbrev pub two_wholes : List Arg → Result (ℤ × ℤ) FaultKind
two_wholes (a ∷ b ∷ []) = and_then (whole a) (λ m. and_then (whole b) (λ n. Ok (m, n)))
two_wholes _ = Err Na

-- N, N, N
abbrev pub three_wholes : List Arg → Result (ℤ × ℤ × ℤ) FaultKind
three_wholes (a ∷ b ∷ c ∷ []) = and_then (whole a) (λ l. and_then (whole b) (λ m. and_then (whole c) (λ n. Ok (l, m, n))))
three_wholes _ = Err Na

-- N [, N], the second as it is, and 1 where it is absent
abbrev pub whole_and_kind : List Arg → Result (ℤ × ℤ) FaultKind
whole_and_kind (a ∷ []) = and_then (whole a) (λ m. Ok (m, pos ONE))
whole_and_kind (a ∷ b ∷ []) = and_then (whole a) (λ m. and_then (number b) (λ n. Ok (m, n)))
whole_and_kind _ = Err Na
