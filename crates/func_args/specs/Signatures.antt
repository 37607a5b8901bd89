-- The signatures that several functions have. The wrong number of arguments is #N/A before any is
-- read; then they are read from the left, and the first fault decides. Source: this project's own.
use Rattle.std.specs.Prelude.{ℤ, List, [], ◌∷◌, Result, Ok, Err}
use Rattle.cell_value.specs.declared.argument.Arg.{Arg}
use Rattle.cell_value.specs.declared.fault.FaultKind.{FaultKind}
use Rattle.cell_value.specs.declared.fault.FaultKind.TheVariants.{Na}
use Rattle.func_args.specs.Answers.{and_then}
use Rattle.func_args.specs.Arguments.{number, whole}

-- N
abbrev pub one_number : List Arg → Result ℤ FaultKind
one_number (a ∷ []) = number a
one_number _ = Err Na

-- N, cut toward zero
abbrev pub one_whole : List Arg → Result ℤ FaultKind
one_whole (a ∷ []) = whole a
one_whole _ = Err Na

-- N, N
abbrev pub two_numbers : List Arg → Result (ℤ × ℤ) FaultKind
two_numbers (a ∷ b ∷ []) = and_then (number a) (λ m. and_then (number b) (λ n. Ok (m, n)))
two_numbers _ = Err Na

-- N [, N], the second cut toward zero, or this where it is absent
abbrev pub number_and_whole : List Arg → ℤ → Result (ℤ × ℤ) FaultKind
number_and_whole (a ∷ []) absent = and_then (number a) (λ m. Ok (m, absent))
number_and_whole (a ∷ b ∷ []) absent = and_then (number a) (λ m. and_then (whole b) (λ n. Ok (m, n)))
number_and_whole _ absent = Err Na
