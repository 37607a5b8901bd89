-- LEN, LEFT, RIGHT and MID, which count characters from 1. Source: OpenFormula.
use Rattle.std.specs.Prelude.{ℕ, ◌-◌, ◌||◌, if◌then◌else◌, ℤ, pos, unsigned_abs, int_lt, List, [], ◌∷◌, chars, drop, length, take}
use Rattle.cell_value.specs.declared.argument.Arg.{Arg}
use Rattle.cell_value.specs.declared.fault.FaultKind.TheVariants.{Na, Value}
use Rattle.cell_value.specs.declared.scalar.Scalar.{Scalar}
use Rattle.cell_value.specs.declared.scalar.Scalar.TheVariants.{Fault}
use Rattle.func_args.specs.Answers.{counted, number_value, then_value}
use Rattle.func_args.specs.Arguments.{whole}
use Rattle.func_text.specs.Arguments.{made, one_text, text, text_and_count}

-- LEN(T)
abbrev pub len_value : List Arg → Scalar
len_value args = then_value (one_text args) (λ t. number_value (counted (length (chars t))))

-- the first n characters, or all where there are no more
abbrev pub left : List ℕ → ℤ → Scalar
left t n = if int_lt n (pos 0) then Fault Value else made (take (unsigned_abs n) (chars t))

-- LEFT(T [, N])
abbrev pub left_value : List Arg → Scalar
left_value args = then_value (text_and_count args) (λ p. left p.0 p.1)

-- the last n characters, or all where there are no more
abbrev pub right : List ℕ → ℤ → Scalar
right t n = if int_lt n (pos 0) then Fault Value else made (drop (length (chars t) - unsigned_abs n) (chars t))

-- RIGHT(T [, N])
abbrev pub right_value : List Arg → Scalar
right_value args = then_value (text_and_count args) (λ p. right p.0 p.1)

-- n characters from this position on, or as many as there are
abbrev pub mid : List ℕ → ℤ → ℤ → Scalar
mid t start n =
    if int_lt start (pos 1) || int_lt n (pos 0) then Fault Value
    else made (take (unsigned_abs n) (drop (unsigned_abs start - 1) (chars t)))

-- MID(T, N, N)
abbrev pub mid_value : List Arg → Scalar
mid_value (a ∷ b ∷ c ∷ []) = then_value (text a) (λ t. then_value (whole b) (λ start. then_value (whole c) (λ n. mid t start n)))
mid_value _ = Fault Na
