-- CONCATENATE and REPT. Source: OpenFormula.
use Rattle.std.specs.Prelude.{ℕ, if◌then◌else◌, ℤ, pos, unsigned_abs, int_lt, List, [], ◌∷◌, ◌++◌, Result, Ok}
use Rattle.std.specs.List.{repeat}
use Rattle.cell_value.specs.declared.argument.Arg.{Arg}
use Rattle.cell_value.specs.declared.fault.FaultKind.{FaultKind}
use Rattle.cell_value.specs.declared.fault.FaultKind.TheVariants.{Na, Value}
use Rattle.cell_value.specs.declared.scalar.Scalar.{Scalar}
use Rattle.cell_value.specs.declared.scalar.Scalar.TheVariants.{Fault}
use Rattle.cell_value.specs.Scalar.{made_text}
use Rattle.func_args.specs.Answers.{and_then, then_value}
use Rattle.func_args.specs.Arguments.{whole}
use Rattle.func_text.specs.Arguments.{text}

-- the texts of all arguments, one after another
abbrev pub joined : List Arg → Result (List ℕ) FaultKind
joined [] = Ok []
joined (a ∷ args) = and_then (text a) (λ t. and_then (joined args) (λ rest. Ok (t ++ rest)))

-- CONCATENATE(T, ..), of at least one text
abbrev pub concatenate_value : List Arg → Scalar
concatenate_value [] = Fault Na
concatenate_value args = then_value (joined args) made_text

-- the text n times
abbrev pub rept : List ℕ → ℤ → Scalar
rept t n = if int_lt n (pos 0) then Fault Value else made_text (repeat (unsigned_abs n) t)

-- REPT(T, N)
abbrev pub rept_value : List Arg → Scalar
rept_value (a ∷ b ∷ []) = then_value (text a) (λ t. then_value (whole b) (λ n. rept t n))
rept_value _ = Fault Na
