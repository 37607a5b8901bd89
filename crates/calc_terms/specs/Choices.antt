-- The functions that choose one of their arguments: only the chosen one's fault counts. Source: OpenFormula.
use Rattle.std.specs.Prelude.{◌≡◌, ◌<◌, ◌≤◌, ⊤, ℕ, suc, length, ◌-◌, Bool, false, if◌then◌else◌, ℤ, pos, unsigned_abs, int_lt, List, [], ◌∷◌, Option, Some, None, slice_get}
use Rattle.cell_value.specs.declared.fault.FaultKind.TheVariants.{Na, Value}
use Rattle.cell_value.specs.declared.scalar.Scalar.{Scalar}
use Rattle.cell_value.specs.declared.scalar.Scalar.TheVariants.{Truth, Fault}
use Rattle.cell_value.specs.Scalar.{to_number, to_truth}
use Rattle.func_args.specs.Answers.{then_value}
use Rattle.func_args.specs.Arguments.{whole_part}
use Rattle.func_logic.specs.Logic.{is_error, is_na}
use Rattle.calc_terms.specs.declared.choice.Choice.{Choice}
use Rattle.calc_terms.specs.declared.choice.Choice.TheVariants as choice
use Rattle.calc_terms.specs.declared.function.ChoiceFn.{ChoiceFn}
use Rattle.calc_terms.specs.declared.function.ChoiceFn.TheVariants.{If, IfError, IfNa, Choose}

-- IF(B, A [, A]): FALSE where the third is absent
abbrev pub if_value : List Scalar → Scalar
if_value (test ∷ a ∷ []) = then_value (to_truth test) (λ holds. if holds then a else Truth false)
if_value (test ∷ a ∷ b ∷ []) = then_value (to_truth test) (λ holds. if holds then a else b)
if_value _ = Fault Na

-- IFERROR(A, A), IFNA(A, A): the first, or the second where the first is a fault, or `#N/A`
abbrev pub unless : (Scalar → Bool) → List Scalar → Scalar
unless fails (a ∷ b ∷ []) = if fails a then b else a
unless fails _ = Fault Na

-- the value at this position, from 1; outside #VALUE!
abbrev pub value_or_fault : Option Scalar → Scalar
value_or_fault (Some x) = x
value_or_fault None = Fault Value

abbrev pub at_position : List Scalar → ℤ → Scalar
at_position values number = if int_lt number (pos 1) then Fault Value else value_or_fault (slice_get values (unsigned_abs number - 1))

-- CHOOSE(N, A, ..)
abbrev pub choose_value : List Scalar → Scalar
choose_value (number ∷ a ∷ rest) = then_value (to_number number) (λ n. at_position (a ∷ rest) (whole_part n))
choose_value _ = Fault Na

-- the value of each function, of the values of its arguments
unfoldable pub choice_value : ChoiceFn → List Scalar → Scalar
choice_value If values = if_value values
choice_value IfError values = unless is_error values
choice_value IfNa values = unless is_na values
choice_value Choose values = choose_value values

-- the choice is a value, or one of so many arguments behind the first
abbrev pub IsAmong : ℕ → Choice → Type 0
IsAmong count (choice.Value x) = ⊤
IsAmong count (choice.At place) = (1 ≤ place) × (place < count)

-- the value of a choice among these
abbrev pub picked : Choice → List Scalar → Scalar
picked (choice.Value x) values = x
picked (choice.At place) values = value_or_fault (slice_get values place)

-- the choice gives the function's value, of so many arguments of which the first has this value
abbrev pub Decides : ChoiceFn → Scalar → ℕ → Choice → Type 0
Decides f first count made = (rest : List Scalar) → suc (length rest) ≡ count → picked made (first ∷ rest) ≡ choice_value f (first ∷ rest)
