-- Answers on the way to the value of a function: a value, or the fault that came first. Source: this
-- project's own.
use Rattle.std.specs.Prelude.{ℕ, ℤ, pos, ◌*ℤ◌, Bool, Result, Ok, Err}
use Rattle.fix_num.specs.declared.error.NumError.{NumError}
use Rattle.fix_num.specs.Number.{within}
use Rattle.fix_num.specs.declared.number.TheConstants.{ONE}
use Rattle.cell_value.specs.declared.fault.FaultKind.{FaultKind}
use Rattle.cell_value.specs.declared.scalar.Scalar.{Scalar}
use Rattle.cell_value.specs.declared.scalar.Scalar.TheVariants.{Number, Truth, Fault}
use Rattle.cell_value.specs.Fault.{fault_of_error}

-- the first answer's value goes on to the second; its fault stays
abbrev pub and_then : {A B E : Type 0} → Result A E → (A → Result B E) → Result B E
and_then (Ok x) next = next x
and_then (Err e) next = Err e

-- the number of a calculation, or the fault that it failed by
abbrev pub calculated : Result ℤ NumError → Result ℤ FaultKind
calculated (Ok number) = Ok number
calculated (Err error) = Err (fault_of_error error)

-- a number of so many millionths: #NUM! where that is out of range
abbrev pub gives : ℤ → Result ℤ FaultKind
gives millionths = calculated (within millionths)

-- so many as a number
abbrev pub counted : ℕ → Result ℤ FaultKind
counted count = gives (pos count *ℤ pos ONE)

-- a number as a value, or the fault in its place
abbrev pub number_value : Result ℤ FaultKind → Scalar
number_value (Ok number) = Number number
number_value (Err fault) = Fault fault

-- a truth value as a value, or the fault in its place
abbrev pub truth_value : Result Bool FaultKind → Scalar
truth_value (Ok truth) = Truth truth
truth_value (Err fault) = Fault fault

-- a value of any kind, or the fault in its place
abbrev pub scalar_value : Result Scalar FaultKind → Scalar
scalar_value (Ok x) = x
scalar_value (Err fault) = Fault fault

-- the value of what was read, or the fault in its place
abbrev pub then_value : {A : Type 0} → Result A FaultKind → (A → Scalar) → Scalar
then_value (Ok x) value = value x
then_value (Err fault) value = Fault fault
