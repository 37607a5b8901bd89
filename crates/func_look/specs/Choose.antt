-- CHOOSE. Source: OpenFormula.
use Rattle.std.specs.Prelude.{◌-◌, if◌then◌else◌, ℤ, pos, unsigned_abs, int_lt, List, ◌∷◌, Option, Some, None, Result, Ok, Err, slice_get}
use Rattle.cell_value.specs.declared.argument.Arg.{Arg}
use Rattle.cell_value.specs.declared.argument.Arg.TheVariants.{One, Many}
use Rattle.cell_value.specs.declared.fault.FaultKind.{FaultKind}
use Rattle.cell_value.specs.declared.fault.FaultKind.TheVariants.{Na, Value}
use Rattle.cell_value.specs.declared.scalar.Scalar.{Scalar}
use Rattle.cell_value.specs.declared.scalar.Scalar.TheVariants.{Fault}
use Rattle.func_args.specs.Arguments.{whole}

-- the value of an argument, of any kind; a block is #VALUE!
abbrev pub one_value : Arg → Scalar
one_value (One x) = x
one_value (Many _) = Fault Value

-- the argument's value, where there is one
abbrev pub value_or_fault : Option Arg → Scalar
value_or_fault (Some argument) = one_value argument
value_or_fault None = Fault Value

-- the value at this position among these arguments, from 1; outside #VALUE!
abbrev pub chosen : List Arg → Result ℤ FaultKind → Scalar
chosen args (Ok number) = if int_lt number (pos 1) then Fault Value else value_or_fault (slice_get args (unsigned_abs number - 1))
chosen args (Err fault) = Fault fault

-- CHOOSE(N, A, ..)
abbrev pub choose_value : List Arg → Scalar
choose_value (a ∷ b ∷ rest) = chosen (b ∷ rest) (whole a)
choose_value _ = Fault Na
