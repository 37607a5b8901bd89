-- One argument, read as what a function takes. Source: OpenFormula's conversions; that a block isn't
-- one value is this project's own.
use Rattle.std.specs.Prelude.{ℤ, pos, Bool, Result, Ok, Err, int_div}
use Rattle.fix_num.specs.declared.number.TheConstants.{ONE}
use Rattle.cell_value.specs.declared.argument.Arg.{Arg}
use Rattle.cell_value.specs.declared.argument.Arg.TheVariants.{One, Many}
use Rattle.cell_value.specs.declared.fault.FaultKind.{FaultKind}
use Rattle.cell_value.specs.declared.fault.FaultKind.TheVariants.{Value}
use Rattle.cell_value.specs.declared.scalar.Scalar.{Scalar}
use Rattle.cell_value.specs.declared.scalar.Scalar.TheVariants.{Fault}
use Rattle.cell_value.specs.Cells.{Cells}
use Rattle.cell_value.specs.Scalar.{to_number, to_truth}
use Rattle.func_args.specs.Answers.{and_then}

-- a number
abbrev pub number : Arg → Result ℤ FaultKind
number (One x) = to_number x
number (Many _) = Err Value

-- a number cut toward zero
abbrev pub whole_part : ℤ → ℤ
whole_part number = int_div number (pos ONE)

-- a number cut toward zero, as counts, positions and dates are
abbrev pub whole : Arg → Result ℤ FaultKind
whole argument = and_then (number argument) (λ n. Ok (whole_part n))

-- a truth value
abbrev pub truth : Arg → Result Bool FaultKind
truth (One x) = to_truth x
truth (Many _) = Err Value

-- a value of any kind but a fault
abbrev pub value : Arg → Result Scalar FaultKind
value (One (Fault fault)) = Err fault
value (One x) = Ok x
value (Many _) = Err Value

-- a block
abbrev pub block : Arg → Result Cells FaultKind
block (One (Fault fault)) = Err fault
block (One _) = Err Value
block (Many cells) = Ok cells
