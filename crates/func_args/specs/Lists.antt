-- Arguments in a list, as SUM takes: a block counts by its cells, row by row, where only numbers and
-- faults count, and any other argument is read as a number. Source: OpenFormula's number sequences.
use Rattle.std.specs.Prelude.{List, [], ◌∷◌, Result, Ok, Err}
use Rattle.std.specs.List.{flat_map}
use Rattle.cell_value.specs.declared.argument.Arg.{Arg}
use Rattle.cell_value.specs.declared.argument.Arg.TheVariants.{One, Many}
use Rattle.cell_value.specs.declared.fault.FaultKind.{FaultKind}
use Rattle.cell_value.specs.declared.fault.FaultKind.TheVariants.{Na}
use Rattle.cell_value.specs.declared.scalar.Scalar.{Scalar}
use Rattle.cell_value.specs.declared.summary.Summary.{Summary}
use Rattle.cell_value.specs.Scalar.{to_number}
use Rattle.cell_value.specs.Summary.{summary_of}
use Rattle.func_args.specs.Answers.{number_value}

-- the values that one argument adds to the list
abbrev pub listed : Arg → List Scalar
listed (One x) = number_value (to_number x) ∷ []
listed (Many cells) = cells.values

-- the values of a list of at least one argument, in order
abbrev pub list_values : List Arg → Result (List Scalar) FaultKind
list_values [] = Err Na
list_values args = Ok (flat_map listed args)

-- what their numbers come to
abbrev pub list_summary : List Arg → Result Summary FaultKind
list_summary [] = Err Na
list_summary args = Ok (summary_of (flat_map listed args))
