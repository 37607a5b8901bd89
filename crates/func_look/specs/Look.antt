-- The look-ups, one line each. Source: OpenFormula; each line's file has what is this project's own.
use Rattle.std.specs.Prelude.{List}
use Rattle.cell_value.specs.declared.argument.Arg.{Arg}
use Rattle.cell_value.specs.declared.scalar.Scalar.{Scalar}
use Rattle.func_args.specs.Answers.{number_value, scalar_value}
use Rattle.func_look.specs.declared.function.LookFn.{LookFn}
use Rattle.func_look.specs.declared.function.LookFn.TheVariants.{Match, VLookup, HLookup, Index, Choose}
use Rattle.func_look.specs.Choose.{choose_value}
use Rattle.func_look.specs.Index.{index_value}
use Rattle.func_look.specs.Lookups.{hlookup, lookup_by, vlookup}
use Rattle.func_look.specs.Matching.{match_value}

-- the value of each function
abbrev pub look_value : LookFn → List Arg → Scalar
look_value Match args = number_value (match_value args)
look_value VLookup args = scalar_value (lookup_by vlookup args)
look_value HLookup args = scalar_value (lookup_by hlookup args)
look_value Index args = scalar_value (index_value args)
look_value Choose args = choose_value args
