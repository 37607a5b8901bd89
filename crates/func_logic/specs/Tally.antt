-- The truth values of a list of arguments, as AND takes: of a block the cells count, row by row, where only
-- truth values, numbers and faults do, and any other argument is read as a truth value. Source: OpenFormula's
-- logical sequences; that texts and empty cells of a block are passed over is this project's own.
use Rattle.std.specs.Prelude.{Bool, false, not, ◌||◌, if◌then◌else◌, List, [], ◌∷◌, map, Some, None, Result, Ok, Err}
use Rattle.std.specs.Option.{option_or}
use Rattle.cell_value.specs.declared.argument.Arg.{Arg}
use Rattle.cell_value.specs.declared.argument.Arg.TheVariants.{One, Many}
use Rattle.cell_value.specs.declared.fault.FaultKind.{FaultKind}
use Rattle.cell_value.specs.declared.fault.FaultKind.TheVariants.{Na}
use Rattle.cell_value.specs.declared.scalar.Scalar.{Scalar}
use Rattle.cell_value.specs.declared.scalar.Scalar.TheVariants as scalar
use Rattle.cell_value.specs.Scalar.{to_truth}
use Rattle.func_logic.specs.declared.tally.Tally.{Tally}

-- of no truth values
abbrev pub no_truths : Tally
no_truths = record { some_true = false; some_false = false; odd_true = false; fault = None }

-- of one truth value, or of the fault in its place
abbrev pub alone : Result Bool FaultKind → Tally
alone (Ok truth) = record { some_true = truth; some_false = not truth; odd_true = truth; fault = None }
alone (Err fault) = record { some_true = false; some_false = false; odd_true = false; fault = Some fault }

-- of the truth values of both; the first one's fault comes first
abbrev pub joined : Tally → Tally → Tally
joined s t = record {
  some_true = s.some_true || t.some_true;
  some_false = s.some_false || t.some_false;
  odd_true = if s.odd_true then not t.odd_true else t.odd_true;
  fault = option_or s.fault t.fault;
}

-- of one after another
abbrev pub together : Tally → List Tally → Tally
together s [] = s
together s (t ∷ ts) = together (joined s t) ts

-- of the value of a cell in a block
abbrev pub of_cell : Scalar → Tally
of_cell scalar.Empty = no_truths
of_cell (scalar.Text _) = no_truths
of_cell x = alone (to_truth x)

-- of an argument
abbrev pub of_argument : Arg → Tally
of_argument (One x) = alone (to_truth x)
of_argument (Many cells) = together no_truths (map of_cell cells.values)

-- of a list of at least one argument
abbrev pub tally_of : List Arg → Result Tally FaultKind
tally_of [] = Err Na
tally_of args = Ok (together no_truths (map of_argument args))
