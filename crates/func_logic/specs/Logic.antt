-- The functions of logic, one line each. Source: OpenFormula; that AND, OR and XOR of no truth values are
-- #VALUE! is this project's own.
use Rattle.std.specs.Prelude.{Bool, true, false, not, ◌||◌, if◌then◌else◌, List, [], ◌∷◌, Option, Some, None, Result, Ok, Err}
use Rattle.cell_value.specs.declared.argument.Arg.{Arg}
use Rattle.cell_value.specs.declared.argument.Arg.TheVariants.{One, Many}
use Rattle.cell_value.specs.declared.fault.FaultKind.{FaultKind}
use Rattle.cell_value.specs.declared.fault.FaultKind.TheVariants as fault
use Rattle.cell_value.specs.declared.scalar.Scalar.{Scalar}
use Rattle.cell_value.specs.declared.scalar.Scalar.TheVariants.{Empty, Number, Text, Truth, Fault}
use Rattle.func_args.specs.Answers.{and_then, truth_value}
use Rattle.func_args.specs.Arguments.{truth}
use Rattle.func_logic.specs.declared.function.LogicFn.{LogicFn}
use Rattle.func_logic.specs.declared.function.LogicFn.TheVariants.{And, Or, Xor, Not, True, False, Na, IsError, IsErr, IsNa, IsNumber, IsText, IsLogical, IsBlank}
use Rattle.func_logic.specs.declared.tally.Tally.{Tally}
use Rattle.func_logic.specs.Tally.{tally_of}

-- the tally where no fault decides and there are truth values
abbrev pub decided_by : Option FaultKind → Tally → Result Tally FaultKind
decided_by (Some fault) tally = Err fault
decided_by None tally = if tally.some_true || tally.some_false then Ok tally else Err fault.Value

abbrev pub decided : Tally → Result Tally FaultKind
decided tally = decided_by tally.fault tally

-- AND, OR and XOR of what their arguments list: all of it TRUE, some of it, an odd number of it
abbrev pub of_tally : (Tally → Bool) → List Arg → Scalar
of_tally test args = truth_value (and_then (tally_of args) (λ tally. and_then (decided tally) (λ known. Ok (test known))))

-- NOT(B)
abbrev pub not_value : List Arg → Scalar
not_value (a ∷ []) = truth_value (and_then (truth a) (λ b. Ok (not b)))
not_value _ = Fault fault.Na

-- a function without arguments
abbrev pub of_none : Scalar → List Arg → Scalar
of_none x [] = x
of_none x _ = Fault fault.Na

-- the value of an argument, of any kind; a block is #VALUE!
abbrev pub any_value : Arg → Scalar
any_value (One x) = x
any_value (Many _) = Fault fault.Value

-- whether the value of the one argument passes a test; no fault decides
abbrev pub of_kind : (Scalar → Bool) → List Arg → Scalar
of_kind test (a ∷ []) = Truth (test (any_value a))
of_kind test _ = Fault fault.Na

-- the kinds of values
abbrev pub is_error : Scalar → Bool
is_error (Fault _) = true
is_error _ = false

abbrev pub is_na : Scalar → Bool
is_na (Fault fault.Na) = true
is_na _ = false

abbrev pub is_err : Scalar → Bool
is_err (Fault fault.Na) = false
is_err (Fault _) = true
is_err _ = false

abbrev pub is_number : Scalar → Bool
is_number (Number _) = true
is_number _ = false

abbrev pub is_text : Scalar → Bool
is_text (Text _) = true
is_text _ = false

abbrev pub is_logical : Scalar → Bool
is_logical (Truth _) = true
is_logical _ = false

abbrev pub is_blank : Scalar → Bool
is_blank Empty = true
is_blank _ = false

-- what the functions ask that ask about the kind of a value
abbrev pub is_kind : LogicFn → Scalar → Bool
is_kind IsError x = is_error x
is_kind IsErr x = is_err x
is_kind IsNa x = is_na x
is_kind IsNumber x = is_number x
is_kind IsText x = is_text x
is_kind IsLogical x = is_logical x
is_kind IsBlank x = is_blank x
is_kind _ x = false

-- the value of each function
abbrev pub logic_value : LogicFn → List Arg → Scalar
logic_value And args = of_tally (λ tally. not tally.some_false) args
logic_value Or args = of_tally (λ tally. tally.some_true) args
logic_value Xor args = of_tally (λ tally. tally.odd_true) args
logic_value Not args = not_value args
logic_value True args = of_none (Truth true) args
logic_value False args = of_none (Truth false) args
logic_value Na args = of_none (Fault fault.Na) args
logic_value IsError args = of_kind (is_kind IsError) args
logic_value IsErr args = of_kind (is_kind IsErr) args
logic_value IsNa args = of_kind (is_kind IsNa) args
logic_value IsNumber args = of_kind (is_kind IsNumber) args
logic_value IsText args = of_kind (is_kind IsText) args
logic_value IsLogical args = of_kind (is_kind IsLogical) args
logic_value IsBlank args = of_kind (is_kind IsBlank) args
