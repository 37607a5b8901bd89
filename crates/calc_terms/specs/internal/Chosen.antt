-- What a function that chooses does once it knows its first argument.
use Rattle.std.specs.Prelude.{ℕ, ◌==◌, ◌||◌, nat_lt, Bool, true, false, if◌then◌else◌, ℤ, pos, unsigned_abs, int_lt, Result, Ok, Err}
use Rattle.cell_value.specs.declared.fault.FaultKind.{FaultKind}
use Rattle.cell_value.specs.declared.fault.FaultKind.TheVariants.{Na, Value}
use Rattle.cell_value.specs.declared.scalar.Scalar.{Scalar}
use Rattle.cell_value.specs.declared.scalar.Scalar.TheVariants.{Truth, Fault}
use Rattle.cell_value.specs.Scalar.{to_number, to_truth}
use Rattle.func_args.specs.Arguments.{whole_part}
use Rattle.func_logic.specs.Logic.{is_error, is_na}
use Rattle.calc_terms.specs.declared.choice.Choice.{Choice}
use Rattle.calc_terms.specs.declared.choice.Choice.TheVariants as choice
use Rattle.calc_terms.specs.declared.function.ChoiceFn.{ChoiceFn}
use Rattle.calc_terms.specs.declared.function.ChoiceFn.TheVariants.{If, IfError, IfNa, Choose}

abbrev pub wrong_count : Choice
wrong_count = choice.Value (Fault Na)

-- IF: FALSE where the third is absent
abbrev pub by_truth : Result Bool FaultKind → ℕ → Choice
by_truth (Err fault) count = choice.Value (Fault fault)
by_truth (Ok true) count = choice.At 1
by_truth (Ok false) count = if count == 2 then choice.Value (Truth false) else choice.At 2

abbrev pub if_choice : Scalar → ℕ → Choice
if_choice x count = if count == 2 || count == 3 then by_truth (to_truth x) count else wrong_count

-- IFERROR and IFNA
abbrev pub unless_choice : Bool → Scalar → ℕ → Choice
unless_choice fails x count = if count == 2 then (if fails then choice.At 1 else choice.Value x) else wrong_count

-- CHOOSE
abbrev pub by_position : ℤ → ℕ → Choice
by_position n count =
    if int_lt n (pos 1) then choice.Value (Fault Value)
    else if nat_lt (unsigned_abs n) count then choice.At (unsigned_abs n)
    else choice.Value (Fault Value)

abbrev pub by_number : Result ℤ FaultKind → ℕ → Choice
by_number (Err fault) count = choice.Value (Fault fault)
by_number (Ok number) count = by_position (whole_part number) count

abbrev pub choose_choice : Scalar → ℕ → Choice
choose_choice x count = if nat_lt 1 count then by_number (to_number x) count else wrong_count

abbrev pub chosen : ChoiceFn → Scalar → ℕ → Choice
chosen If x count = if_choice x count
chosen IfError x count = unless_choice (is_error x) x count
chosen IfNa x count = unless_choice (is_na x) x count
chosen Choose x count = choose_choice x count
