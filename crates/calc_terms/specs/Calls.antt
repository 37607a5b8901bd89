-- The value of a call, of what its arguments became. Source: OpenFormula; custom functions are this project's own.
use Rattle.std.specs.Prelude.{ℕ, ℤ, List, [], ◌∷◌, map, Option, Some, None}
use Rattle.cell_addr.specs.declared.place.Place.{Place}
use Rattle.cell_value.specs.declared.argument.Arg.{Arg}
use Rattle.cell_value.specs.declared.fault.FaultKind.TheVariants.{Na, Name}
use Rattle.cell_value.specs.declared.scalar.Scalar.{Scalar}
use Rattle.cell_value.specs.declared.scalar.Scalar.TheVariants.{Fault}
use Rattle.custom_fn.specs.Rule.{rule_value}
use Rattle.custom_fn.specs.declared.rule.Rule.{Rule}
use Rattle.func_date.specs.Dates.{date_value}
use Rattle.func_logic.specs.Logic.{logic_value}
use Rattle.func_look.specs.Look.{look_value}
use Rattle.func_math.specs.Math.{math_value}
use Rattle.func_text.specs.Texts.{texts_value}
use Rattle.calc_terms.specs.Choices.{choice_value}
use Rattle.calc_terms.specs.Places.{place_value}
use Rattle.calc_terms.specs.References.{argument_block, argument_value, data_arguments}
use Rattle.calc_terms.specs.Words.{takes_block}
use Rattle.calc_terms.specs.World.{World}
use Rattle.calc_terms.specs.declared.argument.Argument.{Argument}
use Rattle.calc_terms.specs.declared.function.DataFn.{DataFn}
use Rattle.calc_terms.specs.declared.function.DataFn.TheVariants as kind
use Rattle.calc_terms.specs.declared.function.Function.{Function}
use Rattle.calc_terms.specs.declared.function.Function.TheVariants as function

-- a custom function takes one value
abbrev pub custom_value : Rule → List Scalar → Scalar
custom_value rule (x ∷ []) = rule_value rule x
custom_value rule _ = Fault Na

-- the value of a function of data
unfoldable pub data_value : DataFn → ℤ → List Arg → Scalar
data_value (kind.Math f) today args = math_value f args
data_value (kind.Logic f) today args = logic_value f args
data_value (kind.Text f) today args = texts_value f args
data_value (kind.Look f) today args = look_value f args
data_value (kind.Date f) today args = date_value f args today

-- the value of a call of the custom function of a word; a word of none is #NAME?
abbrev pub custom_call : World → Option (List ℕ × Rule) → List Argument → Scalar
custom_call w (Some custom) args = custom_value custom.1 (map (argument_value w) args)
custom_call w None args = Fault Name

-- the value of a call in a formula whose home is at this place: of the function that every workbook has by its word,
-- or else of the custom function
abbrev pub call_value : World → Place → Option Function → Option (List ℕ × Rule) → List Argument → Scalar
call_value w home (Some (function.Choice f)) custom args = choice_value f (map (argument_value w) args)
call_value w home (Some (function.Place f)) custom args = place_value f home (map argument_block args)
call_value w home (Some (function.Data f)) custom args = data_value f w.today (data_arguments w (takes_block f) 0 args)
call_value w home None custom args = custom_call w custom args
