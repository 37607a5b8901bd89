-- What the rule of a custom function answers. Source: this project's own.
use Rattle.std.specs.Prelude.{ℤ, Result, Ok, Err, ⊤}
use Rattle.cell_value.specs.declared.fault.FaultKind.{FaultKind}
use Rattle.cell_value.specs.declared.scalar.Scalar.{Scalar}
use Rattle.cell_value.specs.declared.scalar.Scalar.TheVariants.{Number, Fault}
use Rattle.cell_value.specs.Scalar.{to_number}
use Rattle.fix_num.specs.Number.{IsInside}
use Rattle.custom_fn.specs.declared.rule.Rule.{Rule}
use Rattle.custom_fn.specs.declared.rule.Rule.TheVariants.{Bands, Tiers}
use Rattle.custom_fn.specs.Pairs.{band_of}
use Rattle.custom_fn.specs.Answer.{banded, tiered}

-- a value that can be: its number, if it is one, lies inside the limits
abbrev pub IsValue : Scalar → Type 0
IsValue (Number m) = IsInside m
IsValue _ = ⊤

-- what a rule answers of a number
abbrev pub number_value : Rule → ℤ → Scalar
number_value (Bands pairs) x = banded (band_of x pairs)
number_value (Tiers pairs) x = tiered x pairs

-- what a rule answers of what was read as a number, or of the fault that it isn't one
abbrev pub read_value : Rule → Result ℤ FaultKind → Scalar
read_value rule (Ok x) = number_value rule x
read_value rule (Err fault) = Fault fault

-- what a rule answers of a value
abbrev pub rule_value : Rule → Scalar → Scalar
rule_value rule x = read_value rule (to_number x)
