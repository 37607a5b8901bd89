-- The program's two tariffs as rules. Source: this project's own.
use Rattle.custom_fn.specs.declared.rule.Rule.{Rule}
use Rattle.custom_fn.specs.declared.rule.Rule.TheVariants.{Bands, Tiers}
use Rattle.tariffs.specs.declared.tables.TheConstants.{POSTAGE, LEVY}

-- the price of a weight, by bands
abbrev pub postage : Rule
postage = Bands POSTAGE

-- a levy on an amount, by tiers
abbrev pub levy : Rule
levy = Tiers LEVY
