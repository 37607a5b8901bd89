-- The custom function of which calls are counted. Source: this project's own.
use Rattle.std.specs.Prelude.{[], ◌∷◌, pos}
use Rattle.custom_fn.specs.declared.rule.Rule.{Rule}
use Rattle.custom_fn.specs.declared.rule.Rule.TheVariants.{Bands}
use Rattle.fix_num.specs.declared.number.TheConstants.{ONE}

-- it answers 1 of every number from 0 on
abbrev pub counted : Rule
counted = Bands ((pos 0, pos ONE) ∷ [])
