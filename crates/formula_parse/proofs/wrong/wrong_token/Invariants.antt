use Rattle.std.proofs.Common.{◌≡◌, List, length, Some}
use denote.Text.{Utf8}
use denote.Shadow.{shadow}
use Rattle.formula_tree.specs.Token.{Token}
use Rattle.formula_parse.specs.Fronts.{TokensThen}
use Rattle.formula_parse.specs.internal.Progress.{frames_of, start, reached}
use Rattle.formula_parse.proofs.wrong.wrong_token.Given as goal

-- the tokens so far reach what was read last and what is open
abbrev pub invariant-tokens : goal.invariant-tokens
invariant-tokens l = shadow (Utf8 l.next) × ((before : List Token) × TokensThen l.formula before l.next × (reached start before ≡ Some (l.stage, frames_of l.frames)))

abbrev pub decreases-tokens : goal.decreases-tokens
decreases-tokens l = length l.next
