-- What was changed so far, and then what is left, is the whole.
use Rattle.std.proofs.Common.{◌∷◌, length, option_map}
use denote.Text.{Utf8}
use denote.Shadow.{shadow}
use Rattle.std.specs.String.{string_bytes}
use Rattle.formula_parse.specs.Migrated.{migrated_pieces}
use Rattle.formula_parse.proofs.Pieces.{Completes}
use Rattle.formula_parse.proofs.migration.migrated_pieces.Given as goal

abbrev pub invariant-pieces : goal.invariant-pieces
invariant-pieces l = shadow (Utf8 l.rest) × Completes (string_bytes l.new) l.rest (option_map (λ more. 61 ∷ more) (migrated_pieces l.formula))

abbrev pub decreases-pieces : goal.decreases-pieces
decreases-pieces l = length l.rest
