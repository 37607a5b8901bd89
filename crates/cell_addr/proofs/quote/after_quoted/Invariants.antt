use Rattle.std.proofs.Common.{◌≡◌, length, option_map}
use denote.Text.{Utf8}
use denote.Shadow.{shadow}
use Rattle.cell_addr.specs.Quoted.{quoted}
use Rattle.cell_addr.proofs.quote.after_quoted.Given as goal

abbrev pub invariant-pieces : goal.invariant-pieces
invariant-pieces l = shadow (Utf8 l.rest) × (option_map (λ p. p.1) (quoted l.quote l.rest) ≡ option_map (λ p. p.1) (quoted l.quote l.text))

abbrev pub decreases-pieces : goal.decreases-pieces
decreases-pieces l = length l.rest
