use Rattle.std.proofs.Common.{◌≡◌, length}
use denote.Text.{Utf8}
use denote.Shadow.{shadow}
use Rattle.std.specs.String.{string_bytes}
use Rattle.cell_addr.specs.Quoted.{quoted}
use Rattle.cell_addr.proofs.Quoted.{with_bytes}
use Rattle.cell_addr.proofs.quote.quoted_text.Given as goal

abbrev pub invariant-pieces : goal.invariant-pieces
invariant-pieces l = shadow (Utf8 l.rest) × (quoted l.quote l.text ≡ with_bytes (string_bytes l.content) (quoted l.quote l.rest))

abbrev pub decreases-pieces : goal.decreases-pieces
decreases-pieces l = length l.rest
