-- The books that a parse found stand in its rows.
use Rattle.std.proofs.Common.{◌∙◌, ap, [], ℕ, List, Option, codes}
use Rattle.std.specs.Prelude.{unwrap_or}
use Rattle.clap.specs.Matches.{found_of}
use Rattle.command_words.proofs.FoundRows.{all-values}
use Rattle.command_words.proofs.reading.said.Goals as goal

pub said_beside-requires : goal.said_beside-requires
said_beside-requires c = ap (λ (o : Option (List (List ℕ))). unwrap_or o []) (c.in-Some.ensures ∙ all-values (found_of c.args.matches.now) (codes "book"))

pub said_beside-requires-in-None : goal.said_beside-requires-in-None
said_beside-requires-in-None c = ap (λ (o : Option (List (List ℕ))). unwrap_or o []) (c.in-None.ensures ∙ all-values (found_of c.args.matches.now) (codes "book"))
