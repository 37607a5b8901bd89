-- The value that a parse found stands in its rows.
use Rattle.std.proofs.Common.{◌∙◌}
use Rattle.clap.specs.Matches.{found_of}
use Rattle.command_words.proofs.FoundRows.{first-value}
use Rattle.command_words.proofs.reading.value_of.Goals as goal

pub returns : goal.returns
returns c = c.get_str.ensures ∙ first-value (found_of c.args.matches.now) c.args.name.now
