-- A parse without a fault found what the words mean.
use Rattle.std.proofs.Common.{map, subst}
use Rattle.std.specs.Prelude.{string_bytes}
use Rattle.clap.specs.Words.{app_of, found_of, rows_of}
use Rattle.command_words.specs.Words.{Answers, given_of}
use Rattle.command_words.proofs.Meanings.{parsed}
use Rattle.command_words.proofs.Ranges.{answered-in_range}
use Rattle.command_words.proofs.reading.words.Goals as goal

pub returns-in-Ok-clause-answers : goal.returns-in-Ok-clause-answers
returns-in-Ok-clause-answers c =
    let means = parsed (app_of c.in_ok-command.command) (map string_bytes c.args.words.now) (rows_of (found_of c.in-Ok.matches)) c.in_ok-command.ensures c.in-Ok.ensures.kinds (λ simple. (c.in-Ok.ensures.matches simple).0) in
    subst (Answers c.said.result) means c.said.ensures

pub returns-in-Ok-clause-range : goal.returns-in-Ok-clause-range
returns-in-Ok-clause-range c = answered-in_range c.said.result (given_of (rows_of (found_of c.in-Ok.matches))) c.said.ensures
