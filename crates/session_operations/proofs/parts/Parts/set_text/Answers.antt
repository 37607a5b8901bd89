use Rattle.book_model.specs.Content.{text_given}
use Rattle.session_operations.proofs.GivenCells.{text_says}
use Rattle.session_operations.proofs.parts.Parts.set_text.Goals as goal

pub give-requires : goal.give-requires
give-requires c = record { fits = c.requires; says = (text_given c.args.text.now, text_says c.args.text.now c.in_ok-copy.copy c.in_ok-long.long c.in_ok-copy.ensures c.in_ok-long.ensures) }

pub returns-clause-turns : goal.returns-clause-turns
returns-clause-turns c = c.give.ensures.turns (text_given c.args.text.now) (text_says c.args.text.now c.in_ok-copy.copy c.in_ok-long.long c.in_ok-copy.ensures c.in_ok-long.ensures)
