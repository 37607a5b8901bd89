use Rattle.fix_num.specs.Text.{text_of}
use Rattle.session_operations.proofs.GivenCells.{number_says}
use Rattle.session_operations.proofs.parts.Parts.set_number.Goals as goal

pub give-requires : goal.give-requires
give-requires c = record { fits = c.requires; says = (text_of c.args.number, number_says c.args.number c.size-size.ensures.inside) }

pub returns-clause-turns : goal.returns-clause-turns
returns-clause-turns c = c.give.ensures.turns (text_of c.args.number) (number_says c.args.number c.size-size.ensures.inside)
