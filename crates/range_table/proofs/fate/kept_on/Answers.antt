use Rattle.range_table.proofs.Moving.{inside_after}
use Rattle.range_table.proofs.fate.kept_on.Goals as goal

pub returns-else-gives_up-clause-inside : goal.returns-else-gives_up-clause-inside
returns-else-gives_up-clause-inside c = inside_after c.args.s.now c.args.b c.moved_block.result c.moved_block.ensures c.requires.sound c.requires.inside
