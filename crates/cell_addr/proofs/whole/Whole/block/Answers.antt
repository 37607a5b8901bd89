use Rattle.cell_addr.proofs.Wholes.{whole_block-inside}
use Rattle.cell_addr.proofs.whole.Whole.block.Goals as goal

pub returns-clause-inside : goal.returns-clause-inside
returns-clause-inside c = rw (c.with_span.ensures, c.all_cells.ensures, c.span.ensures) (λ i. whole_block-inside c.args.self i)
