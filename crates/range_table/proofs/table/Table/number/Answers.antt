use Rattle.range_table.proofs.Numbers.{stands_at}
use Rattle.range_table.proofs.table.Table.number.Goals as goal

pub returns-clause-found : goal.returns-clause-found
returns-clause-found c = stands_at c.args.self.now.keys.keys c.args.area c.get_index_of.result c.get_index_of.ensures.index
