use Rattle.dep_graph.proofs.Growing.{once_more}
use Rattle.dep_graph.proofs.net.put_last.Goals as goal

pub returns-clause-once : goal.returns-clause-once
returns-clause-once c = once_more c.insert.new.self.keys c.insert.ensures.unique
