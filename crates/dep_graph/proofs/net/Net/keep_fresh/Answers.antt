use Rattle.dep_graph.proofs.Growing.{same_grown}
use Rattle.dep_graph.proofs.net.Net.keep_fresh.Goals as goal

pub returns : goal.returns
returns c = same_grown c.args.self.now c.numbers.self c.numbers.invariant.nodes c.numbers.invariant.links c.numbers.invariant.files
