use Rattle.std.proofs.Common.{◌∙◌, sym}
use Rattle.dep_graph.specs.Graph.{links_of}
use Rattle.kept_values.proofs.TakenBack.{probed_by}
use Rattle.kept_values.proofs.values.Values.probed.Goals as goal

pub returns-in-Some : goal.returns-in-Some
returns-in-Some c = probed_by c.bent.result c.args.s.now c.in-Some.probe (links_of c.args.self.now.graph) (sym c.probe.ensures ∙ c.in-Some.is) c.bent.ensures
