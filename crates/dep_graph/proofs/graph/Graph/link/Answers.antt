use Rattle.std.proofs.Common.{OnErr, subst}
use Rattle.dep_graph.specs.Graph.{AreSame}
use Rattle.dep_graph.specs.internal.Nets.{links_in}
use Rattle.dep_graph.proofs.graph.Graph.link.Goals as goal

pub returns-clause-err : goal.returns-clause-err
returns-clause-err c = subst (λ n. OnErr c.link.result (AreSame (links_in n) (links_in c.link.new.self))) c.deref_mut.ensures.value c.link.ensures.err
