use Rattle.std.proofs.Common.{OnErr, OnOk, subst}
use Rattle.dep_graph.specs.Graph.{AreSame}
use Rattle.dep_graph.specs.Shifted.{AreShifted}
use Rattle.dep_graph.specs.internal.Nets.{links_in}
use Rattle.dep_graph.proofs.graph.Graph.shift.Goals as goal

pub returns-clause-ok : goal.returns-clause-ok
returns-clause-ok c =
    subst (λ n. OnOk c.shift_and_renew.result (AreShifted c.args.s.now (links_in n) (links_in c.shift_and_renew.new.self))) c.deref_mut.ensures.value c.shift_and_renew.ensures.ok

pub returns-clause-err : goal.returns-clause-err
returns-clause-err c = subst (λ n. OnErr c.shift_and_renew.result (AreSame (links_in n) (links_in c.shift_and_renew.new.self))) c.deref_mut.ensures.value c.shift_and_renew.ensures.err
