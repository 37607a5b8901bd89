use Rattle.std.proofs.Common.{sym, subst, Some}
use Rattle.dep_graph.specs.declared.node.Node.{Node}
use Rattle.session_values.specs.Following.{words_in}
use Rattle.session_values.specs.declared.naming.NameTurn.{NameTurn}
use Rattle.session_values.specs.internal.Marked.{HasMarked, HasMarkedLinked, HasTurned}
use Rattle.session_values.proofs.naming.turned.Goals as goal

pub returns-in-Changed : goal.returns-in-Changed
returns-in-Changed c = λ ok.
    subst (λ (t : NameTurn). HasTurned (words_in c.args.session.now) c.args.key t c.args.values.now c.name_marked.new.values) (sym c.in-Changed.is)
    (subst (λ (n : Node). HasMarked (Some n) c.args.values.now c.name_marked.new.values) c.own_node.ensures (c.name_marked.ensures ok))

pub returns-in-Removed : goal.returns-in-Removed
returns-in-Removed c = λ ok.
    subst (λ (t : NameTurn). HasTurned (words_in c.args.session.now) c.args.key t c.args.values.now c.linked_marked.new.values) (sym c.in-Removed.is)
    (subst (λ (n : Node). HasMarkedLinked (Some n) c.args.values.now c.linked_marked.new.values) c.own_node-in-Removed.ensures (c.linked_marked.ensures ok))
