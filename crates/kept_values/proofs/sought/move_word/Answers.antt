use Rattle.std.proofs.Common.{sym, subst, List, Some}
use Rattle.dep_graph.specs.Nodes.{has}
use Rattle.dep_graph.specs.declared.node.Node.{Node}
use Rattle.folded_key.specs.Key.{text_of}
use Rattle.kept_values.specs.Sought.{noted_under}
use Rattle.kept_values.specs.internal.TakenAlong.{AreMoved}
use Rattle.kept_values.proofs.UnderWords.{here, moved_here, no_items, none_here}
use Rattle.kept_values.proofs.sought.move_word.Goals as goal

pub returns-then-is_empty-clause-here : goal.returns-then-is_empty-clause-here
returns-then-is_empty-clause-here c = λ w same none.
    none_here c.args.s.now (λ a. has a c.args.nodes.now.keys) (noted_under c.args.moved.now w) c.in_ok-along.along.keys (no_items c.in_ok-along.along.keys (c.is_empty.ensures.0 c.if-is_empty.true))
    (subst (λ (ns : List Node). AreMoved c.args.s.now (λ a. has a ns) (λ a. has a c.in_ok-along.along.keys)) c.as_slice.ensures.keys c.in_ok-along.ensures) none

pub returns-clause-here : goal.returns-clause-here
returns-clause-here c = λ w same none.
    moved_here c.args.s.now c.insert.new.self (λ a. has a c.args.nodes.now.keys) c.in_ok-along.along w
    (here c.args.moved.now c.insert.new.self (text_of c.args.key) (Some c.in_ok-along.along) c.in_ok-insert.ensures.updates.0 w same)
    (subst (λ (ns : List Node). AreMoved c.args.s.now (λ a. has a ns) (λ a. has a c.in_ok-along.along.keys)) c.as_slice.ensures.keys c.in_ok-along.ensures)
