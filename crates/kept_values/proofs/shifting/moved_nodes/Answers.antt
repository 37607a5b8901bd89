use Rattle.std.proofs.Common.{◌∙◌, ap, sym, subst, get_or, take, List, []}
use Rattle.std.proofs.lemmas.List.{take_all, take_more}
use Rattle.dep_graph.specs.declared.node.Node.{Node}
use Rattle.dep_graph.specs.declared.node.Node.TheVariants.{Cell}
use Rattle.kept_values.specs.internal.TakenAlong.{with_some}
use Rattle.kept_values.proofs.TakenAlong.{AreMovedTo, moves_more, moves_none}
use Rattle.kept_values.proofs.shifting.moved_nodes.Goals as goal

pub nodes-init : goal.nodes-init
nodes-init c = subst (λ (ns : List Node). AreMovedTo c.args.s.now [] ns) (sym c.new-moved.ensures.empty) (moves_none c.args.s.now)

pub nodes-preserved : goal.nodes-preserved
nodes-preserved c =
    let s = c.args.s.now in
    let nodes = c.args.nodes.now in
    let i = c.nodes.node-index in
    let d : Node = Cell (record { sheet = 0; row = 0; col = 0 }) in
    subst (λ (ns : List Node). AreMovedTo s ns c.add_some.new.nodes.keys) (sym (take_more nodes i d c.nodes-test.true))
    (moves_more s (take i nodes) c.nodes.moved.keys c.add_some.new.nodes.keys (get_or nodes i d) c.nodes.invariant (c.in_ok-add_some.ensures ∙ ap (λ o. with_some o c.nodes.moved.keys) c.moved_node.ensures))

pub returns : goal.returns
returns c =
    subst (λ (ns : List Node). AreMovedTo c.args.s.now ns c.nodes.moved.keys) (take_all c.nodes.node-index c.args.nodes.now c.nodes-test.false) c.nodes.invariant
