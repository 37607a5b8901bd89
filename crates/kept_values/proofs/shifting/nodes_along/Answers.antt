use Rattle.std.proofs.Common.{sym, subst, get_or, take, List, []}
use Rattle.std.proofs.lemmas.List.{take_all, take_more}
use Rattle.dep_graph.specs.declared.node.Node.{Node}
use Rattle.dep_graph.specs.declared.node.Node.TheVariants.{Cell}
use Rattle.kept_values.specs.internal.TakenAlong.{AddsTaken}
use Rattle.kept_values.proofs.TakenAlong.{takes_more, takes_none}
use Rattle.kept_values.proofs.shifting.nodes_along.Goals as goal

pub nodes-init : goal.nodes-init
nodes-init c = subst (λ (ns : List Node). AddsTaken c.args.s.now [] [] ns) (sym c.new-along.ensures.empty) (takes_none c.args.s.now [])

pub nodes-preserved : goal.nodes-preserved
nodes-preserved c =
    let s = c.args.s.now in
    let nodes = c.args.nodes.now in
    let i = c.nodes.node-index in
    let d : Node = Cell (record { sheet = 0; row = 0; col = 0 }) in
    subst (λ (ns : List Node). AddsTaken s ns [] c.add_along.new.along.keys) (sym (take_more nodes i d c.nodes-test.true))
    (takes_more s (take i nodes) [] c.nodes.along.keys c.add_along.new.along.keys (get_or nodes i d) c.nodes.invariant c.in_ok-add_along.ensures)

pub returns : goal.returns
returns c =
    subst (λ (ns : List Node). AddsTaken c.args.s.now ns [] c.nodes.along.keys) (take_all c.nodes.node-index c.args.nodes.now c.nodes-test.false) c.nodes.invariant
