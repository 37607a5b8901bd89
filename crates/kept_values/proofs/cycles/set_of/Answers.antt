use Rattle.std.proofs.Common.{◌∙◌, ap, refl, get_or, take, [], List}
use Rattle.std.proofs.lemmas.List.{take_all}
use Rattle.dep_graph.specs.Nodes.{has}
use Rattle.dep_graph.specs.declared.node.Node.{Node}
use Rattle.dep_graph.specs.declared.node.Node.TheVariants.{Cell}
use Rattle.kept_values.proofs.FoundNames.{marked_more}
use Rattle.kept_values.proofs.LinkedAnew.{marked_on}
use Rattle.kept_values.proofs.cycles.set_of.Goals as goal

pub nodes-init : goal.nodes-init
nodes-init c = λ a. ap (has a) c.new-set.ensures.empty

pub nodes-preserved : goal.nodes-preserved
nodes-preserved c =
    let d : Node = Cell (record { sheet = 0; row = 0; col = 0 }) in
    let nodes = c.args.nodes.now in
    let i = c.nodes.node-index in
    marked_on nodes [] c.nodes.set.keys c.insert.new.self.keys i d c.nodes-test.true c.nodes.invariant (λ a. marked_more (get_or nodes i d) c.nodes.set.keys c.insert.new.self.keys c.in_ok-insert.ensures.keys a)

pub returns : goal.returns
returns c = λ a. c.nodes.invariant a ∙ ap (has a) (take_all c.nodes.node-index c.args.nodes.now c.nodes-test.false)
