use Rattle.std.proofs.Common.{◌∙◌, ◌&&◌, sym, ap, get_or, take, List}
use Rattle.std.proofs.lemmas.List.{take_all, take_more}
use Rattle.dep_graph.specs.Nodes.{has, items_of}
use Rattle.dep_graph.specs.declared.node.Node.{Node}
use Rattle.dep_graph.specs.declared.node.Node.TheVariants.{Cell}
use Rattle.session_values.specs.internal.Listed.{is_name_of}
use Rattle.session_values.proofs.Listed.{named_more, named_none}
use Rattle.session_values.proofs.listing.named.Goals as goal

pub nodes-init : goal.nodes-init
nodes-init c = λ a. ap (has a) c.in_ok-names.ensures ∙ named_none c.args.sheet a

pub nodes-preserved : goal.nodes-preserved
nodes-preserved c = λ a.
    let nodes = c.args.nodes.now in
    let i = c.nodes.node-index in
    let d : Node = Cell (record { sheet = 0; row = 0; col = 0 }) in
    ap (has a) c.in_ok-add_named.ensures ∙ named_more c.args.sheet (get_or nodes i d) (take i nodes) (items_of c.nodes.names) c.nodes.invariant a
    ∙ ap (λ (ns : List Node). is_name_of c.args.sheet a && has a ns) (sym (take_more nodes i d c.nodes-test.true))

pub returns : goal.returns
returns c = λ a.
    c.nodes.invariant a ∙ ap (λ (ns : List Node). is_name_of c.args.sheet a && has a ns) (take_all c.nodes.node-index c.args.nodes.now c.nodes-test.false)
