use Rattle.std.proofs.Common.{◌∙◌, ap, get_or}
use Rattle.std.specs.BTreeSet.{contains}
use Rattle.std.specs.Ordering.{eq_by_cmp}
use Rattle.cell_addr.specs.Order.{place_cmp}
use Rattle.dep_graph.specs.Nodes.{same_node}
use Rattle.dep_graph.specs.declared.node.Node.TheVariants.{Cell}
use Rattle.session_questions.specs.internal.Names.{passes}
use Rattle.session_questions.proofs.NeedingCells.{any-next, is-cell}
use Rattle.session_questions.proofs.links.cells_among.Goals as goal

pub nodes-preserved : goal.nodes-preserved
nodes-preserved c = λ q.
    let i = c.nodes.node-index in
    let d = Cell (record { sheet = 0; row = 0; col = 0 }) in
    any-next (same_node (Cell q)) c.args.nodes.now i d (passes (λ p. eq_by_cmp place_cmp p q) c.place_in.result) (contains place_cmp c.nodes.cells q) (contains place_cmp c.add.new.set q) c.nodes-test.true
    (ap (passes (λ p. eq_by_cmp place_cmp p q)) c.place_in.ensures ∙ is-cell q (get_or c.args.nodes.now i d)) (c.nodes.invariant q) (c.in_ok-add.ensures q)
