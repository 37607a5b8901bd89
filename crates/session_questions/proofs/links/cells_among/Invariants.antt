use Rattle.std.proofs.Common.{◌≡◌, take}
use Rattle.std.specs.BTreeSet.{contains}
use Rattle.cell_addr.specs.Order.{place_cmp}
use Rattle.cell_addr.specs.declared.place.Place.{Place}
use Rattle.dep_graph.specs.Nodes.{has}
use Rattle.dep_graph.specs.declared.node.Node.TheVariants.{Cell}
use Rattle.session_questions.proofs.links.cells_among.Given as goal

-- the cells among the nodes gone by
abbrev pub invariant-nodes : goal.invariant-nodes
invariant-nodes l = (q : Place) → contains place_cmp l.cells q ≡ has (Cell q) (take l.node-index l.nodes)
