use Rattle.std.proofs.Common.{◌≡◌, drop}
use Rattle.dep_graph.specs.Graph.{links_of}
use Rattle.dep_graph.specs.Laws.{AreLinksInside}
use Rattle.marked_values.specs.Marks.{AreLinksBut}
use Rattle.kept_values.proofs.linking.link_all.Given as goal

-- the nodes so far are linked anew
abbrev pub invariant-nodes : goal.invariant-nodes
invariant-nodes g l = record {
  but : AreLinksBut (g.T.Trees.workbook l.fn.trees) (g.T.Trees.words l.fn.trees) (drop l.node-index l.nodes) (links_of l.graph);
  links : AreLinksInside (links_of l.graph);
  leaves : g.T.Trees.workbook l.trees ≡ g.T.Trees.workbook l.fn.trees;
  words : g.T.Trees.words l.trees ≡ g.T.Trees.words l.fn.trees;
  reads : g.T.Trees.leaves l.fn.trees l.trees;
}
