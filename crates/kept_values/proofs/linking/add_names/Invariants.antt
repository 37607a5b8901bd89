use Rattle.std.proofs.Common.{◌≡◌, take}
use Rattle.dep_graph.specs.Nodes.{items_of}
use Rattle.kept_values.specs.internal.Linking.{AddsFound}
use Rattle.kept_values.proofs.linking.add_names.Given as goal

-- the names that the words so far find were added
abbrev pub invariant-words : goal.invariant-words
invariant-words g l = record {
  found : AddsFound (g.T.Trees.words l.fn.trees) (g.T.Trees.workbook l.fn.trees).names l.sheet (take l.word-index l.words) (items_of l.fn.needs) (items_of l.needs);
  leaves : g.T.Trees.workbook l.trees ≡ g.T.Trees.workbook l.fn.trees;
  words : g.T.Trees.words l.trees ≡ g.T.Trees.words l.fn.trees;
  reads : g.T.Trees.leaves l.fn.trees l.trees;
}
