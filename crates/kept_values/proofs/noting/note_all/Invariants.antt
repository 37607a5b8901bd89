use Rattle.std.proofs.Common.{◌≡◌, ℕ, List, take}
use Rattle.dep_graph.specs.Nodes.{has}
use Rattle.marked_values.specs.Shifts.{asks_place}
use Rattle.restored_values.specs.Suspects.{has_lost}
use Rattle.kept_values.specs.Sought.{noted_under}
use Rattle.kept_values.specs.Values.{AddsNoted, seeks_at}
use Rattle.kept_values.specs.internal.Noting.{AreNotedAmong}
use Rattle.kept_values.proofs.noting.note_all.Given as goal

-- the nodes so far are noted
abbrev pub invariant-nodes : goal.invariant-nodes
invariant-nodes g l = record {
  asking : AddsNoted (take l.node-index l.nodes) (λ a. has a l.fn.noted.asking.keys) (λ a. has a l.noted.asking.keys);
  losing : AddsNoted (take l.node-index l.nodes) (λ a. has a l.fn.noted.losing.keys) (λ a. has a l.noted.losing.keys);
  seeking : (word : List ℕ) → AddsNoted (take l.node-index l.nodes) (noted_under l.fn.noted.seeking word) (noted_under l.noted.seeking word);
  asks : AreNotedAmong (λ x. asks_place) (g.T.Trees.workbook l.fn.trees) (g.T.Trees.words l.fn.trees) (take l.node-index l.nodes) (λ a. has a l.noted.asking.keys);
  loses : AreNotedAmong (λ x. has_lost) (g.T.Trees.workbook l.fn.trees) (g.T.Trees.words l.fn.trees) (take l.node-index l.nodes) (λ a. has a l.noted.losing.keys);
  seeks : (word : List ℕ) → AreNotedAmong (seeks_at (g.T.Trees.workbook l.fn.trees) word) (g.T.Trees.workbook l.fn.trees) (g.T.Trees.words l.fn.trees) (take l.node-index l.nodes) (noted_under l.noted.seeking word);
  leaves : g.T.Trees.workbook l.trees ≡ g.T.Trees.workbook l.fn.trees;
  words : g.T.Trees.words l.trees ≡ g.T.Trees.words l.fn.trees;
  reads : g.T.Trees.leaves l.fn.trees l.trees;
}
