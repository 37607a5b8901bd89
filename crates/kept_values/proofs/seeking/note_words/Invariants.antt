use Rattle.std.proofs.Common.{◌≡◌, ◌⊎◌, ◌&&◌, ℕ, true, List, take}
use Rattle.std.specs.List.{list_any}
use Rattle.std.specs.Option.{is_none}
use Rattle.cell_addr.specs.Sheets.{same_name}
use Rattle.book_values.specs.Names.{found}
use Rattle.dep_graph.specs.Nodes.{same_node}
use Rattle.dep_graph.specs.declared.node.Node.{Node}
use Rattle.kept_values.specs.Sought.{noted_under}
use Rattle.kept_values.proofs.seeking.note_words.Given as goal

-- the node is noted under each of the words so far that finds none
abbrev pub invariant-words : goal.invariant-words
invariant-words g l = record {
  stay : (w : List ℕ) (b : Node) → noted_under l.fn.sought w b ≡ true → noted_under l.sought w b ≡ true;
  only : (w : List ℕ) (b : Node) → noted_under l.sought w b ≡ true → (noted_under l.fn.sought w b ≡ true) ⊎ (same_node b l.a ≡ true);
  seeks : (w : List ℕ) → list_any (λ v. same_name w v && is_none (found (g.T.Trees.workbook l.fn.trees).names v l.sheet)) (take l.word-index l.words) ≡ true → noted_under l.sought w l.a ≡ true;
  leaves : g.T.Trees.workbook l.trees ≡ g.T.Trees.workbook l.fn.trees;
  words : g.T.Trees.words l.trees ≡ g.T.Trees.words l.fn.trees;
  reads : g.T.Trees.leaves l.fn.trees l.trees;
}
