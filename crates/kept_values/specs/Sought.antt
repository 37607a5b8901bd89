-- Nodes that stand under words. Source: this project's own.
use Rattle.std.specs.Prelude.{ℕ, Bool, false, List, Option, Some, None}
use Rattle.cell_addr.specs.Sheets.{same_name}
use Rattle.dep_graph.specs.Nodes.{has}
use Rattle.dep_graph.specs.declared.node.Node.{Node}
use Rattle.folded_key.specs.Key.{text_of}
use Rattle.folded_key.specs.declared.key.FoldedKey.{FoldedKey}
use Rattle.folded_key.specs.declared.key.FoldedKey.TheVariants.{Own}
use Rattle.indexmap.specs.IndexMap.{IndexMap, get}
use Rattle.indexmap.specs.IndexSet.{IndexSet}

-- the node is one of the set, if there is one
abbrev pub noted_in : {S : Type 0} → Option (IndexSet Node S) → Node → Bool
noted_in None a = false
noted_in (Some nodes) a = has a nodes.keys

-- the set that stands under a word, in some case of its letters
abbrev pub nodes_under : {S T : Type 0} → IndexMap FoldedKey (IndexSet Node S) T → List ℕ → Option (IndexSet Node S)
nodes_under table word = get (λ k j. same_name (text_of k) (text_of j)) table (Own word)

-- the node stands under the word
abbrev pub noted_under : {S T : Type 0} → IndexMap FoldedKey (IndexSet Node S) T → List ℕ → Node → Bool
noted_under table word a = noted_in (nodes_under table word) a
