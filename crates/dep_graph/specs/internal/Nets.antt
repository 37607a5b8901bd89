-- What a net of nodes stands for, and nets that grow.
use Rattle.std.specs.Prelude.{◌≡◌, ◌<◌, ◌++◌, ℕ, List}
use Rattle.node_links.specs.Nodes.{needs_of}
use Rattle.dep_graph.specs.declared.key.Key.{Key}
use Rattle.dep_graph.specs.declared.net.Net.{Net}
use Rattle.dep_graph.specs.declared.node.Node.{Node}
use Rattle.dep_graph.specs.internal.Numbers.{IsFiled, count_of, linked}

-- the nodes that each node was linked to
abbrev pub links_in : Net → Node → List Node
links_in net = linked net.nodes net.links

-- keys were added behind the others, and what was filed is so still
pub record Grows (old new : Net) : Type 0 where
  pub keys : (more : List Key) × (new.nodes.keys.keys ≡ old.nodes.keys.keys ++ more)
  pub lines : new.nodes.lines ≡ old.nodes.lines
  pub needs : (n : ℕ) → needs_of new.links n ≡ needs_of old.links n
  pub filed : (n : ℕ) → n < count_of old.nodes → IsFiled old.nodes old.files n → IsFiled new.nodes new.files n
