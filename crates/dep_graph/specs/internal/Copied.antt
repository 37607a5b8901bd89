-- Links that are copied, one number after another.
use Rattle.std.specs.Prelude.{◌≡◌, ◌⊎◌, ℕ, [], Some}
use Rattle.std.specs.List.{filter_map}
use Rattle.node_links.specs.Nodes.{needs_of}
use Rattle.dep_graph.specs.Graph.{AreLinked, AreSame}
use Rattle.dep_graph.specs.Needs.{Links}
use Rattle.dep_graph.specs.declared.net.Net.{Net}
use Rattle.dep_graph.specs.declared.node.Node.{Node}
use Rattle.dep_graph.specs.internal.Numbers.{found_at}

-- a number without needs adds nothing, and the node of another gets its links
abbrev pub AddsCopied : Net → ℕ → Links → Links → Type 0
AddsCopied net n old new =
    ((needs_of net.links n ≡ []) × AreSame old new)
    ⊎ ((a : Node) × (found_at net.nodes n ≡ Some a) × AreLinked a (filter_map (found_at net.nodes) (needs_of net.links n)) old new)
