use Rattle.std.proofs.Common.{◌-◌, length}
use Rattle.dep_graph.specs.Nodes.{items_of}
use Rattle.session_values.specs.Following.{words_in}
use Rattle.session_values.specs.internal.Listed.{ListsBelow}
use Rattle.session_values.proofs.listing.scope_nodes.Given as goal

-- the names of the words so far were added
abbrev pub invariant-words : goal.invariant-words
invariant-words l = ListsBelow l.sheet (length (words_in l.session)) (items_of l.nodes)

abbrev pub decreases-words : goal.decreases-words
decreases-words l = length (words_in l.session) - length (items_of l.nodes)
