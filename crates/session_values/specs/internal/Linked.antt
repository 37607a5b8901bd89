-- Links that are up to date.
use Rattle.std.specs.Prelude.{◌≡◌, ℕ, List, Option, Some, None}
use Rattle.book_values.specs.Workbook.{Workbook}
use Rattle.dep_graph.specs.Nodes.{has}
use Rattle.dep_graph.specs.declared.node.Node.{Node}
use Rattle.kept_values.specs.Values.{is_link_at, links_in}
use Rattle.kept_values.specs.declared.values.Values.{Values}

-- something is kept, and each node is linked to exactly what its formula in the workbook is linked to
abbrev pub AreLinkedIn : Workbook → List (List ℕ) → Option Values → Type 0
AreLinkedIn b words None = ⊥
AreLinkedIn b words (Some v) = (a c : Node) → has c (links_in v a) ≡ is_link_at b words a c
