-- What links stand for: for each node a list of nodes that it needs. Source: this project's own.
use Rattle.std.specs.Prelude.{ℕ, List, length}
use Rattle.node_links.specs.Links.{needs_at}
use Rattle.node_links.specs.declared.links.Links.{Links}
use Rattle.node_links.specs.internal.Sets.{users_at}

-- how many nodes there are; they are the numbers below
abbrev pub node_count : Links → ℕ
node_count links = length links.needs.items

-- what a node needs
abbrev pub needs_of : Links → ℕ → List ℕ
needs_of links a = needs_at links.needs.items a

-- which nodes need a node
abbrev pub users_of : Links → ℕ → List ℕ
users_of links a = users_at links.users.sets.items a
