-- Nodes under numbers, by their keys.
use Rattle.std.specs.Prelude.{◌≡◌, ℕ, Bool, true, false, List, Option, Some, None, IsSome, map, length, slice_get, slice_index_or, unwrap_or}
use Rattle.std.specs.List.{position_or_len}
use Rattle.std.specs.Option.{option_and_then}
use Rattle.cell_addr.specs.declared.place.Block.{Block}
use Rattle.cell_addr.specs.declared.whole.Whole as whole
use Rattle.node_links.specs.Nodes.{needs_of}
use Rattle.node_links.specs.declared.links.Links.{Links}
use Rattle.place_lines.specs.declared.lines.PlaceLines.{PlaceLines}
use Rattle.dep_graph.specs.declared.files.Files.{Files}
use Rattle.dep_graph.specs.declared.key.Key.{Key}
use Rattle.dep_graph.specs.declared.key.Key.TheVariants as key
use Rattle.dep_graph.specs.declared.node.Node.{Node}
use Rattle.dep_graph.specs.declared.node.Node.TheVariants.{Cell, Name, Range, Whole}
use Rattle.dep_graph.specs.declared.table.NodeTable.{NodeTable}
use Rattle.dep_graph.specs.internal.Files.{FindsNode, HoldsBlock}
use Rattle.dep_graph.specs.internal.Filings.{filing_of}
use Rattle.dep_graph.specs.internal.Keys.{key_of, node_of, same_key}
use Rattle.dep_graph.specs.internal.Wholes.{HoldsWhole}

-- how many numbers there are
abbrev pub count_of : NodeTable → ℕ
count_of t = length t.keys.keys

-- the key of a number; past the last that of a name
abbrev pub key_at : NodeTable → ℕ → Key
key_at t n = slice_index_or t.keys.keys n (key.Name 0 0)

-- the node of a number, by lines and keys; none past the last, and where one of its lines stands nowhere
abbrev pub found_under : PlaceLines → List Key → ℕ → Option Node
found_under lines keys n = option_and_then (node_of lines) (slice_get keys n)

abbrev pub found_at : NodeTable → ℕ → Option Node
found_at t n = found_under t.lines t.keys.keys n

-- the same, where it isn't asked whether it is there
abbrev pub node_at : NodeTable → ℕ → Node
node_at t n = unwrap_or (found_at t n) (Name 0 0)

-- the number has a node
abbrev pub IsAlive : NodeTable → ℕ → Type 0
IsAlive t n = found_at t n ≡ Some (node_at t n)

-- the number of a key, and of a node; past the last where it has none
abbrev pub key_place : NodeTable → Key → ℕ
key_place t k = position_or_len (same_key k) t.keys.keys

abbrev pub place_of : NodeTable → Node → ℕ
place_of t a = key_place t (key_of t.lines a)

-- the nodes that a node was linked to
abbrev pub linked : NodeTable → Links → Node → List Node
linked t links a = map (node_at t) (needs_of links (place_of t a))

-- the node is a range, whole or not
abbrev pub is_range : Option Node → Bool
is_range (Some (Range b)) = true
is_range (Some (Whole w)) = true
is_range (Some (Cell p)) = false
is_range (Some (Name scope word)) = false
is_range None = false

-- where the number is that of a range, it is filed
abbrev pub IsFiled : NodeTable → Files → ℕ → Type 0
IsFiled t files n = is_range (found_at t n) ≡ true → IsSome (filing_of files.current n)

-- the number is that of a range, whole or not, which is found by its cells
abbrev pub IsHeld : PlaceLines → List Key → Files → ℕ → Type 0
IsHeld lines keys files n =
    (is_range (found_under lines keys n) ≡ true)
    × ((b : Block) → found_under lines keys n ≡ Some (Range b) → HoldsBlock lines (FindsNode files n) b)
    × ((w : whole.Whole) → found_under lines keys n ≡ Some (Whole w) → HoldsWhole lines (FindsNode files n) w)

-- so is each that a filing serves
abbrev pub AreFilings : NodeTable → Files → Type 0
AreFilings t files = (n f : ℕ) → filing_of files.current n ≡ Some f → IsHeld t.lines t.keys.keys files n
