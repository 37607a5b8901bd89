-- Nodes that are kept under their numbers, and those that an operation doesn't touch.
use Rattle.std.specs.Prelude.{◌≡◌, ◌↔◌, ◌⊎◌, ◌<◌, ◌≤◌, ◌&&◌, ℕ, Bool, true, false, List, Option, Some, None, option_map, IsTrue, slice_get, ⊤}
use Rattle.cell_addr.specs.Place.{IsBlockInside, IsInside}
use Rattle.cell_addr.specs.Whole.{IsWholeInside, whole_block}
use Rattle.cell_addr.specs.declared.place.Block.{Block}
use Rattle.cell_addr.specs.declared.place.Place.{Place}
use Rattle.cell_addr.specs.declared.whole.Whole as whole
use Rattle.needs_order.specs.Needs.{has}
use Rattle.place_lines.specs.Moved.{is_known}
use Rattle.place_lines.specs.Spots.{first_spot, last_spot}
use Rattle.place_lines.specs.declared.lines.PlaceLines.{PlaceLines}
use Rattle.shift_core.specs.Form.{form_of}
use Rattle.shift_core.specs.declared.form.Form.{Form}
use Rattle.shift_core.specs.declared.shift.Shift.{Shift}
use Rattle.touch_index.specs.Handed.{HasAsManyLines, fresh_part}
use Rattle.touch_index.specs.Kept.{Grows, KeepsBlock, KeepsCell}
use Rattle.touch_index.specs.Touched.{TouchesBlock, TouchesCell}
use Rattle.touch_index.specs.declared.index.TouchIndex.{TouchIndex}
use Rattle.dep_graph.specs.declared.key.Key.{Key}
use Rattle.dep_graph.specs.declared.key.Key.TheVariants as key
use Rattle.dep_graph.specs.declared.node.Node.{Node}
use Rattle.dep_graph.specs.declared.node.Node.TheVariants.{Cell, Name, Range, Whole}
use Rattle.dep_graph.specs.declared.table.NodeTable.{NodeTable}
use Rattle.dep_graph.specs.declared.touches.Touches.{Touches}
use Rattle.dep_graph.specs.internal.Keys.{node_of}
use Rattle.dep_graph.specs.internal.Numbers.{count_of, found_at, found_under}
use Rattle.dep_graph.specs.internal.Wholes.{fresh_whole}

-- no line that comes in later has one of the key's numbers; of whole ranges, all of which are odd, it isn't asked
abbrev pub is_known_key : PlaceLines → Key → Bool
is_known_key lines (key.Cell spot) = is_known lines spot
is_known_key lines (key.Name scope word) = true
is_known_key lines (key.Range area) = is_known lines (first_spot area) && is_known lines (last_spot area)
is_known_key lines (key.Whole ends) = false

-- the node is inside its sheet and kept under the number; no whole range is
abbrev pub KeepsNode : TouchIndex → PlaceLines → ℕ → Node → Type 0
KeepsNode x lines n (Cell p) = IsInside p × KeepsCell x lines p n
KeepsNode x lines n (Name scope word) = ⊤
KeepsNode x lines n (Range b) = IsBlockInside b × KeepsBlock x lines b n
KeepsNode x lines n (Whole w) = ⊥

-- the node is kept under the number, unless that is odd
abbrev pub IsKept : PlaceLines → Touches → ℕ → Node → Type 0
IsKept lines t n a = IsTrue (has n t.odd.keys) ⊎ KeepsNode t.index lines n a

-- so are those of the numbers that stand somewhere, but for numbers that aren't kept yet
abbrev pub AreKept : PlaceLines → List Key → Touches → List ℕ → Type 0
AreKept lines keys t numbers = (n : ℕ) (a : Node) → IsTrue (has n numbers) → n < t.kept → found_under lines keys n ≡ Some a → IsKept lines t n a

-- unless the number is odd, its key is known, and a cell or a range that stands there is kept
abbrev pub IsIndexed : PlaceLines → Touches → ℕ → Key → Type 0
IsIndexed lines t n k =
    has n t.odd.keys ≡ false → (is_known_key lines k ≡ true)
    × ((p : Place) → node_of lines k ≡ Some (Cell p) → KeepsNode t.index lines n (Cell p))
    × ((b : Block) → node_of lines k ≡ Some (Range b) → KeepsNode t.index lines n (Range b))

-- so are all that are kept, which have keys
pub record AreIndexed (nodes : NodeTable) (t : Touches) : Type 0 where
  pub reached : t.kept ≤ count_of nodes
  pub each : (n : ℕ) (k : Key) → n < t.kept → slice_get nodes.keys.keys n ≡ Some k → IsIndexed nodes.lines t n k

-- what was kept is kept still, and no other numbers count for kept
pub record IsMore (old new : Touches) : Type 0 where
  pub kept : new.kept ≡ old.kept
  pub odd : (n : ℕ) → IsTrue (has n old.odd.keys) → IsTrue (has n new.odd.keys)
  pub index : Grows old.index new.index

-- the cell or the range is inside its sheet, and the operation just carries it along; each whole range is taken for touched
abbrev pub IsUntouched : Shift → Node → Type 0
IsUntouched s (Cell p) = IsInside p × ¬ TouchesCell (form_of s) p
IsUntouched s (Name scope word) = ⊤
IsUntouched s (Range b) = IsBlockInside b × ¬ TouchesBlock (form_of s) b
IsUntouched s (Whole w) = ⊥

-- both blocks are within their sheets, and have the same number of lines where the operation moves some
abbrev pub AreHandedOn : Form → Block → Block → Type 0
AreHandedOn f b after = IsBlockInside b × IsBlockInside after × HasAsManyLines f b after

-- the first node is a range that is so handed on to the second
abbrev pub IsHandedAt : Form → Option Node → Block → Type 0
IsHandedAt f before after = (b : Block) × (before ≡ Some (Range b)) × AreHandedOn f b after

-- so are whole ranges
abbrev pub AreHandedWhole : Form → whole.Whole → whole.Whole → Type 0
AreHandedWhole f w after = IsWholeInside w × IsWholeInside after × HasAsManyLines f (whole_block w) (whole_block after)

-- the first node is a range, whole or not, that is so handed on to the second
abbrev pub IsHandedNode : Form → Option Node → Node → Type 0
IsHandedNode f before (Cell p) = ⊥
IsHandedNode f before (Name scope word) = ⊥
IsHandedNode f before (Range after) = IsHandedAt f before after
IsHandedNode f before (Whole after) = (w : whole.Whole) × (before ≡ Some (Whole w)) × AreHandedWhole f w after

-- the part of a range on lines that an insert puts between others
abbrev pub fresh_node : Form → Node → Option Node
fresh_node f (Cell p) = None
fresh_node f (Name scope word) = None
fresh_node f (Range b) = option_map Range (fresh_part f b)
fresh_node f (Whole w) = option_map Whole (fresh_whole f w)

-- each node that the operation touches is among the numbers
abbrev pub FindsTouched : Shift → NodeTable → List ℕ → Type 0
FindsTouched s nodes numbers = (n : ℕ) (a : Node) → found_at nodes n ≡ Some a → IsTrue (has n numbers) ⊎ IsUntouched s a

-- all numbers are those of keys
abbrev pub AreInside : NodeTable → List ℕ → Type 0
AreInside nodes numbers = (n : ℕ) → IsTrue (has n numbers) → n < count_of nodes

-- the numbers were added
abbrev pub AddsAll : List ℕ → List ℕ → List ℕ → Type 0
AddsAll numbers old new = (n : ℕ) → IsTrue (has n new) ↔ (IsTrue (has n old) ⊎ IsTrue (has n numbers))

-- those of the numbers that are numbers of keys were added
abbrev pub AddsKnown : NodeTable → List ℕ → List ℕ → List ℕ → Type 0
AddsKnown nodes numbers old new = (n : ℕ) → IsTrue (has n new) ↔ (IsTrue (has n old) ⊎ (IsTrue (has n numbers) × (n < count_of nodes)))

-- the numbers from the first to before the end were added
abbrev pub AddsBetween : ℕ → ℕ → List ℕ → List ℕ → Type 0
AddsBetween first end old new = (n : ℕ) → IsTrue (has n new) ↔ (IsTrue (has n old) ⊎ ((first ≤ n) × (n < end)))
