-- Nodes of the graph of needs, and the places and names of a workbook that they are. Source: this project's own.
use Rattle.std.specs.Prelude.{◌≡◌, ◌≢◌, ◌==◌, ℕ, true, if◌then◌else◌, List, AllPairs, Option, Some, None, is_some, slice_get}
use Rattle.cell_addr.specs.declared.place.TheConstants.{NO_SHEET}
use Rattle.book_values.specs.Names.{Key, Names, tree_in}
use Rattle.book_values.specs.Workbook as book
use Rattle.dep_graph.specs.declared.node.Node.{Node}
use Rattle.dep_graph.specs.declared.node.Node.TheVariants.{Cell, Name, Range, Whole}

-- the scope of this number: a sheet, or the whole workbook
abbrev pub scope_at : ℕ → Option ℕ
scope_at number = if number == NO_SHEET then None else Some number

-- the name of a word in the scope of this number
abbrev pub name_at : ℕ → Option (List ℕ) → Option book.Node
name_at scope (Some word) = Some (book.name (record { scope = scope_at scope; word = word }))
name_at scope None = None

-- the place or the name that a node is, where words are numbered by their places in this list; a range, whole or not, is neither
abbrev pub node_at : List (List ℕ) → Node → Option book.Node
node_at words (Cell p) = Some (book.place p)
node_at words (Name scope word) = name_at scope (slice_get words word)
node_at words (Range b) = None
node_at words (Whole w) = None

-- no word has two numbers, and each name is a node
pub record AreNumbered (words : List (List ℕ)) (names : Names) : Type 0 where
  pub once : AllPairs (λ v w. v ≢ w) words
  pub all : (key : Key) → is_some (tree_in names key) ≡ true → (a : Node) × (node_at words a ≡ Some (book.name key))
