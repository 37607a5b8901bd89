-- A workbook with names: what it holds, what its formulas need. Source: this project's own.
use Rattle.std.specs.Prelude.{ℕ, Bool, false, Option, Some, None}
use Rattle.std.specs.FinMap as map
use Rattle.std.specs.List.{list_any}
use Rattle.cell_addr.specs.Place.{same_place}
use Rattle.cell_addr.specs.declared.place.Place.{Place}
use Rattle.cell_addr.specs.declared.place.TheConstants.{NO_SHEET}
use Rattle.book_values.specs.Book as cells
use Rattle.formula_tree.specs.Links.{names_in}
use Rattle.formula_tree.specs.Reference.{sheet_of}
use Rattle.formula_tree.specs.Term.{Term}
use Rattle.formula_tree.specs.declared.reference.Corner.{Corner}
use Rattle.formula_tree.specs.declared.reference.Home.{Home}
use Rattle.formula_tree.specs.declared.reference.Home.TheVariants as homes
use Rattle.calc_terms.specs.Needs.{mentions}
use Rattle.book_values.specs.Names.{Key, Names, found, is_found, same_key, tree_in}

-- the contents of the filled cells, and the named expressions
pub record Workbook : Type 0 where
  pub cells : cells.Book
  pub names : Names

-- what has a value: a place or a name
pub data Node : Type 0 where
  place : Place → Node
  name : Key → Node

abbrev pub same_node : Node → Node → Bool
same_node (place p) (place q) = same_place p q
same_node (name a) (name b) = same_key a b
same_node a b = false

-- the tree of a content, where it is a formula that has one
abbrev pub content_tree : Option cells.Content → Option (Term Corner)
content_tree (Some (cells.formula t)) = Some t
content_tree _ = None

-- the tree of a node
abbrev pub tree_at : Workbook → Node → Option (Term Corner)
tree_at b (place p) = content_tree (map.get b.cells p)
tree_at b (name key) = tree_in b.names key

-- the sheet of a scope: the names of the whole workbook stand on none
abbrev pub scope_sheet : Option ℕ → ℕ
scope_sheet (Some sheet) = sheet
scope_sheet None = NO_SHEET

-- where a node's formula stands
abbrev pub home_of : Node → Home
home_of (place p) = homes.Cell p
home_of (name key) = homes.Name (scope_sheet key.scope)

-- whether a tree on a sheet mentions a node: a place, or a name that one of its words finds there
abbrev pub mentions_node : Names → ℕ → Term Corner → Node → Bool
mentions_node names sheet t (place p) = mentions t p
mentions_node names sheet t (name key) = list_any (λ word. is_found (found names word sheet) key) (names_in t)

abbrev pub tree_needs : Names → ℕ → Option (Term Corner) → Node → Bool
tree_needs names sheet (Some t) c = mentions_node names sheet t c
tree_needs names sheet None c = false

-- whether the first node's formula needs the second node
abbrev pub needs : Workbook → Node → Node → Bool
needs b a c = tree_needs b.names (sheet_of (home_of a)) (tree_at b a) c
