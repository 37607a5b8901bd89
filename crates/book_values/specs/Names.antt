-- The named expressions of a workbook. Source: this project's own; that a sheet's own name comes before a global one
-- is HyperFormula's.
use Rattle.std.specs.Prelude.{ℕ, Bool, false, ◌&&◌, if◌then◌else◌, List, [], ◌∷◌, Option, Some, None, is_some, bytes_eq}
use Rattle.cell_addr.specs.Text.{folded}
use Rattle.formula_tree.specs.Links.{same_scope}
use Rattle.formula_tree.specs.Term.{Term}
use Rattle.formula_tree.specs.declared.reference.Corner.{Corner}

-- a name: its scope, which is the number of a sheet or none for the whole workbook, and its word in small letters
pub record Key : Type 0 where
  pub scope : Option ℕ
  pub word : List ℕ

abbrev pub same_key : Key → Key → Bool
same_key a b = same_scope a.scope b.scope && bytes_eq a.word b.word

-- the names and their trees
abbrev pub Names : Type 0
Names = List (Key × Term Corner)

-- the tree of a name
abbrev pub tree_in : Names → Key → Option (Term Corner)
tree_in [] key = None
tree_in (entry ∷ rest) key = if same_key entry.0 key then Some entry.1 else tree_in rest key

-- the name of a word in a scope
abbrev pub key_of : Option ℕ → List ℕ → Key
key_of scope word = record { scope = scope; word = folded word }

-- the name that a word finds on a sheet: the sheet's own, else that of the whole workbook
abbrev pub found : Names → List ℕ → ℕ → Option Key
found names word sheet =
    if is_some (tree_in names (key_of (Some sheet) word)) then Some (key_of (Some sheet) word)
    else if is_some (tree_in names (key_of None word)) then Some (key_of None word)
    else None

-- a word finds this name on the sheet
abbrev pub is_found : Option Key → Key → Bool
is_found (Some known) key = same_key known key
is_found None key = false
