-- What cells hold, and a book: a finite map from places to contents. Source: this project's own.
use Rattle.std.specs.Prelude as std
use Rattle.std.specs.Prelude.{ℤ, ℕ, Bool, true, false, List, filter}
use Rattle.std.specs.FinMap as map
use Rattle.cell_addr.specs.Order.{place_cmp}
use Rattle.cell_addr.specs.declared.place.Place.{Place}
use Rattle.formula_tree.specs.Term.{Term}
use Rattle.formula_tree.specs.declared.reference.Corner.{Corner}

-- what a filled cell holds
pub data Content : Type 0 where
  number : ℤ → Content
  truth : Bool → Content
  text : List ℕ → Content
  -- a formula that has a tree, as it stands at the cell
  formula : Term Corner → Content
  -- the text of a formula that has no tree
  unreadable : List ℕ → Content

-- a book: what the filled cells hold
abbrev pub Book : Type 0
Book = map.FinMap place_cmp Content

abbrev pub is_formula : Content → Bool
is_formula (formula t) = true
is_formula _ = false

-- the places of a book that hold a formula with a tree
abbrev pub formulas_of : Book → List Place
formulas_of b = std.map (λ e. e.0) (filter (λ e. is_formula e.1) (map.entries b))
