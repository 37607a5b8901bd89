-- The names of a tree, and the places, blocks and whole ranges that its value depends on. Source: this project's own.
use Rattle.std.specs.Prelude.{◌≡◌, ℕ, Bool, true, false, ◌&&◌, ◌||◌, if◌then◌else◌, ◌==◌, List, [], ◌∷◌, ◌++◌, Option, Some, None, codes, bytes_eq}
use Rattle.std.specs.List.{list_any}
use Rattle.cell_addr.specs.Place.{same_place, same_block}
use Rattle.cell_addr.specs.Sheets.{same_name}
use Rattle.cell_addr.specs.Whole.{same_whole}
use Rattle.formula_tree.specs.declared.reference.Corner.{Corner}
use Rattle.formula_tree.specs.declared.link.Link.{Link}
use Rattle.formula_tree.specs.declared.link.Link.TheVariants as links
use Rattle.formula_tree.specs.Reference.{block_of}
use Rattle.formula_tree.specs.Whole.{whole_between}
use Rattle.formula_tree.specs.Term.{Term, cell, area, whole, name, prefix, percent, binary, call, paren, Terms, no_terms, term, is_reference}

-- the items after those done, without each that is the same as an earlier one
abbrev pub once_after : {X : Type 0} → (X → X → Bool) → List X → List X → List X
once_after same done [] = done
once_after same done (x ∷ xs) = once_after same (if list_any (same x) done then done else done ++ x ∷ []) xs

-- each item once, in the order of first occurrence
abbrev pub once : {X : Type 0} → (X → X → Bool) → List X → List X
once same xs = once_after same [] xs

-- no item is the same as one after it
abbrev pub AreApart : {X : Type 0} → (X → X → Bool) → List X → Type 0
AreApart same [] = Unit {0}
AreApart same (x ∷ xs) = (list_any (λ y. same y x) xs ≡ false) × AreApart same xs

abbrev mutual
  -- the names of a tree, in order
  pub names_in : {R : Type 0} → Term R → List (List ℕ)
  names_in (name w) = w ∷ []
  names_in (prefix s t) = names_in t
  names_in (percent t) = names_in t
  names_in (binary o l r) = names_in l ++ names_in r
  names_in (call w ts) = names_in_all ts
  names_in (paren t) = names_in t
  names_in t = []

  pub names_in_all : {R : Type 0} → Terms R → List (List ℕ)
  names_in_all no_terms = []
  names_in_all (term t ts) = names_in t ++ names_in_all ts

-- the same scope: a sheet, or all of the workbook
abbrev pub same_scope : Option ℕ → Option ℕ → Bool
same_scope None None = true
same_scope (Some s) (Some t) = s == t
same_scope s t = false

-- the same cell, block, whole range or name; a cell and the block of it alone are two links, and so are a whole range
-- and its block
abbrev pub same_link : Link → Link → Bool
same_link (links.Cell p) (links.Cell q) = same_place p q
same_link (links.Area b) (links.Area c) = same_block b c
same_link (links.Whole v) (links.Whole w) = same_whole v w
same_link (links.Name s v) (links.Name t w) = same_scope s t && same_name v w
same_link a b = false

-- functions that ask where a reference is, and not what its cells show
abbrev pub is_place_word : List ℕ → Bool
is_place_word w = (bytes_eq w (codes "ROW") || bytes_eq w (codes "COLUMN")) || (bytes_eq w (codes "ROWS") || bytes_eq w (codes "COLUMNS"))

abbrev mutual
  -- the places, blocks and whole ranges of a tree, in order; not those that are themselves the argument of a
  -- function that asks where they are
  pub links_in : Term Corner → List Link
  links_in (cell c) = links.Cell c.at ∷ []
  links_in (area c d) = links.Area (block_of c d) ∷ []
  links_in (whole axis c d) = links.Whole (whole_between axis c d) ∷ []
  links_in (prefix s t) = links_in t
  links_in (percent t) = links_in t
  links_in (binary o l r) = links_in l ++ links_in r
  links_in (call w ts) = links_in_all (is_place_word w) ts
  links_in (paren t) = links_in t
  links_in t = []

  pub links_in_all : Bool → Terms Corner → List Link
  links_in_all skip no_terms = []
  links_in_all skip (term t ts) = (if skip && is_reference t then [] else links_in t) ++ links_in_all skip ts
