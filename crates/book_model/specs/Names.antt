-- The named expressions of a workbook, each with a tree. Source: this project's own; that a name stands for the whole
-- workbook or for one sheet is HyperFormula's.
use Rattle.std.specs.Prelude.{ℕ, ◌==◌, ◌&&◌, ◌||◌, nat_lt, nat_le, Bool, true, false, not, List, length, Option, Some, None, codes}
use Rattle.std.specs.Cmp.Lexicographic.{slice_cmp}
use Rattle.std.specs.FinMap as map
use Rattle.std.specs.Option.{option_cmp}
use Rattle.std.specs.Ordering.{nat_cmp, ordering_then}
use Rattle.std.specs.declared.cmp.Ordering.{Ordering}
use Rattle.cell_addr.specs.Address.{address_of}
use Rattle.cell_addr.specs.Sheets.{same_name}
use Rattle.cell_addr.specs.Word.{is_word}
use Rattle.cell_addr.specs.declared.place.TheConstants.{COLS, NO_SHEET, ROWS}
use Rattle.formula_tree.specs.Links.{same_scope}
use Rattle.formula_tree.specs.Term.{Term, cell, area, whole, prefix, percent, binary, call, paren, Terms, no_terms, term}
use Rattle.formula_tree.specs.declared.reference.Corner.{Corner}
use Rattle.book_values.specs.Names.{Key}
use Rattle.book_model.specs.declared.limits.TheConstants.{MAX_NAME}

-- names of the whole workbook first, then sheet by sheet, and within a scope by the bytes of their words
abbrev pub key_cmp : Key → Key → Ordering
key_cmp a b = ordering_then (option_cmp nat_cmp a.scope b.scope) (slice_cmp nat_cmp a.word b.word)

-- the trees of names by scope and word, the word in small letters
abbrev pub NameMap : Type 0
NameMap = map.FinMap key_cmp (Term Corner)

-- the names where this one has this tree, or none
abbrev pub with_tree : Key → Option (Term Corner) → NameMap → NameMap
with_tree key None names = map.remove names key
with_tree key (Some t) names = map.insert names key t

-- the name is one of a sheet's own
abbrev pub is_on_sheet : ℕ → Key → Bool
is_on_sheet sheet key = same_scope key.scope (Some sheet)

-- an address within the limits of a sheet
abbrev pub is_inside : Option (ℕ × ℕ) → Bool
is_inside (Some (row, col)) = nat_lt row ROWS && nat_lt col COLS
is_inside None = false

-- a truth value, in any case of its letters
abbrev pub is_truth : List ℕ → Bool
is_truth word = same_name word (codes "TRUE") || same_name word (codes "FALSE")

-- a word may be that of a name: 1 to 255 letters, digits, `_` and `.` of which the first is a letter or `_`, and neither a
-- truth value nor an address
abbrev pub is_name : List ℕ → Bool
is_name word = (is_word word && nat_le (length word) MAX_NAME) && (not (is_truth word) && not (is_inside (address_of word)))

-- a corner doesn't depend on where it is named: both of its parts have a `$`, and it is on a sheet
abbrev pub is_absolute : Corner → Bool
is_absolute c = (c.row_fixed && c.col_fixed) && not (c.at.sheet == NO_SHEET)

abbrev mutual
  -- nor does any corner of a tree; those of a whole range have a `$` across it anyway
  pub are_absolute : Term Corner → Bool
  are_absolute (cell c) = is_absolute c
  are_absolute (area c d) = is_absolute c && is_absolute d
  are_absolute (whole axis c d) = is_absolute c && is_absolute d
  are_absolute (prefix s t) = are_absolute t
  are_absolute (percent t) = are_absolute t
  are_absolute (binary o l r) = are_absolute l && are_absolute r
  are_absolute (call w ts) = all_are_absolute ts
  are_absolute (paren t) = are_absolute t
  are_absolute t = true

  pub all_are_absolute : Terms Corner → Bool
  all_are_absolute no_terms = true
  all_are_absolute (term t ts) = are_absolute t && all_are_absolute ts
