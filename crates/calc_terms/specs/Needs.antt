-- What a formula's tree needs: places, and names, which `names_in` lists. Source: this project's own.
use Rattle.std.specs.Prelude.{ℕ, Bool, false, not, ◌&&◌, ◌||◌, List, bytes_eq}
use Rattle.std.specs.List.{list_any}
use Rattle.cell_addr.specs.declared.place.Place.{Place}
use Rattle.cell_addr.specs.Place.{covers, same_place}
use Rattle.formula_tree.specs.Term.{Term, cell, area, whole, prefix, percent, binary, call, paren, Terms, no_terms, term, is_reference}
use Rattle.formula_tree.specs.Links.{is_place_word, names_in}
use Rattle.formula_tree.specs.Reference.{block_of}
use Rattle.formula_tree.specs.declared.reference.Corner.{Corner}
use Rattle.calc_terms.specs.References.{full_block}

abbrev mutual
  -- whether a tree mentions a place, by a reference to it or a block or whole range that covers it, in whatever
  -- branch. An argument of a function that asks where a reference is doesn't count, where it is a reference, a block or
  -- a whole range itself
  pub mentions : Term Corner → Place → Bool
  mentions (cell c) p = same_place c.at p
  mentions (area c d) p = covers (block_of c d) p
  mentions (whole axis c d) p = covers (full_block axis c d) p
  mentions (prefix s t) p = mentions t p
  mentions (percent t) p = mentions t p
  mentions (binary o l r) p = mentions l p || mentions r p
  mentions (call w ts) p = mentions_any (is_place_word w) ts p
  mentions (paren t) p = mentions t p
  mentions t p = false

  -- whether one of the arguments of a call does, where those that are references are skipped or not
  pub mentions_any : Bool → Terms Corner → Place → Bool
  mentions_any skip no_terms p = false
  mentions_any skip (term t ts) p = (not (skip && is_reference t) && mentions t p) || mentions_any skip ts p

-- whether a tree mentions a name, as it is written; a name counts wherever it stands
abbrev pub mentions_name : Term Corner → List ℕ → Bool
mentions_name t word = list_any (bytes_eq word) (names_in t)
