-- Formulas with the same text have the same tree. Serves the law on them.
use Rattle.std.proofs.Common.{◌∙◌, sym, ap, subst}
use Rattle.formula_tree.specs.Canonical.{formula_text}
use Rattle.formula_tree.specs.Grammar.{SpellsText}
use Rattle.formula_tree.specs.Laws.{SameTextSameTree}
use Rattle.formula_tree.specs.Proper.{IsProper, AreProper}
use Rattle.formula_tree.specs.Reference.{sheet_of}
use Rattle.formula_tree.specs.StandsFor.{ArePlacesInside, at_home, from_home}
use Rattle.formula_tree.specs.Term.{Term, number, text, truth, fault, cell, area, whole, name, prefix, percent, binary, call, paren, Terms, no_terms, term, EachCornerOfAll}
use Rattle.formula_tree.specs.declared.reference.Corner.{Corner}
use Rattle.cell_addr.specs.Place.{IsInside}
use Rattle.formula_tree.proofs.CanonicalText.{canonical-spells}
use Rattle.formula_tree.proofs.Exact.{one-tree}
use Rattle.formula_tree.proofs.SeenFromHome.{seen-back}

mutual
  -- the places of a proper tree lie within the limits of a sheet
  pub proper-inside : (t : Term Corner) → IsProper t → ArePlacesInside t
  proper-inside (number m) p = tt
  proper-inside (text w) p = tt
  proper-inside (truth b) p = tt
  proper-inside (fault f) p = tt
  proper-inside (cell c) p = p
  proper-inside (area c d) p = (p.0, p.1)
  proper-inside (whole axis c d) p = (p.0, p.1)
  proper-inside (name w) p = tt
  proper-inside (prefix s t) p = proper-inside t p.1
  proper-inside (percent t) p = proper-inside t p.1
  proper-inside (binary o l r) p = (proper-inside l p.2, proper-inside r p.3)
  proper-inside (call w ts) p = all_proper-inside ts p.1
  proper-inside (paren t) p = proper-inside t p

  all_proper-inside : (ts : Terms Corner) → AreProper ts → EachCornerOfAll (λ c. IsInside c.at) ts
  all_proper-inside no_terms p = tt
  all_proper-inside (term t ts) p = (proper-inside t p.0, all_proper-inside ts p.1)

pub same_text-same_tree : SameTextSameTree
same_text-same_tree home find names t u p l q m = (
  λ e.
      let spelt : SpellsText (sheet_of home) find (formula_text (sheet_of home) names t) u =
      subst (λ cs. SpellsText (sheet_of home) find cs u) (sym e) (canonical-spells (sheet_of home) find names u q m) in
      ap (from_home home) (one-tree (sheet_of home) find (formula_text (sheet_of home) names t) t u (canonical-spells (sheet_of home) find names t p l) spelt),
  λ e.
      ap (formula_text (sheet_of home) names) (sym (seen-back home t (proper-inside t p)) ∙ ap (at_home home) e ∙ seen-back home u (proper-inside u q)),
)
