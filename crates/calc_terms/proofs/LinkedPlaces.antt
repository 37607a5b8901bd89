-- A tree mentions exactly the places of its links. Serves the law that says so.
use Rattle.std.proofs.Common.{◌≡◌, ◌∙◌, sym, ap, refl, Bool, true, false, not, ◌&&◌, ◌||◌, cond, List, []}
use Rattle.std.specs.List.{list_any}
use Rattle.std.proofs.lemmas.List.Folds.{list_any-append}
use Rattle.cell_addr.specs.declared.place.Place.{Place}
use Rattle.cell_addr.specs.Place.{covers, same_place}
use Rattle.formula_tree.specs.Links.{links_in, links_in_all, is_place_word}
use Rattle.formula_tree.specs.Reference.{block_of}
use Rattle.formula_tree.specs.Term.{Term, number, text, truth, fault, cell, area, whole, name, prefix, percent, binary, call, paren, Terms, no_terms, term, is_reference}
use Rattle.formula_tree.specs.declared.link.Link.{Link}
use Rattle.formula_tree.specs.declared.reference.Corner.{Corner}
use Rattle.calc_terms.specs.Laws.{is_link_to}
use Rattle.calc_terms.specs.Needs.{mentions, mentions_any}
use Rattle.calc_terms.specs.References.{full_block}

or-false : (b : Bool) → b ≡ (b || false)
or-false true = refl
or-false false = refl

-- an argument that is skipped has no links, and is not asked
skipped : (skip found : Bool) (p : Place) (links : List Link) → found ≡ list_any (is_link_to p) links → (not skip && found) ≡ list_any (is_link_to p) (cond skip [] links)
skipped true found p links same = refl
skipped false found p links same = same

mutual
  pub mentions-links : (t : Term Corner) (p : Place) → mentions t p ≡ list_any (is_link_to p) (links_in t)
  mentions-links (number m) p = refl
  mentions-links (text w) p = refl
  mentions-links (truth b) p = refl
  mentions-links (fault f) p = refl
  mentions-links (cell c) p = or-false (same_place c.at p)
  mentions-links (area c d) p = or-false (covers (block_of c d) p)
  mentions-links (whole axis c d) p = or-false (covers (full_block axis c d) p)
  mentions-links (name w) p = refl
  mentions-links (prefix s t) p = mentions-links t p
  mentions-links (percent t) p = mentions-links t p
  mentions-links (binary o l r) p =
      ap (λ b. b || mentions r p) (mentions-links l p) ∙ ap (λ b. list_any (is_link_to p) (links_in l) || b) (mentions-links r p)
      ∙ sym (list_any-append (is_link_to p) (links_in l) (links_in r))
  mentions-links (call w ts) p = mentions_any-links (is_place_word w) ts p
  mentions-links (paren t) p = mentions-links t p

  mentions_any-links : (skip : Bool) (ts : Terms Corner) (p : Place) → mentions_any skip ts p ≡ list_any (is_link_to p) (links_in_all skip ts)
  mentions_any-links skip no_terms p = refl
  mentions_any-links skip (term t ts) p =
      ap (λ b. b || mentions_any skip ts p) (skipped (skip && is_reference t) (mentions t p) p (links_in t) (mentions-links t p))
      ∙ ap (λ b. list_any (is_link_to p) (cond (skip && is_reference t) [] (links_in t)) || b) (mentions_any-links skip ts p)
      ∙ sym (list_any-append (is_link_to p) (cond (skip && is_reference t) [] (links_in t)) (links_in_all skip ts))
