-- No production takes the token that stands for what begins none. Serves the reading of texts that aren't made of
-- tokens.
use Rattle.std.proofs.Common.{◌≡◌, ◌∙◌, sym, refl, ℕ, true, List, [], ◌∷◌, Option, Some, None}
use Rattle.cell_addr.specs.declared.place.TheConstants.{ROWS}
use Rattle.formula_tree.specs.declared.address.End.{End}
use Rattle.formula_tree.specs.declared.reference.Corner.{Corner}
use Rattle.formula_tree.specs.Token.{Token}
use Rattle.formula_tree.specs.Token as tok
use Rattle.formula_tree.specs.Term.{Term, Terms}
use Rattle.formula_tree.specs.Grammar.{Leaf, a_number, a_text, a_truth, a_fault, a_name, a_corner, a_range, a_sheet_corner, a_sheet_range, a_whole, a_sheet_whole, Spells, lower, between, followed, before, leaf, inside, alone, called, SpellsAll, last, more, end_of}
use Rattle.formula_tree.specs.Reader.{tree_of}
use Rattle.formula_tree.proofs.Exact.{reader-exact}
use Rattle.formula_parse.proofs.Streams.{has_other}

-- nor is it an end of a whole range
end-other : (x : Token) (a : End) (tokens : List Token) → end_of ROWS x ≡ Some a → has_other (x ∷ tokens) ≡ has_other tokens
end-other (tok.Other []) a tokens e = cc
end-other (tok.Other (c ∷ cs)) a tokens e = refl
end-other x a tokens e = refl

module _ (home : ℕ) (find : List ℕ → Option ℕ) where
  leaf-other : {xs : List Token} {t : Term Corner} {zs : List Token} → Leaf home find xs t zs → has_other xs ≡ has_other zs
  leaf-other (a_number e) = refl
  leaf-other a_text = refl
  leaf-other a_truth = refl
  leaf-other a_fault = refl
  leaf-other a_name = refl
  leaf-other a_corner = refl
  leaf-other a_range = refl
  leaf-other a_sheet_corner = refl
  leaf-other a_sheet_range = refl
  leaf-other (a_whole {x = x} {y = y} {a = a} {b = b} {zs = zs} e f g) = end-other x a (tok.Colon ∷ y ∷ zs) e ∙ end-other y b zs f
  leaf-other (a_sheet_whole {x = x} {y = y} {a = a} {b = b} {zs = zs} e f g) = end-other x a (tok.Colon ∷ y ∷ zs) e ∙ end-other y b zs f

  -- what a tree's tokens leave holds it where they do
  mutual
    spelt-other : {k : ℕ} {xs : List Token} {t : Term Corner} {zs : List Token} → Spells home find k xs t zs → has_other xs ≡ has_other zs
    spelt-other (lower d) = spelt-other d
    spelt-other (between o d e) = spelt-other d ∙ spelt-other e
    spelt-other (followed d) = spelt-other d
    spelt-other (before s d) = spelt-other d
    spelt-other (leaf l) = leaf-other l
    spelt-other (inside d) = spelt-other d
    spelt-other alone = refl
    spelt-other (called ds) = all-other ds

    all-other : {xs : List Token} {ts : Terms Corner} {zs : List Token} → SpellsAll home find xs ts zs → has_other xs ≡ has_other zs
    all-other (last d) = spelt-other d
    all-other (more d ds) = spelt-other d ∙ all-other ds

  none-by : (tokens : List Token) (r : Option (Term Corner)) → has_other tokens ≡ true → tree_of home find tokens ≡ r → r ≡ None
  none-by tokens None h e = refl
  none-by tokens (Some t) h e =
      let spelt = ((reader-exact home find tokens t).0 e).0 in
      let same = spelt-other spelt in
      absurd (cc (sym h ∙ same))

  -- a list that holds it has no tree
  pub other-unread : (tokens : List Token) → has_other tokens ≡ true → tree_of home find tokens ≡ None
  other-unread tokens h = none-by tokens (tree_of home find tokens) h refl
