-- The tree of a name among the entries of a map of names is what stands under the name. Serves the laws on names.
use Rattle.std.proofs.Common.{◌≡◌, ◌∙◌, sym, ap, refl, subst, true, cond, List, [], ◌∷◌, Some}
use Rattle.std.specs.Cmp.{both_ways, tied_itself}
use Rattle.std.specs.FinMap as map
use Rattle.std.specs.FinMap.{find, get-entries}
use Rattle.std.specs.Ordering.{eq_by_cmp, is_eq}
use Rattle.std.specs.declared.cmp.Ordering.{Ordering}
use Rattle.std.specs.declared.cmp.Ordering.TheVariants.{Equal, Greater, Less}
use Rattle.formula_tree.specs.Term.{Term}
use Rattle.formula_tree.specs.declared.reference.Corner.{Corner}
use Rattle.book_values.specs.Names.{Key, same_key, tree_in}
use Rattle.book_values.proofs.Keys.{same_key-equal, same_key-self}
use Rattle.book_model.specs.Names.{NameMap, key_cmp}
use Rattle.book_model.proofs.NameOrder.{key_cmp-IsAntisymmetric, key_cmp-IsTotalOrder}

equal_of : (o : Ordering) → is_eq o ≡ true → o ≡ Equal
equal_of Less h = cc
equal_of Equal h = refl
equal_of Greater h = cc

-- keys that tie are equal, and a key ties with itself
pub tied_keys : (k l : Key) → eq_by_cmp key_cmp k l ≡ true → k ≡ l
tied_keys k l h = key_cmp-IsAntisymmetric k l (equal_of (key_cmp k l) h)

same_test : (k l : Key) → same_key l k ≡ eq_by_cmp key_cmp k l
same_test k l = both_ways (same_key l k) (eq_by_cmp key_cmp k l)
    (λ h. subst (λ m. eq_by_cmp key_cmp k m ≡ true) (sym (same_key-equal l k h)) (ap is_eq (tied_itself key_cmp-IsTotalOrder k)))
    (λ h. subst (λ m. same_key m k ≡ true) (tied_keys k l h) (same_key-self k))

tree_found : (key : Key) (entries : List (Key × Term Corner)) → tree_in entries key ≡ find key_cmp key entries
tree_found key [] = refl
tree_found key (e ∷ es) = ap (λ t. cond t (Some e.1) (tree_in es key)) (same_test key e.0) ∙ ap (λ o. cond (eq_by_cmp key_cmp key e.0) (Some e.1) o) (tree_found key es)

pub tree_in-entries : (names : NameMap) (key : Key) → tree_in (map.entries names) key ≡ map.get names key
tree_in-entries names key = tree_found key (map.entries names) ∙ sym (get-entries names key)
