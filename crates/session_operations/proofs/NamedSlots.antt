-- The name that a word finds. Serves links and the tests of refusals.
use Rattle.std.proofs.Common.{◌≡◌, ◌∙◌, sym, ap, refl, ℕ, Bool, true, false, cond, List, Option, Some, None, is_some, option_map}
use Rattle.std.specs.FinMap as fin
use Rattle.std.specs.Ordering.{eq_by_cmp}
use Rattle.shift_core.proofs.CarriedEntries.{eq_by_cmp-decides}
use Rattle.book_values.specs.Names.{Key, found, key_of, tree_in}
use Rattle.book_model.proofs.NameOrder.{key_cmp-IsAntisymmetric, key_cmp-IsTotalOrder}
use Rattle.book_model.specs.Names.{NameMap, key_cmp}
use Rattle.kept_book.proofs.FoundNames.{tree_in-entries}

pub is-key : (a b : Key) → eq_by_cmp key_cmp a b ≡ true → a ≡ b
is-key a b h = (eq_by_cmp-decides key_cmp-IsTotalOrder key_cmp-IsAntisymmetric a b).0 h

pub key-itself : (a b : Key) → a ≡ b → eq_by_cmp key_cmp a b ≡ true
key-itself a b h = (eq_by_cmp-decides key_cmp-IsTotalOrder key_cmp-IsAntisymmetric a b).1 h

pub is_some-map : {X Y : Type 0} (f : X → Y) (o : Option X) → is_some o ≡ is_some (option_map f o)
is_some-map f None = refl
is_some-map f (Some x) = refl

-- the name that a word finds is the sheet's own where there is one, else that of the whole workbook, if there is one
pub found-own : (m : NameMap) (word : List ℕ) (sheet : ℕ) → is_some (fin.get m (key_of (Some sheet) word)) ≡ true → Some (key_of (Some sheet) word) ≡ found (fin.entries m) word sheet
found-own m word sheet h =
    sym (ap (λ b. cond b (Some (key_of (Some sheet) word)) (cond (is_some (tree_in (fin.entries m) (key_of None word))) (Some (key_of None word)) None))
    (ap is_some (tree_in-entries m (key_of (Some sheet) word)) ∙ h))

pub found-other : (m : NameMap) (word : List ℕ) (sheet : ℕ) (b : Bool) → is_some (fin.get m (key_of (Some sheet) word)) ≡ false → is_some (fin.get m (key_of None word)) ≡ b
    → cond b (Some (key_of None word)) None ≡ found (fin.entries m) word sheet
found-other m word sheet b own whole =
    sym (ap (λ c. cond c (Some (key_of (Some sheet) word)) (cond (is_some (tree_in (fin.entries m) (key_of None word))) (Some (key_of None word)) None))
    (ap is_some (tree_in-entries m (key_of (Some sheet) word)) ∙ own)
    ∙ ap (λ c. cond c (Some (key_of None word)) None) (ap is_some (tree_in-entries m (key_of None word)) ∙ whole))
