-- What sets of nodes hold after a change.
use Rattle.std.proofs.Common.{◌≡◌, ◌∙◌, sym, ap, refl, arith, ℕ, Bool, true, false, cond, not, ◌&&◌, ◌||◌, List, [], ◌∷◌, eqb}
use Rattle.std.specs.List.{list_any}
use Rattle.std.specs.Ordering.{nat_cmp}
use Rattle.std.specs.BTreeMap.{is_at}
use Rattle.std.specs.BTreeSet.{BTreeSet, Updates, contains}
use Rattle.std.proofs.lemmas.Bool.Decides.{nat_tests}
use Rattle.needs_order.specs.Needs.{has}

-- a number is at another in the order where they are equal
at_equal : (k q : ℕ) → is_at (nat_cmp k) q ≡ eqb q k
at_equal k q = grind (arith, nat_tests)

-- a set has an item where it is one of its keys
contains_keys : (x : ℕ) (keys : List ℕ) → list_any (is_at (nat_cmp x)) keys ≡ has x keys
contains_keys x [] = refl
contains_keys x (k ∷ keys) = ap (λ t. t || list_any (is_at (nat_cmp x)) keys) (at_equal x k) ∙ ap (λ t. eqb k x || t) (contains_keys x keys)

pub contains_has : (s : BTreeSet ℕ) (x : ℕ) → contains nat_cmp s x ≡ has x s.keys
contains_has s x = contains_keys x s.keys

-- a set with one item more, and with one item less
cond_or : (t b : Bool) → cond t true b ≡ (b || t)
cond_or true true = refl
cond_or true false = refl
cond_or false true = refl
cond_or false false = refl

cond_and : (t b : Bool) → cond t false b ≡ (b && not t)
cond_and true true = refl
cond_and true false = refl
cond_and false true = refl
cond_and false false = refl

pub put_has : (old new : BTreeSet ℕ) (item x : ℕ) → Updates nat_cmp old new item true → has x new.keys ≡ (has x old.keys || eqb x item)
put_has old new item x updates =
    sym (contains_has new x) ∙ (updates.0 x ∙ (ap (λ t. cond t true (contains nat_cmp old x)) (at_equal item x)
    ∙ (cond_or (eqb x item) (contains nat_cmp old x) ∙ ap (λ b. b || eqb x item) (contains_has old x))))

pub drop_has : (old new : BTreeSet ℕ) (item x : ℕ) → Updates nat_cmp old new item false → has x new.keys ≡ (has x old.keys && not (eqb x item))
drop_has old new item x updates =
    sym (contains_has new x) ∙ (updates.0 x ∙ (ap (λ t. cond t false (contains nat_cmp old x)) (at_equal item x)
    ∙ (cond_and (eqb x item) (contains nat_cmp old x) ∙ ap (λ b. b && not (eqb x item)) (contains_has old x))))
