-- The parts of a list round the first item that passes a test. Serves the splitting of a text at a byte.
use Rattle.std.proofs.Common.{◌≡◌, ◌∙◌, sym, ap, arith, refl, ℕ, ◌+◌, ◌-◌, ◌≤◌, suc, Bool, true, false, not, cond, ◌==◌, List, [], ◌∷◌, ◌++◌, add-one, length, take, drop, Option, Some, None}
use Rattle.std.specs.List.{list_all, position, position_or_len, before_first, after_first}
use Rattle.std.proofs.lemmas.List.{take_all, take_at, drop_all, take_rest}
use Rattle.std.proofs.lemmas.Bool.{ltb-false, and_parts, and_from, ne_eqb, both_ways}
use Rattle.digits.specs.Digits.{is_digit}

found : (p n i : ℕ) (b : Bool) → cond b (Some p) None ≡ Some i → p ≡ i
found p n i true e = cc
found p n i false e = cc

missing : (p : ℕ) (b : Bool) (r : Option ℕ) → r ≡ None → r ≡ cond b (Some p) None → b ≡ false
missing p true r e f = cc
missing p false r e f = refl

pub position_or_len-Some : {X : Type 0} (p : X → Bool) (xs : List X) (i : ℕ) → position p xs ≡ Some i → position_or_len p xs ≡ i
position_or_len-Some p xs i e = found (position_or_len p xs) (length xs) i _ e

pub position_or_len-None : {X : Type 0} (p : X → Bool) (xs : List X) → position p xs ≡ None → length xs ≤ position_or_len p xs
position_or_len-None p xs e = ltb-false (position_or_len p xs) (length xs) (missing (position_or_len p xs) _ _ e refl)

pub before_first-Some : {X : Type 0} (p : X → Bool) (xs : List X) (i : ℕ) → position p xs ≡ Some i → take i xs ≡ before_first p xs
before_first-Some p xs i e = ap (λ n. take n xs) (sym (position_or_len-Some p xs i e))

pub before_first-None : {X : Type 0} (p : X → Bool) (xs : List X) → position p xs ≡ None → xs ≡ before_first p xs
before_first-None p xs e = sym (take_all (position_or_len p xs) xs (position_or_len-None p xs e))

pub after_first-Some : {X : Type 0} (p : X → Bool) (xs : List X) (i : ℕ) → position p xs ≡ Some i → take (length xs - (i + 1)) (drop (i + 1) xs) ≡ after_first p xs
after_first-Some p xs i e = take_rest xs (i + 1) ∙ ap (λ n. drop (n + 1) xs) (sym (position_or_len-Some p xs i e))

pub after_first-None : {X : Type 0} (p : X → Bool) (xs : List X) → position p xs ≡ None → [] ≡ after_first p xs
after_first-None p xs e = sym (drop_all (position_or_len p xs + 1) xs (omega (arith, position_or_len-None p xs e)))

-- ---- a text whose first part has no item that passes
position_or_len_after : {X : Type 0} (p : X → Bool) (xs : List X) (y : X) (ys : List X) → list_all (λ x. not (p x)) xs ≡ true → p y ≡ true → position_or_len p (xs ++ y ∷ ys) ≡ length xs
position_or_len_after p [] y ys h e = rw e refl
position_or_len_after p (x ∷ xs) y ys h e =
    let parts = and_parts (not (p x)) (list_all (λ z. not (p z)) xs) h in
    rw (parts.0, position_or_len_after p xs y ys parts.1 e) (omega arith)

position_or_len_none : {X : Type 0} (p : X → Bool) (xs : List X) → list_all (λ x. not (p x)) xs ≡ true → position_or_len p xs ≡ length xs
position_or_len_none p [] h = refl
position_or_len_none p (x ∷ xs) h =
    let parts = and_parts (not (p x)) (list_all (λ z. not (p z)) xs) h in
    rw (parts.0, position_or_len_none p xs parts.1) (omega arith)

after_one : {X : Type 0} (xs : List X) (y : X) (ys : List X) → drop (suc (length xs)) (xs ++ y ∷ ys) ≡ ys
after_one [] y ys = refl
after_one (x ∷ xs) y ys = after_one xs y ys

-- round the first item that passes stand the parts that were put together
pub before_first-append : {X : Type 0} (p : X → Bool) (xs : List X) (y : X) (ys : List X) → list_all (λ x. not (p x)) xs ≡ true → p y ≡ true → before_first p (xs ++ y ∷ ys) ≡ xs
before_first-append p xs y ys h e = ap (λ n. take n (xs ++ y ∷ ys)) (position_or_len_after p xs y ys h e) ∙ take_at xs (y ∷ ys) (length xs) refl

pub after_first-append : {X : Type 0} (p : X → Bool) (xs : List X) (y : X) (ys : List X) → list_all (λ x. not (p x)) xs ≡ true → p y ≡ true → after_first p (xs ++ y ∷ ys) ≡ ys
after_first-append p xs y ys h e =
    ap (λ n. drop (n + 1) (xs ++ y ∷ ys)) (position_or_len_after p xs y ys h e)
    ∙ rw (add-one) (after_one xs y ys)

-- where no item passes, all stands before it and nothing after it
pub before_first-none : {X : Type 0} (p : X → Bool) (xs : List X) → list_all (λ x. not (p x)) xs ≡ true → before_first p xs ≡ xs
before_first-none p xs h = take_all (position_or_len p xs) xs (omega (arith, position_or_len_none p xs h))

pub after_first-none : {X : Type 0} (p : X → Bool) (xs : List X) → list_all (λ x. not (p x)) xs ≡ true → after_first p xs ≡ []
after_first-none p xs h = drop_all (position_or_len p xs + 1) xs (omega (arith, position_or_len_none p xs h))

-- among digits there is no byte that isn't one
pub digits_without : (c : ℕ) (ds : List ℕ) → is_digit c ≡ false → list_all is_digit ds ≡ true → list_all (λ d. not (d == c)) ds ≡ true
digits_without c [] n h = refl
digits_without c (d ∷ ds) n h =
    let parts = and_parts (is_digit d) (list_all is_digit ds) h in
    and_from _ _ (ap not (ne_eqb d c (λ e. both_ways (is_digit c) n (ap is_digit (sym e) ∙ parts.0)))) (digits_without c ds n parts.1)
