-- How many elements pass a test: serves the bounds on the length of chains.
use Rattle.std.proofs.Common.{◌≡◌, ℕ, suc, ◌<◌, ◌≤◌, ◌||◌, Bool, true, false, cond, List, [], ◌∷◌, length, filter, sym, refl, ap, ◌∙◌, subst, arith, zero-le}
use Rattle.std.specs.List.{list_any}
use Rattle.std.proofs.lemmas.Bool.{true_from_ne_false, false≢true}

module _ {K : Type 0} where
  -- how many elements of the list pass
  abbrev pub passing : (K → Bool) → List K → ℕ
  passing test xs = length (filter test xs)

  -- a wider test passes at least as often
  pub passing_wider : (narrow wide : K → Bool) (xs : List K) → ((x : K) → narrow x ≡ true → wide x ≡ true) → passing narrow xs ≤ passing wide xs
  passing_wider narrow wide [] wider = zero-le
  passing_wider narrow wide (x ∷ xs) wider = go (passing_wider narrow wide xs wider) (narrow x) (wide x) refl refl
    where
      go : passing narrow xs ≤ passing wide xs → (s t : Bool) → narrow x ≡ s → wide x ≡ t → length (cond s (x ∷ filter narrow xs) (filter narrow xs)) ≤ length (cond t (x ∷ filter wide xs) (filter wide xs))
      go rest true true e f = omega (arith, rest)
      go rest true false e f = absurd (false≢true (sym f ∙ wider x e))
      go rest false true e f = omega (arith, rest)
      go rest false false e f = rest

  -- a wider test passes more often where it passes one element more
  pub passing_rises : (narrow wide more : K → Bool) (xs : List K) → ((x : K) → narrow x ≡ true → wide x ≡ true) → ((x : K) → more x ≡ true → (narrow x ≡ false) × (wide x ≡ true)) → list_any more xs ≡ true → passing narrow xs < passing wide xs
  passing_rises narrow wide more [] wider gains h = absurd (false≢true h)
  passing_rises narrow wide more (x ∷ xs) wider gains h = go (passing_rises narrow wide more xs wider gains) (more x) (narrow x) (wide x) refl refl refl h
    where
      below : passing narrow xs ≤ passing wide xs
      below = passing_wider narrow wide xs wider

      go : (list_any more xs ≡ true → passing narrow xs < passing wide xs) → (r s t : Bool) → more x ≡ r → narrow x ≡ s → wide x ≡ t → (r || list_any more xs) ≡ true → length (cond s (x ∷ filter narrow xs) (filter narrow xs)) < length (cond t (x ∷ filter wide xs) (filter wide xs))
      go rest true true t d e f l = absurd (false≢true (sym (gains x d).0 ∙ e))
      go rest true false false d e f l = absurd (false≢true (sym f ∙ (gains x d).1))
      go rest true false true d e f l = omega (arith, below)
      go rest false true true d e f l = let up = rest l in omega (arith, up)
      go rest false true false d e f l = absurd (false≢true (sym f ∙ wider x e))
      go rest false false true d e f l = let up = rest l in omega (arith, up)
      go rest false false false d e f l = rest l

  -- where a wider test passes no more often, it passes the same elements
  pub passing_still : (same : K → K → Bool) (narrow wide : K → Bool) (xs : List K) (x : K) → ((y : K) → same x y ≡ true → x ≡ y) → ((y : K) → narrow y ≡ true → wide y ≡ true) → passing wide xs ≤ passing narrow xs → list_any (same x) xs ≡ true → wide x ≡ true → narrow x ≡ true
  passing_still same narrow wide xs x equal wider still inside passes = true_from_ne_false (narrow x) λ fails.
      let up = passing_rises narrow wide (same x) xs wider (λ y s. (subst (λ z. narrow z ≡ false) (equal y s) fails, subst (λ z. wide z ≡ true) (equal y s) passes)) inside in
      omega (arith, up, still)

  -- a test passes no more often than there are elements
  pub passing_within : (test : K → Bool) (xs : List K) → passing test xs ≤ length xs
  passing_within test [] = zero-le
  passing_within test (x ∷ xs) = go (passing_within test xs) (test x)
    where
      go : passing test xs ≤ length xs → (b : Bool) → length (cond b (x ∷ filter test xs) (filter test xs)) ≤ suc (length xs)
      go rest true = omega (arith, rest)
      go rest false = omega (arith, rest)

  -- a test that always passes counts the list
  pub passing_all : (xs : List K) → passing (λ _. true) xs ≡ length xs
  passing_all [] = refl
  passing_all (x ∷ xs) = ap suc (passing_all xs)
