-- The bytes of a text in front that pass a test, and what follows them. Serves the migration of texts.
use Rattle.std.proofs.Common.{◌≡◌, ◌∙◌, ap, refl, arith, ℕ, suc, ◌+◌, Bool, true, false, cond, List, [], ◌∷◌, drop}
use Rattle.std.specs.List.{list_all, prefix_len, take_while}
use Rattle.std.proofs.lemmas.Bool.{and_from}
use Rattle.std.proofs.lemmas.List.Sums.{take_while-cons}
use Rattle.formula_tree.specs.Run.{after_while, begins_with_any}

after-cons-by : (p : ℕ → Bool) (b : Bool) (c : ℕ) (cs : List ℕ) → drop (cond b (1 + prefix_len p cs) 0) (c ∷ cs) ≡ cond b (after_while p cs) (c ∷ cs)
after-cons-by p true c cs = let one : 1 + prefix_len p cs ≡ suc (prefix_len p cs) = omega arith in ap (λ n. drop n (c ∷ cs)) one
after-cons-by p false c cs = refl

pub after_while-cons : (p : ℕ → Bool) (c : ℕ) (cs : List ℕ) → after_while p (c ∷ cs) ≡ cond (p c) (after_while p cs) (c ∷ cs)
after_while-cons p c cs = after-cons-by p (p c) c cs

pub front-more : (p : ℕ → Bool) (c : ℕ) (cs : List ℕ) → p c ≡ true → take_while p (c ∷ cs) ≡ c ∷ take_while p cs
front-more p c cs h = take_while-cons p c cs ∙ ap (λ b. cond b (c ∷ take_while p cs) []) h

pub front-none : (p : ℕ → Bool) (c : ℕ) (cs : List ℕ) → p c ≡ false → take_while p (c ∷ cs) ≡ []
front-none p c cs h = take_while-cons p c cs ∙ ap (λ b. cond b (c ∷ take_while p cs) []) h

pub behind-more : (p : ℕ → Bool) (c : ℕ) (cs : List ℕ) → p c ≡ true → after_while p (c ∷ cs) ≡ after_while p cs
behind-more p c cs h = after_while-cons p c cs ∙ ap (λ b. cond b (after_while p cs) (c ∷ cs)) h

pub behind-none : (p : ℕ → Bool) (c : ℕ) (cs : List ℕ) → p c ≡ false → after_while p (c ∷ cs) ≡ c ∷ cs
behind-none p c cs h = after_while-cons p c cs ∙ ap (λ b. cond b (after_while p cs) (c ∷ cs)) h

all-front-by : (p : ℕ → Bool) (b : Bool) (c : ℕ) (cs : List ℕ) → p c ≡ b → list_all p (take_while p cs) ≡ true → list_all p (cond b (c ∷ take_while p cs) []) ≡ true
all-front-by p true c cs e h = and_from (p c) (list_all p (take_while p cs)) e h
all-front-by p false c cs e h = refl

pub all-front : (p : ℕ → Bool) (xs : List ℕ) → list_all p (take_while p xs) ≡ true
all-front p [] = refl
all-front p (c ∷ cs) = ap (list_all p) (take_while-cons p c cs) ∙ all-front-by p (p c) c cs refl (all-front p cs)

stop-behind-by : (p : ℕ → Bool) (b : Bool) (c : ℕ) (cs : List ℕ) → p c ≡ b → begins_with_any p (after_while p cs) ≡ false → begins_with_any p (cond b (after_while p cs) (c ∷ cs)) ≡ false
stop-behind-by p true c cs e h = h
stop-behind-by p false c cs e h = e

pub stop-behind : (p : ℕ → Bool) (xs : List ℕ) → begins_with_any p (after_while p xs) ≡ false
stop-behind p [] = refl
stop-behind p (c ∷ cs) = ap (begins_with_any p) (after_while-cons p c cs) ∙ stop-behind-by p (p c) c cs refl (stop-behind p cs)
