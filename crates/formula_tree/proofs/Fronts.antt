-- Fronts of texts: the bytes that pass a test, and what follows them. Serves the law that the
-- canonical text spells its tree.
use Rattle.std.proofs.Common.{◌≡◌, ◌∙◌, ap, refl, arith, ℕ, Bool, true, false, List, [], ◌∷◌, ◌++◌, length, take, drop}
use Rattle.std.specs.List.{list_all, prefix_len, take_while}
use Rattle.std.proofs.lemmas.Bool.{and_parts, and_from}
use Rattle.std.proofs.Math.Seq.{take-append_seam, drop-append_seam}
use Rattle.formula_tree.specs.Run.{begins_with_any, after_while}

pub prefix_len-append : (p : ℕ → Bool) (xs ys : List ℕ) → list_all p xs ≡ true → begins_with_any p ys ≡ false → prefix_len p (xs ++ ys) ≡ length xs
prefix_len-append p [] [] h g = refl
prefix_len-append p [] (y ∷ ys) h g = rw g refl
prefix_len-append p (x ∷ xs) ys h g =
    let parts = and_parts (p x) (list_all p xs) h in
    let rest = prefix_len-append p xs ys parts.1 g in
    rw (parts.0, rest) (omega arith)

pub take_while-append : (p : ℕ → Bool) (xs ys : List ℕ) → list_all p xs ≡ true → begins_with_any p ys ≡ false → take_while p (xs ++ ys) ≡ xs
take_while-append p xs ys h g = ap (λ n. take n (xs ++ ys)) (prefix_len-append p xs ys h g) ∙ take-append_seam xs ys

pub after_while-append : (p : ℕ → Bool) (xs ys : List ℕ) → list_all p xs ≡ true → begins_with_any p ys ≡ false → after_while p (xs ++ ys) ≡ ys
after_while-append p xs ys h g = ap (λ n. drop n (xs ++ ys)) (prefix_len-append p xs ys h g) ∙ drop-append_seam xs ys

-- bytes that all pass a test pass a weaker one
pub all-weaker : (p q : ℕ → Bool) → ((c : ℕ) → p c ≡ true → q c ≡ true) → (xs : List ℕ) → list_all p xs ≡ true → list_all q xs ≡ true
all-weaker p q f [] h = refl
all-weaker p q f (x ∷ xs) h =
    let parts = and_parts (p x) (list_all p xs) h in
    and_from (q x) (list_all q xs) (f x parts.0) (all-weaker p q f xs parts.1)
