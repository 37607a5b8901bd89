-- What a step moves, for callers who go through the lists by their entries.
use Rattle.std.specs.Prelude.{Some, slice_get, ◌≡◌, ◌+◌, ◌-◌, ◌⊎◌, List, [], ◌∷◌, ◌++◌, length, take, drop, refl}
use Rattle.std.proofs.Common.{◌∙◌, ap, inl, inr, arith}
use Rattle.std.proofs.lemmas.List.{length_push}
use Rattle.std.proofs.Math.Seq.{drop-append_seam, take-append_seam}
use Rattle.undo_book.specs.History.{last_of, all_but_last, last_one}

module _ {E : Type 0} where
  -- one more than so many, less one
  one_less : (ys : List E) (e : E) → length (ys ++ e ∷ []) - 1 ≡ length ys
  one_less ys e = let l : length (ys ++ e ∷ []) ≡ length ys + 1 = length_push ys e in omega (arith, l)

  -- the rest of a list that ends in e
  pub all_but_last-end : (ys : List E) (e : E) → all_but_last 1 (ys ++ e ∷ []) ≡ ys
  all_but_last-end ys e = ap (λ n. take n (ys ++ e ∷ [])) (one_less ys e) ∙ take-append_seam ys (e ∷ [])

  -- its last one as a list
  pub last_of-end : (ys : List E) (e : E) → last_of 1 (ys ++ e ∷ []) ≡ e ∷ []
  last_of-end ys e = ap (λ n. drop n (ys ++ e ∷ [])) (one_less ys e) ∙ drop-append_seam ys (e ∷ [])

  -- a list is empty or ends in an entry
  pub ends_in : (xs : List E) → (xs ≡ []) ⊎ ((e : E) × (ys : List E) × (xs ≡ ys ++ e ∷ []))
  ends_in [] = inl refl
  ends_in (x ∷ xs) =
      elim (ends_in xs) [
        | inl none ↦ inr (x, [], ap (λ l. x ∷ l) none)
        | inr some ↦ inr (some.0, x ∷ some.1, ap (λ l. x ∷ l) some.2)
      ]

  -- what stands behind a list
  get_behind : (ys : List E) (e : E) → slice_get (ys ++ e ∷ []) (length ys) ≡ Some e
  get_behind [] e = refl
  get_behind (y ∷ ys) e = get_behind ys e

  -- the last one of a list that ends in e
  pub last_one-end : (ys : List E) (e : E) → last_one (ys ++ e ∷ []) ≡ Some e
  last_one-end ys e = ap (λ n. slice_get (ys ++ e ∷ []) n) (one_less ys e) ∙ get_behind ys e
