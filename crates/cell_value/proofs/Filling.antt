-- Cells filled one after another, row by row: for every program that pushes values into an area in a loop.
use Rattle.std.proofs.Common.{◌≡◌, ◌∙◌, ap, refl, ℕ, zero, suc, ◌+◌, true, List, [], ◌∷◌, replicate, set, drop, add-one}
use Rattle.std.proofs.lemmas.Bool.{and_parts}
use Rattle.std.specs.List.{list_all}
use Rattle.cell_value.specs.declared.scalar.Scalar.{Scalar}
use Rattle.cell_value.specs.declared.scalar.Scalar.TheVariants.{Empty}
use Rattle.cell_value.specs.Scalar.{is_empty}

-- from any place on, empty cells are empty
pub empty_from_any : (n k : ℕ) → list_all is_empty (drop k (replicate n Empty)) ≡ true
empty_from_any zero zero = refl
empty_from_any zero (suc k) = refl
empty_from_any (suc n) zero = empty_from_any n zero
empty_from_any (suc n) (suc k) = empty_from_any n k

after : (values : List Scalar) (k : ℕ) (value : Scalar) → list_all is_empty (drop k values) ≡ true
    → list_all is_empty (drop (suc k) (set values k value)) ≡ true
after [] zero value h = refl
after [] (suc k) value h = refl
after (x ∷ values) zero value h = (and_parts (is_empty x) (list_all is_empty values) h).1
after (x ∷ values) (suc k) value h = after values k value h

-- where all cells from a place on are empty, those after it stay so when it gets a value
pub empty_after : (values : List Scalar) (k : ℕ) (value : Scalar) → list_all is_empty (drop k values) ≡ true
    → list_all is_empty (drop (k + 1) (set values k value)) ≡ true
empty_after values k value h = ap (λ n. list_all is_empty (drop n (set values k value))) (add-one k) ∙ after values k value h
