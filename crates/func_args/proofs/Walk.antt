-- What is said of all cells of an area, worked out over the filled ones: for every function that walks
-- an area.
use Rattle.std.proofs.Common.{◌≡◌, ◌∙◌, sym, ap, refl, ℕ, zero, suc, ◌+◌, ◌-◌, Bool, true, cond, List, [], ◌∷◌, ◌++◌, replicate, map, length, add-zero, zero-add, arith}
use Rattle.std.proofs.lemmas.List.{append-nil}
use Rattle.std.proofs.lemmas.List.Sums.{sum_by-append}
use Rattle.std.specs.List.{count_by}
use Rattle.cell_value.specs.declared.area.Filled.{Filled}
use Rattle.cell_value.specs.declared.scalar.Scalar.{Scalar}
use Rattle.cell_value.specs.declared.scalar.Scalar.TheVariants.{Empty}
use Rattle.cell_value.specs.Filled.{are_filled, spread}
use Rattle.cell_value.specs.Scalar.{is_empty}
use Rattle.cell_value.proofs.Spread.{next}

-- the value of a filled cell
abbrev pub value_of : Filled → Scalar
value_of cell = cell.value

module _ {A : Type 0} (f : List Scalar → A) (skips : (xs : List Scalar) → f (Empty ∷ xs) ≡ f xs) (follows : (x : Scalar) (xs ys : List Scalar) → f xs ≡ f ys → f (x ∷ xs) ≡ f (x ∷ ys)) where
  skips_gap : (n : ℕ) (xs : List Scalar) → f (replicate n Empty ++ xs) ≡ f xs
  skips_gap zero xs = refl
  skips_gap (suc n) xs = skips (replicate n Empty ++ xs) ∙ skips_gap n xs

  skips_end : (n : ℕ) → f (replicate n Empty) ≡ f []
  skips_end zero = refl
  skips_end (suc n) = skips (replicate n Empty) ∙ skips_end n

  -- what doesn't see empty cells says of all cells what it says of the filled ones
  pub of_filled : (from size : ℕ) (cells : List Filled) → f (spread from size cells) ≡ f (map value_of cells)
  of_filled from size [] = skips_end (size - from)
  of_filled from size (cell ∷ rest) =
      skips_gap (cell.index - from) (cell.value ∷ spread (cell.index + 1) size rest)
      ∙ follows cell.value (spread (cell.index + 1) size rest) (map value_of rest) (of_filled (cell.index + 1) size rest)

-- how many pass, of a list by its first value
pub count_by-cons : (p : Scalar → Bool) (x : Scalar) (xs : List Scalar) → count_by p (x ∷ xs) ≡ cond (p x) 1 0 + count_by p xs
count_by-cons p x xs = sum_by-append (λ y. cond (p y) 1 0) (x ∷ []) xs ∙ ap (λ n. n + count_by p xs) (zero-add (cond (p x) 1 0))

module _ (p : Scalar → Bool) (passes : p Empty ≡ true) where
  count-gap : (n : ℕ) (xs : List Scalar) → count_by p (replicate n Empty ++ xs) ≡ n + count_by p xs
  count-gap zero xs = sym (zero-add (count_by p xs))
  count-gap (suc n) xs =
      let e = count-gap n xs in
      let one : count_by p (Empty ∷ (replicate n Empty ++ xs)) ≡ 1 + count_by p (replicate n Empty ++ xs) = count_by-cons p Empty (replicate n Empty ++ xs) ∙ ap (λ b. cond b 1 0 + count_by p (replicate n Empty ++ xs)) passes in
      omega arith

  -- how many of all cells pass a test that empty cells pass
  pub count-filled : (from size : ℕ) (cells : List Filled) → are_filled from size cells ≡ true
      → count_by p (spread from size cells) + length cells ≡ count_by p (map value_of cells) + (size - from)
  count-filled from size [] h =
      let e = count-gap (size - from) [] in
      let n = append-nil (replicate (size - from) Empty) in
      let f : count_by p (replicate (size - from) Empty) ≡ size - from = ap (count_by p) (sym n) ∙ (e ∙ add-zero (size - from)) in
      omega arith
  count-filled from size (cell ∷ rest) h =
      let n = next from size cell rest h in
      let a = n.above in
      let b = n.below in
      let e = count-gap (cell.index - from) (cell.value ∷ spread (cell.index + 1) size rest) in
      let r = count-filled (cell.index + 1) size rest n.rest in
      let f : count_by p (cell.value ∷ spread (cell.index + 1) size rest) ≡ cond (p cell.value) 1 0 + count_by p (spread (cell.index + 1) size rest) = count_by-cons p cell.value (spread (cell.index + 1) size rest) in
      let g : count_by p (map value_of (cell ∷ rest)) ≡ cond (p cell.value) 1 0 + count_by p (map value_of rest) = count_by-cons p cell.value (map value_of rest) in
      let l : length (cell ∷ rest) ≡ 1 + length rest = omega arith in
      omega arith

-- no filled cell is empty
pub none_empty : (from size : ℕ) (cells : List Filled) → are_filled from size cells ≡ true → count_by is_empty (map value_of cells) ≡ 0
none_empty from size [] h = refl
none_empty from size (cell ∷ rest) h =
    let n = next from size cell rest h in
    let r = none_empty (cell.index + 1) size rest n.rest in
    let e : count_by is_empty (map value_of (cell ∷ rest)) ≡ 0 + count_by is_empty (map value_of rest) = count_by-cons is_empty cell.value (map value_of rest) ∙ ap (λ b. cond b 1 0 + count_by is_empty (map value_of rest)) n.filled in
    omega arith
