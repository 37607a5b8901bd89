-- The cells of a block are the same wherever the places that it covers show the same. Serves what a tree reads.
use Rattle.std.proofs.Common.{◌≡◌, ap, ap₂, refl, arith, ℕ, zero, suc, ◌+◌, ◌<◌, ◌≤◌, true, not, List, ◌∷◌, ◌++◌, map, length}
use Rattle.std.specs.List.{filter, flat_map, range_with_len}
use Rattle.std.proofs.lemmas.Bool.Decides.{nat_tests}
use Rattle.cell_addr.specs.declared.place.Place.{Place}
use Rattle.cell_addr.specs.declared.place.Block.{Block}
use Rattle.cell_addr.specs.Place.{covers, height, width}
use Rattle.cell_value.specs.Scalar.{is_empty}
use Rattle.cell_value.specs.declared.scalar.Scalar.{Scalar}
use Rattle.calc_terms.specs.Cells.{block_values, cells_in, filled_in, row_values}

-- what is the same of each number of a range is the same of all
map_range : {X : Type 0} (f g : ℕ → X) (from n : ℕ) → ((k : ℕ) → from ≤ k → k < from + n → f k ≡ g k) → map f (range_with_len from n) ≡ map g (range_with_len from n)
map_range f g from zero same = refl
map_range f g from (suc n) same =
    ap₂ (λ x xs. x ∷ xs) (same from (omega arith) (omega arith)) (map_range f g (from + 1) n (λ k low high. same k (omega arith) (omega arith)))

flat_range : {X : Type 0} (f g : ℕ → List X) (from n : ℕ) → ((k : ℕ) → from ≤ k → k < from + n → f k ≡ g k) → flat_map f (range_with_len from n) ≡ flat_map g (range_with_len from n)
flat_range f g from zero same = refl
flat_range f g from (suc n) same =
    ap₂ (λ xs ys. xs ++ ys) (same from (omega arith) (omega arith)) (flat_range f g (from + 1) n (λ k low high. same k (omega arith) (omega arith)))

-- the place in a row and a column of a block
abbrev at : Block → ℕ → ℕ → Place
at b row col = record { sheet = b.sheet; row = row; col = col }

covered : (b : Block) (row col : ℕ) → b.top ≤ row → row ≤ b.bottom → b.left ≤ col → col ≤ b.right → covers b (at b row col) ≡ true
covered b row col top bottom left right = grind (arith, nat_tests)

module _ (v w : Place → Scalar) (b : Block) (alike : (p : Place) → covers b p ≡ true → v p ≡ w p) where
  rows_alike : (row : ℕ) → b.top ≤ row → row < b.top + height b → row_values v b row ≡ row_values w b row
  rows_alike row low high = map_range (λ col. v (at b row col)) (λ col. w (at b row col)) b.left (width b)
      (λ col from to. alike (at b row col) (covered b row col low (omega arith) from (omega arith)))

  values_alike : block_values v b ≡ block_values w b
  values_alike = flat_range (row_values v b) (row_values w b) b.top (height b) rows_alike

  pub cells_alike : cells_in v b ≡ cells_in w b
  unfolding cells_in
  cells_alike = ap (λ values. record { rows = height b; cols = width b; values = values }) values_alike

  -- and as many of them aren't empty
  pub filled_alike : filled_in v b ≡ filled_in w b
  unfolding filled_in
  filled_alike = ap (λ values. length (filter (λ value. not (is_empty value)) values)) values_alike
