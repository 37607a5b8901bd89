-- A block of the same size whose cells show the same, offset by offset, has the same cells. Serves the law.
use Rattle.std.proofs.Common.{◌≡◌, ◌∙◌, sym, ap, ap₂, refl, arith, ℕ, zero, suc, ◌+◌, ◌<◌, List, ◌∷◌, ◌++◌, map}
use Rattle.std.specs.List.{flat_map, range_with_len}
use Rattle.cell_addr.specs.Place.{Covers, height, width}
use Rattle.cell_addr.specs.declared.place.Block.{Block}
use Rattle.cell_addr.specs.declared.place.Place.{Place}
use Rattle.cell_value.specs.declared.scalar.Scalar.{Scalar}
use Rattle.shift_core.specs.Carried.{carried_place, first_place}
use Rattle.calc_terms.specs.Cells.{cells_in, row_values}
use Rattle.carried_terms.specs.Carried.{ShowsAlong}
use Rattle.carried_terms.specs.Laws.{CellsGoAlong}

none : (n : ℕ) → n + 0 ≡ n
none n = omega arith

next : (n k : ℕ) → n + 1 + k ≡ n + suc k
next n k = omega arith

-- what is the same of the numbers of two ranges, one after the other, is the same of all
map_ranges : {X : Type 0} (f g : ℕ → X) (from to n : ℕ) → ((k : ℕ) → k < n → f (from + k) ≡ g (to + k)) → map f (range_with_len from n) ≡ map g (range_with_len to n)
map_ranges f g from to zero same = refl
map_ranges f g from to (suc n) same =
    ap₂ (λ x xs. x ∷ xs) (sym (ap f (none from)) ∙ same 0 (omega arith) ∙ ap g (none to)) (map_ranges f g (from + 1) (to + 1) n (λ k low. ap f (next from k) ∙ same (suc k) (omega arith) ∙ sym (ap g (next to k))))

flat_ranges : {X : Type 0} (f g : ℕ → List X) (from to n : ℕ) → ((k : ℕ) → k < n → f (from + k) ≡ g (to + k)) → flat_map f (range_with_len from n) ≡ flat_map g (range_with_len to n)
flat_ranges f g from to zero same = refl
flat_ranges f g from to (suc n) same =
    ap₂ (λ xs ys. xs ++ ys) (sym (ap f (none from)) ∙ same 0 (omega arith) ∙ ap g (none to)) (flat_ranges f g (from + 1) (to + 1) n (λ k low. ap f (next from k) ∙ same (suc k) (omega arith) ∙ sym (ap g (next to k))))

-- the place in a row and a column of a block
abbrev at : Block → ℕ → ℕ → Place
at b row col = record { sheet = b.sheet; row = row; col = col }

covered : (b : Block) (i j : ℕ) → i < height b → j < width b → Covers b (at b (b.top + i) (b.left + j))
covered b i j low near = (refl, omega arith, omega arith, omega arith, omega arith)

same_spot : (p q : Place) → p.sheet ≡ q.sheet → p.row ≡ q.row → p.col ≡ q.col → p ≡ q
same_spot p q sheets rows cols = λ i. record { sheet = sheets i; row = rows i; col = cols i }

-- the place that an offset comes to
carried_at : (b c : Block) (i j : ℕ) → carried_place b (first_place c) (at b (b.top + i) (b.left + j)) ≡ at c (c.top + i) (c.left + j)
carried_at b c i j = same_spot _ _ refl (omega arith) (omega arith)

module _ (v w : Place → Scalar) (b c : Block) (heights : height b ≡ height c) (widths : width b ≡ width c) (shows : ShowsAlong v w b c) where
  shown_at : (i j : ℕ) → i < height b → j < width b → v (at b (b.top + i) (b.left + j)) ≡ w (at c (c.top + i) (c.left + j))
  shown_at i j low near = shows (at b (b.top + i) (b.left + j)) (covered b i j low near) ∙ ap w (carried_at b c i j)

  rows_along : (i : ℕ) → i < height b → row_values v b (b.top + i) ≡ row_values w c (c.top + i)
  rows_along i low =
      map_ranges (λ col. v (at b (b.top + i) col)) (λ col. w (at c (c.top + i) col)) b.left c.left (width b) (λ j near. shown_at i j low near)
      ∙ ap (λ n. map (λ col. w (at c (c.top + i) col)) (range_with_len c.left n)) widths

  pub cells_along : cells_in v b ≡ cells_in w c
  unfolding cells_in
  cells_along =
      λ k. record {
        rows = heights k;
        cols = widths k;
        values = (flat_ranges (row_values v b) (row_values w c) b.top c.top (height b) rows_along
            ∙ ap (λ n. flat_map (row_values w c) (range_with_len c.top n)) heights) k;
      }

pub cells_go_along : CellsGoAlong
cells_go_along v w b c heights widths shows = cells_along v w b c heights widths shows
