-- The cells of a block where one place changes what it shows, and whether those from a place on are empty. Serves the
-- blocks of which the filled cells are known.
use Rattle.std.proofs.Common.{◌≡◌, ◌∙◌, sym, ap, ap₂, refl, arith, ℕ, zero, suc, ◌+◌, ◌-◌, ◌*◌, ◌<◌, ◌≤◌, true, List, [], ◌∷◌, ◌++◌, map, length, set, drop, replicate, length-append, zero-add}
use Rattle.std.specs.List.{flat_map, list_all, range_with_len}
use Rattle.std.proofs.Math.Nat.{suc-mul}
use Rattle.std.proofs.lemmas.Bool.{and_from}
use Rattle.std.proofs.lemmas.List.{replicate-append-replicate, set-append_left, set-append_right}
use Rattle.std.proofs.lemmas.List.FromFn.{length-map-range_with_len}
use Rattle.cell_addr.specs.Place.{height, width}
use Rattle.cell_addr.specs.declared.place.Place.{Place}
use Rattle.cell_addr.specs.declared.place.Block.{Block}
use Rattle.cell_value.specs.Cells.{empty_cells, with_value}
use Rattle.cell_value.specs.Scalar.{is_empty}
use Rattle.cell_value.specs.declared.scalar.Scalar.{Scalar}
use Rattle.cell_value.specs.declared.scalar.Scalar.TheVariants.{Empty}
use Rattle.calc_terms.specs.Cells.{cells_in, row_values, size_of}

module _ {X : Type 0} where
  -- what is the same from a number on
  map_same : (f g : ℕ → X) (from n : ℕ) → ((k : ℕ) → from ≤ k → f k ≡ g k) → map f (range_with_len from n) ≡ map g (range_with_len from n)
  map_same f g from zero same = refl
  map_same f g from (suc n) same = ap₂ (λ x xs. x ∷ xs) (same from (omega arith)) (map_same f g (from + 1) n (λ k low. same k (omega arith)))

  flat_same : (f g : ℕ → List X) (from n : ℕ) → ((k : ℕ) → from ≤ k → f k ≡ g k) → flat_map f (range_with_len from n) ≡ flat_map g (range_with_len from n)
  flat_same f g from zero same = refl
  flat_same f g from (suc n) same = ap₂ (λ xs ys. xs ++ ys) (same from (omega arith)) (flat_same f g (from + 1) n (λ k low. same k (omega arith)))

  -- one of the numbers of a range has another value
  set_in_row : (f g : ℕ → X) (from n i : ℕ) (v : X) → i < n → g (from + i) ≡ v → ((k : ℕ) → (k ≡ from + i → ⊥) → g k ≡ f k)
      → set (map f (range_with_len from n)) i v ≡ map g (range_with_len from n)
  set_in_row f g from zero i v inside is others = absurd (omega arith)
  set_in_row f g from (suc n) zero v inside is others =
      let here : from ≡ from + 0 = omega arith in
      ap₂ (λ x xs. x ∷ xs) (sym is ∙ ap g (sym here)) (map_same f g (from + 1) n (λ k low. sym (others k (λ e. omega (arith, e, low)))))
  set_in_row f g from (suc n) (suc i) v inside is others =
      let there : from + 1 + i ≡ from + suc i = omega arith in
      ap₂ (λ x xs. x ∷ xs) (sym (others from (λ e. omega (arith, e))))
      (set_in_row f g (from + 1) n i v (omega arith) (ap g there ∙ is) (λ k apart. others k (λ e. apart (e ∙ sym there))))

  set_in_rows : (f g : ℕ → List X) (from n w row i : ℕ) (v : X) → row < n → i < w → ((k : ℕ) → length (f k) ≡ w) → set (f (from + row)) i v ≡ g (from + row)
      → ((k : ℕ) → (k ≡ from + row → ⊥) → g k ≡ f k) → set (flat_map f (range_with_len from n)) (row * w + i) v ≡ flat_map g (range_with_len from n)
  set_in_rows f g from zero w row i v inside within long is others = absurd (omega arith)
  set_in_rows f g from (suc n) w zero i v inside within long is others =
      let here : from ≡ from + 0 = omega arith in
      let len = long from in
      let first : 0 * w + i ≡ i = omega arith in
      ap (λ k. set (flat_map f (range_with_len from (suc n))) k v) first
      ∙ set-append_left (f from) (flat_map f (range_with_len (from + 1) n)) i v (omega (arith, len, within))
      ∙ ap₂ (λ xs ys. xs ++ ys) (ap (λ k. set (f k) i v) here ∙ is ∙ ap g (sym here)) (flat_same f g (from + 1) n (λ k low. sym (others k (λ e. omega (arith, e, low)))))
  set_in_rows f g from (suc n) w (suc row) i v inside within long is others =
      let there : from + 1 + row ≡ from + suc row = omega arith in
      let more = suc-mul row w in
      let back : suc row * w + i - w ≡ row * w + i = omega (arith, more) in
      set-append_right (f from) (flat_map f (range_with_len (from + 1) n)) w (suc row * w + i) v (long from) (omega (arith, more))
      ∙ ap₂ (λ xs ys. xs ++ ys) (sym (others from (λ e. omega (arith, e))))
      (ap (λ k. set (flat_map f (range_with_len (from + 1) n)) k v) back
      ∙ set_in_rows f g (from + 1) n w row i v (omega arith) within long (ap (λ k. set (f k) i v) there ∙ is ∙ ap g (sym there)) (λ k apart. others k (λ e. apart (e ∙ sym there))))

all_append : (xs ys : List Scalar) → list_all is_empty xs ≡ true → list_all is_empty ys ≡ true → list_all is_empty (xs ++ ys) ≡ true
all_append [] ys a b = b
all_append (x ∷ xs) ys a b = grind (arith, all_append xs ys)

-- the values of a row from a number on are empty
row_empty : (f : ℕ → Scalar) (from n i : ℕ) → ((k : ℕ) → from + i ≤ k → is_empty (f k) ≡ true) → list_all is_empty (drop i (map f (range_with_len from n))) ≡ true
row_empty f from zero zero none = refl
row_empty f from zero (suc i) none = refl
row_empty f from (suc n) zero none = and_from (is_empty (f from)) (list_all is_empty (map f (range_with_len (from + 1) n))) (none from (omega arith)) (row_empty f (from + 1) n zero (λ k low. none k (omega arith)))
row_empty f from (suc n) (suc i) none = row_empty f (from + 1) n i (λ k low. none k (omega arith))

rows_all_empty : (f : ℕ → List Scalar) (from n : ℕ) → ((k : ℕ) → from ≤ k → list_all is_empty (f k) ≡ true) → list_all is_empty (flat_map f (range_with_len from n)) ≡ true
rows_all_empty f from zero none = refl
rows_all_empty f from (suc n) none = all_append (f from) (flat_map f (range_with_len (from + 1) n)) (none from (omega arith)) (rows_all_empty f (from + 1) n (λ k low. none k (omega arith)))

drop_left : {X : Type 0} (xs ys : List X) (i : ℕ) → i ≤ length xs → drop i (xs ++ ys) ≡ drop i xs ++ ys
drop_left xs ys zero h = refl
drop_left [] ys (suc i) h = absurd (omega arith)
drop_left (x ∷ xs) ys (suc i) h = drop_left xs ys i (omega arith)

drop_right : {X : Type 0} (xs ys : List X) (i : ℕ) → drop (length xs + i) (xs ++ ys) ≡ drop i ys
drop_right [] ys i = ap (λ k. drop k ys) (zero-add i)
drop_right (x ∷ xs) ys i =
    let next : suc (length xs) + i ≡ suc (length xs + i) = omega arith in
    ap (λ k. drop k (x ∷ (xs ++ ys))) next ∙ drop_right xs ys i

rows_empty : (f : ℕ → List Scalar) (from n w row i : ℕ) → i ≤ w → ((k : ℕ) → length (f k) ≡ w) → row < n → list_all is_empty (drop i (f (from + row))) ≡ true
    → ((k : ℕ) → from + row < k → list_all is_empty (f k) ≡ true) → list_all is_empty (drop (row * w + i) (flat_map f (range_with_len from n))) ≡ true
rows_empty f from zero w row i within long inside rest none = absurd (omega arith)
rows_empty f from (suc n) w zero i within long inside rest none =
    let len = long from in
    let here : from + 0 ≡ from = omega arith in
    let first : 0 * w + i ≡ i = omega arith in
    ap (λ k. list_all is_empty (drop k (flat_map f (range_with_len from (suc n))))) first
    ∙ ap (list_all is_empty) (drop_left (f from) (flat_map f (range_with_len (from + 1) n)) i (omega (arith, len, within)))
    ∙ all_append (drop i (f from)) (flat_map f (range_with_len (from + 1) n)) (ap (λ k. list_all is_empty (drop i (f k))) (sym here) ∙ rest) (rows_all_empty f (from + 1) n (λ k low. none k (omega arith)))
rows_empty f from (suc n) w (suc row) i within long inside rest none =
    let len = long from in
    let more = suc-mul row w in
    let there : from + 1 + row ≡ from + suc row = omega arith in
    let past : suc row * w + i ≡ length (f from) + (row * w + i) = omega (arith, len, more) in
    ap (λ k. list_all is_empty (drop k (flat_map f (range_with_len from (suc n))))) past
    ∙ ap (list_all is_empty) (drop_right (f from) (flat_map f (range_with_len (from + 1) n)) (row * w + i))
    ∙ rows_empty f (from + 1) n w row i within long (omega arith) (ap (λ k. list_all is_empty (drop i (f k))) there ∙ rest) (λ k low. none k (omega arith))

-- the place in this row and column of a block's sheet
abbrev spot : Block → ℕ → ℕ → Place
spot b row col = record { sheet = b.sheet; row = row; col = col }

module _ (b : Block) (row col : ℕ) (inside : row < height b) (within : col < width b) where
  abbrev here : Place
  here = spot b (b.top + row) (b.left + col)

  -- the cells where this place shows something else
  pub with_value_in : (f g : Place → Scalar) (v : Scalar) → g here ≡ v → ((q : Place) → (q ≡ here → ⊥) → g q ≡ f q) → with_value (cells_in f b) row col v ≡ cells_in g b
  unfolding cells_in
  with_value_in f g v is others =
      ap (λ values. record { rows = height b; cols = width b; values = values })
      (set_in_rows (row_values f b) (row_values g b) b.top (height b) (width b) row col v inside within
      (λ k. length-map-range_with_len (λ c. f (spot b k c)) b.left (width b))
      (set_in_row (λ c. f (spot b (b.top + row) c)) (λ c. g (spot b (b.top + row) c)) b.left (width b) col v within is (λ k apart. others (spot b (b.top + row) k) (λ e. apart (ap (λ q. q.col) e))))
      (λ k apart. map_same (λ c. g (spot b k c)) (λ c. f (spot b k c)) b.left (width b) (λ c low. others (spot b k c) (λ e. apart (ap (λ q. q.row) e)))))

  -- the cells from this one on are empty where all places from this one on show nothing
  pub empty_from_in : (f : Place → Scalar) → ((c : ℕ) → b.left + col ≤ c → is_empty (f (spot b (b.top + row) c)) ≡ true) → ((r c : ℕ) → b.top + row < r → is_empty (f (spot b r c)) ≡ true)
      → list_all is_empty (drop (row * width b + col) (cells_in f b).values) ≡ true
  unfolding cells_in
  empty_from_in f rest none =
      rows_empty (row_values f b) b.top (height b) (width b) row col (omega arith)
      (λ k. length-map-range_with_len (λ c. f (spot b k c)) b.left (width b)) inside
      (row_empty (λ c. f (spot b (b.top + row) c)) b.left (width b) col rest)
      (λ k low. row_empty (λ c. f (spot b k c)) b.left (width b) 0 (λ c from. none k c low))

row_of_none : (from n : ℕ) → map (λ c. Empty) (range_with_len from n) ≡ replicate n Empty
row_of_none from zero = refl
row_of_none from (suc n) = ap (λ xs. Empty ∷ xs) (row_of_none (from + 1) n)

rows_of_none : (from w n : ℕ) (first : ℕ) → flat_map (λ (row : ℕ). map (λ (c : ℕ). Empty) (range_with_len from w)) (range_with_len first n) ≡ replicate (n * w) Empty
rows_of_none from w zero first = let none : 0 ≡ 0 * w = omega arith in ap (λ k. replicate k Empty) none
rows_of_none from w (suc n) first =
    let more = suc-mul n w in
    let size : w + n * w ≡ suc n * w = omega (arith, more) in
    ap₂ (λ xs ys. xs ++ ys) (row_of_none from w) (rows_of_none from w n (first + 1)) ∙ replicate-append-replicate w (n * w) Empty ∙ ap (λ k. replicate k Empty) size

-- where nothing is shown all cells are empty
pub none_in : (b : Block) → empty_cells (height b) (width b) ≡ cells_in (λ _. Empty) b
unfolding cells_in
none_in b = ap (λ values. record { rows = height b; cols = width b; values = values }) (sym (rows_of_none b.left (width b) (height b) b.top))

pub size_in : (f : Place → Scalar) (b : Block) → length (cells_in f b).values ≡ size_of b
unfolding cells_in
size_in f b = rows_size b.top (height b)
  where
    rows_size : (from n : ℕ) → length (flat_map (row_values f b) (range_with_len from n)) ≡ n * width b
    rows_size from zero = omega arith
    rows_size from (suc n) =
        let more = suc-mul n (width b) in
        let row = length-map-range_with_len (λ c. f (spot b from c)) b.left (width b) in
        let rest = rows_size (from + 1) n in
        omega (arith, more, row, rest, length-append (row_values f b from) (flat_map (row_values f b) (range_with_len (from + 1) n)))
