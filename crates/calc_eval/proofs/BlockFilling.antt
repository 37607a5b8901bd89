-- A block's cells filled one after another, row by row. Serves `area_of`.
use Rattle.std.proofs.Common.{◌≡◌, ◌∙◌, sym, ap, ap₂, refl, arith, ℕ, zero, suc, ◌+◌, ◌-◌, ◌*◌, ◌<◌, ◌≤◌, true, List, [], ◌∷◌, ◌++◌, map, length, set, drop, replicate, add-one, add-zero, append_assoc, length-append}
use Rattle.std.specs.List.{flat_map, list_all, range_with_len}
use Rattle.std.proofs.Math.Nat.{mul-le-mul_right, suc-mul}
use Rattle.std.proofs.Math.Seq.{drop-append_seam}
use Rattle.std.proofs.lemmas.Bool.Decides.{nat_tests}
use Rattle.std.proofs.lemmas.Grind.{flat_map-append}
use Rattle.std.proofs.lemmas.List.{append-nil, map-append}
use Rattle.std.proofs.lemmas.List.FromFn.{length-map-range_with_len}
use Rattle.cell_addr.specs.Place.{height, width}
use Rattle.cell_addr.specs.declared.place.Place.{Place}
use Rattle.cell_addr.specs.declared.place.Block.{Block}
use Rattle.cell_addr.specs.declared.place.TheConstants.{ROWS, COLS}
use Rattle.cell_value.proofs.Filling.{empty_from_any}
use Rattle.cell_value.specs.Cells.{Cells, with_value}
use Rattle.cell_value.specs.Scalar.{is_empty}
use Rattle.cell_value.specs.declared.scalar.Scalar.{Scalar}
use Rattle.cell_value.specs.declared.scalar.Scalar.TheVariants.{Empty}
use Rattle.calc_terms.specs.Cells.{cells_in, fits, row_values, size_of}

-- the ends of a block within the limits of a sheet
pub record Ends (b : Block) : Type 0 where
  pub rows : b.top ≤ b.bottom
  pub bottom : b.bottom < ROWS
  pub cols : b.left ≤ b.right
  pub right : b.right < COLS

pub fits_ends : (b : Block) → fits b ≡ true → Ends b
fits_ends b h = record { rows = grind (arith, nat_tests); bottom = grind (arith, nat_tests); cols = grind (arith, nat_tests); right = grind (arith, nat_tests) }

-- it has no more rows and columns than a sheet
pub record Few (b : Block) : Type 0 where
  pub rows : height b ≤ ROWS
  pub cols : width b ≤ COLS

pub fits_few : (b : Block) → fits b ≡ true → Few b
fits_few b h = let ends = fits_ends b h in record { rows = omega (arith, ends.bottom); cols = omega (arith, ends.right) }

-- a range of numbers with one more
range-more : (a n : ℕ) → range_with_len a (suc n) ≡ range_with_len a n ++ (a + n) ∷ []
range-more a zero = ap (λ x. x ∷ []) (sym (add-zero a))
range-more a (suc n) = let same : a + 1 + n ≡ a + suc n = omega arith in ap (λ xs. a ∷ xs) (range-more (a + 1) n ∙ ap (λ x. range_with_len (a + 1) n ++ x ∷ []) same)

flat-more : {X : Type 0} (f : ℕ → List X) (a n : ℕ) → flat_map f (range_with_len a (n + 1)) ≡ flat_map f (range_with_len a n) ++ f (a + n)
flat-more f a n =
    ap (λ k. flat_map f (range_with_len a k)) (add-one n)
    ∙ ap (flat_map f) (range-more a n)
    ∙ flat_map-append f (range_with_len a n) ((a + n) ∷ [])
    ∙ ap (λ xs. flat_map f (range_with_len a n) ++ xs) (append-nil (f (a + n)))

map-more : {X : Type 0} (f : ℕ → X) (a n : ℕ) → map f (range_with_len a (n + 1)) ≡ map f (range_with_len a n) ++ f (a + n) ∷ []
map-more f a n = ap (λ k. map f (range_with_len a k)) (add-one n) ∙ ap (map f) (range-more a n) ∙ map-append f (range_with_len a n) ((a + n) ∷ [])

-- one value after those that are there, in front of empty ones
set-seam : (done : List Scalar) (n : ℕ) (v : Scalar) → 0 < n → set (done ++ replicate n Empty) (length done) v ≡ (done ++ v ∷ []) ++ replicate (n - 1) Empty
set-seam [] zero v h = absurd (omega arith)
set-seam [] (suc n) v h = let one : suc n - 1 ≡ n = omega arith in rw one refl
set-seam (x ∷ done) n v h = ap (λ xs. x ∷ xs) (set-seam done n v h)

module _ (shown : Place → Scalar) (b : Block) where
  -- the cells of a block of which so many are filled
  abbrev pub filled : List Scalar → Cells
  filled done = record { rows = height b; cols = width b; values = done ++ replicate (size_of b - length done) Empty }

  -- the values of the rows before one, and of the places before one in a row
  abbrev pub rows_before : ℕ → List Scalar
  rows_before row = flat_map (row_values shown b) (range_with_len b.top row)

  abbrev pub cells_before : ℕ → ℕ → List Scalar
  cells_before row col = rows_before row ++ map (λ c. shown (record { sheet = b.sheet; row = b.top + row; col = c })) (range_with_len b.left col)

  rows-length : (from row : ℕ) → length (flat_map (row_values shown b) (range_with_len from row)) ≡ row * width b
  rows-length from zero = omega arith
  rows-length from (suc row) =
      length-append (row_values shown b from) (flat_map (row_values shown b) (range_with_len (from + 1) row))
      ∙ ap₂ (λ x y. x + y) (length-map-range_with_len (λ col. shown (record { sheet = b.sheet; row = from; col = col })) b.left (width b)) (rows-length (from + 1) row)
      ∙ (let more = suc-mul row (width b) in omega arith)

  cells-length : (row col : ℕ) → length (cells_before row col) ≡ row * width b + col
  cells-length row col =
      length-append (rows_before row) (map (λ c. shown (record { sheet = b.sheet; row = b.top + row; col = c })) (range_with_len b.left col))
      ∙ ap₂ (λ x y. x + y) (rows-length b.top row) (length-map-range_with_len (λ c. shown (record { sheet = b.sheet; row = b.top + row; col = c })) b.left col)

  before_all : (row col : ℕ) → row < height b → col < width b → row * width b + col < size_of b
  before_all row col r c =
      let within = mul-le-mul_right {m = suc row} {n = height b} (width b) (omega arith) in
      let more = suc-mul row (width b) in
      omega arith

  -- the cells from the next one on are empty
  pub next_empty : (row col : ℕ) → list_all is_empty (drop (row * width b + col) (filled (cells_before row col)).values) ≡ true
  next_empty row col =
      ap (λ n. list_all is_empty (drop n (filled (cells_before row col)).values)) (sym (cells-length row col))
      ∙ ap (list_all is_empty) (drop-append_seam (cells_before row col) (replicate (size_of b - length (cells_before row col)) Empty))
      ∙ empty_from_any (size_of b - length (cells_before row col)) 0

  -- one cell more
  pub cell_filled : (row col : ℕ) (v : Scalar) → row < height b → col < width b → v ≡ shown (record { sheet = b.sheet; row = b.top + row; col = b.left + col })
      → with_value (filled (cells_before row col)) row col v ≡ filled (cells_before row (col + 1))
  cell_filled row col v r c is =
      let n = size_of b - length (cells_before row col) in
      let f : ℕ → Scalar = λ x. shown (record { sheet = b.sheet; row = b.top + row; col = x }) in
      let len = cells-length row col in
      let inside = before_all row col r c in
      let grows : cells_before row col ++ v ∷ [] ≡ cells_before row (col + 1) =
      append_assoc (rows_before row) (map f (range_with_len b.left col)) (v ∷ [])
      ∙ ap (λ xs. rows_before row ++ xs) (ap (λ x. map f (range_with_len b.left col) ++ x ∷ []) is ∙ sym (map-more f b.left col)) in
      let longer : length (cells_before row (col + 1)) ≡ row * width b + (col + 1) = cells-length row (col + 1) in
      let fewer : n - 1 ≡ size_of b - length (cells_before row (col + 1)) = omega arith in
      ap (λ values. record { rows = height b; cols = width b; values = values })
      (ap (λ k. set (cells_before row col ++ replicate n Empty) k v) (sym len)
      ∙ set-seam (cells_before row col) n v (omega arith)
      ∙ ap₂ (λ xs k. xs ++ replicate k Empty) grows fewer)

  -- one row more
  pub row_filled : (row : ℕ) → filled (cells_before row (width b)) ≡ filled (rows_before (row + 1))
  row_filled row = ap filled (sym (flat-more (row_values shown b) b.top row))

  pub all_filled : filled (rows_before (height b)) ≡ cells_in shown b
  unfolding cells_in
  all_filled =
      let len = rows-length b.top (height b) in
      let none : size_of b - length (rows_before (height b)) ≡ 0 = omega arith in
      ap (λ values. record { rows = height b; cols = width b; values = values })
      (ap (λ k. rows_before (height b) ++ replicate k Empty) none ∙ append-nil (rows_before (height b)))
