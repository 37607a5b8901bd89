-- The filled cells of a line, and the values of all its cells: for `taken`.
use Rattle.std.proofs.Common.{◌≡◌, ◌∙◌, sym, ap, refl, ℕ, zero, suc, ◌+◌, ◌-◌, ◌*◌, ◌/◌, ◌%◌, ◌<◌, ◌≤◌, ◌⊎◌, inl, inr, Bool, true, false, ◌&&◌, cond, List, [], ◌∷◌, ◌++◌, replicate, length, drop, get_or, zero-add, add-zero, arith, eqb, ltb}
use Rattle.std.proofs.Math.Nat.{lt_of_mul-lt-mul_right, mul-div_cancel, mul-mod_left}
use Rattle.std.proofs.lemmas.Bool.{and_parts, and_from, cases_lt}
use Rattle.std.proofs.lemmas.Bool.Decides.{nat_tests}
use Rattle.std.proofs.lemmas.List.{ext_get_or, drop_more}
use Rattle.cell_value.specs.declared.area.Filled.{Filled}
use Rattle.cell_value.specs.declared.scalar.Scalar.{Scalar}
use Rattle.cell_value.specs.declared.scalar.Scalar.TheVariants.{Empty}
use Rattle.cell_value.specs.Filled.{are_filled, spread}
use Rattle.cell_value.proofs.Spread.{IsNext, next, length-spread}
use Rattle.func_look.specs.declared.taken.Line.{Line}
use Rattle.func_look.specs.Lookups.{values_from}
use Rattle.func_look.specs.internal.Search.{line_values}

-- the value of a cell among filled ones
abbrev pub value_in : ℕ → List Filled → Scalar
value_in k [] = Empty
value_in k (cell ∷ rest) = cond (eqb cell.index k) cell.value (value_in k rest)

value_in-before : (from size k : ℕ) (cells : List Filled) → are_filled from size cells ≡ true → k < from → value_in k cells ≡ Empty
value_in-before from size k [] h l = refl
value_in-before from size k (cell ∷ rest) h l =
    let n = next from size cell rest h in
    let a = n.above in
    let other : eqb cell.index k ≡ false = grind (arith, nat_tests) in
    ap (λ b. cond b cell.value (value_in k rest)) other ∙ value_in-before (cell.index + 1) size k rest n.rest (omega arith)

gap_value : (m i : ℕ) → get_or (replicate m Empty) i Empty ≡ Empty
gap_value zero i = refl
gap_value (suc m) zero = refl
gap_value (suc m) (suc i) = gap_value m i

get_gap : (m k : ℕ) (xs : List Scalar) → k < m → get_or (replicate m Empty ++ xs) k Empty ≡ Empty
get_gap zero k xs h = absurd (omega arith)
get_gap (suc m) zero xs h = refl
get_gap (suc m) (suc k) xs h = get_gap m k xs (omega arith)

get_at : (m : ℕ) (x : Scalar) (xs : List Scalar) → get_or (replicate m Empty ++ x ∷ xs) m Empty ≡ x
get_at zero x xs = refl
get_at (suc m) x xs = get_at m x xs

get_after : (m k : ℕ) (x : Scalar) (xs : List Scalar) → get_or (replicate m Empty ++ x ∷ xs) (m + suc k) Empty ≡ get_or xs k Empty
get_after zero k x xs = let e : zero + suc k ≡ suc k = omega arith in ap (λ n. get_or (x ∷ xs) n Empty) e
get_after (suc m) k x xs =
    let e : suc m + suc k ≡ suc (m + suc k) = omega arith in
    ap (λ n. get_or (replicate (suc m) Empty ++ x ∷ xs) n Empty) e ∙ get_after m k x xs

get_by : (from size k : ℕ) (cell : Filled) (rest : List Filled) → IsNext from size cell rest → from ≤ k
    → (cell.index + 1 ≤ k → get_or (spread (cell.index + 1) size rest) (k - (cell.index + 1)) Empty ≡ value_in k rest)
    → (k < cell.index) ⊎ ((k ≡ cell.index) ⊎ (cell.index < k)) → get_or (spread from size (cell ∷ rest)) (k - from) Empty ≡ value_in k (cell ∷ rest)
get_by from size k cell rest n o later (inl l) =
    let other : eqb cell.index k ≡ false = grind (arith, nat_tests) in
    get_gap (cell.index - from) (k - from) (cell.value ∷ spread (cell.index + 1) size rest) (omega arith)
    ∙ sym (ap (λ b. cond b cell.value (value_in k rest)) other ∙ value_in-before (cell.index + 1) size k rest n.rest (omega arith))
get_by from size k cell rest n o later (inr (inl e)) =
    let this : eqb cell.index k ≡ true = grind (arith, nat_tests) in
    let at : k - from ≡ cell.index - from = omega arith in
    ap (λ m. get_or (replicate (cell.index - from) Empty ++ cell.value ∷ spread (cell.index + 1) size rest) m Empty) at
    ∙ get_at (cell.index - from) cell.value (spread (cell.index + 1) size rest) ∙ sym (ap (λ b. cond b cell.value (value_in k rest)) this)
get_by from size k cell rest n o later (inr (inr l)) =
    let a = n.above in
    let other : eqb cell.index k ≡ false = grind (arith, nat_tests) in
    let at : k - from ≡ (cell.index - from) + suc (k - (cell.index + 1)) = omega arith in
    ap (λ m. get_or (replicate (cell.index - from) Empty ++ cell.value ∷ spread (cell.index + 1) size rest) m Empty) at
    ∙ get_after (cell.index - from) (k - (cell.index + 1)) cell.value (spread (cell.index + 1) size rest) ∙ later (omega arith)
    ∙ sym (ap (λ b. cond b cell.value (value_in k rest)) other)

three : (a b : ℕ) → (a < b) ⊎ ((a ≡ b) ⊎ (b < a))
three a b = go (cases_lt a b)
  where
    go : (a < b) ⊎ (b ≤ a) → (a < b) ⊎ ((a ≡ b) ⊎ (b < a))
    go (inl l) = inl l
    go (inr l) = go2 (cases_lt b a)
      where
        go2 : (b < a) ⊎ (a ≤ b) → (a < b) ⊎ ((a ≡ b) ⊎ (b < a))
        go2 (inl m) = inr (inr m)
        go2 (inr m) = inr (inl (omega arith))

-- the values of all cells by the filled ones
pub get-spread : (from size k : ℕ) (cells : List Filled) → are_filled from size cells ≡ true → from ≤ k → get_or (spread from size cells) (k - from) Empty ≡ value_in k cells
get-spread from size k [] h o = gap_value (size - from) (k - from)
get-spread from size k (cell ∷ rest) h o =
    let n = next from size cell rest h in
    get_by from size k cell rest n o (λ a. get-spread (cell.index + 1) size k rest n.rest a) (three k cell.index)

-- the filled cells of a line, by their places in it ---------------------------

module _ (step count : ℕ) where
  abbrev pub on_line : Filled → Bool
  on_line cell = eqb (cell.index % step) 0 && ltb (cell.index / step) count

  -- the cell by its place in the line
  abbrev pub in_line : Filled → Filled
  in_line cell = record { index = cell.index / step; value = cell.value }

  abbrev pub line_cells : List Filled → List Filled
  line_cells [] = []
  line_cells (cell ∷ rest) = cond (on_line cell) (in_line cell ∷ line_cells rest) (line_cells rest)

  -- a cell on the line stands so many steps on
  steps : (cell : Filled) → on_line cell ≡ true → (cell.index ≡ cell.index / step * step) × (cell.index / step < count)
  steps cell h =
      let p = and_parts (eqb (cell.index % step) 0) (ltb (cell.index / step) count) h in
      let a = p.0 in
      let b = p.1 in
      let z : cell.index % step ≡ 0 = grind (arith, nat_tests) in
      (omega arith, grind (arith, nat_tests))

  ordered : (b : Bool) (cell : Filled) (rest : List Filled) (from low size : ℕ) → on_line cell ≡ b → IsNext low size cell rest → from * step < low + step → from ≤ count
      → ((from low : ℕ) → are_filled low size rest ≡ true → from * step < low + step → from ≤ count → are_filled from count (line_cells rest) ≡ true)
      → are_filled from count (cond b (in_line cell ∷ line_cells rest) (line_cells rest)) ≡ true
  ordered false cell rest from low size e n h k ih = let a = n.above in ih from (cell.index + 1) n.rest (omega arith) k
  ordered true cell rest from low size e n h k ih =
      let s = steps cell e in
      let q = cell.index / step in
      let i = s.0 in
      let l = s.1 in
      let a = n.above in
      let after : (q + 1) * step < cell.index + 1 + step = omega arith in
      let r = ih (q + 1) (cell.index + 1) n.rest after (omega arith) in
      let f : from ≤ q = not_above from q (omega arith) in
      let v = n.filled in
      rw (v, r) (grind (arith, nat_tests))
    where
      not_above : (from q : ℕ) → from * step < q * step + step → from ≤ q
      not_above from q h =
          let e : q * step + step ≡ (q + 1) * step = omega arith in
          let l : from * step < (q + 1) * step = omega arith in
          let m : from < q + 1 = lt_of_mul-lt-mul_right step l in
          omega arith

  pub are_filled-line : (cells : List Filled) (from low size : ℕ) → are_filled low size cells ≡ true → from * step < low + step → from ≤ count → are_filled from count (line_cells cells) ≡ true
  are_filled-line [] from low size h k l = grind (arith, nat_tests)
  are_filled-line (cell ∷ rest) from low size h k l =
      ordered (on_line cell) cell rest from low size refl (next low size cell rest h) k l (λ f w g a b. are_filled-line rest f w size g a b)

  value_by : (b e : Bool) (r : ℕ) (cell : Filled) (rest : List Filled) → 0 < step → r < count → on_line cell ≡ b → eqb cell.index (r * step) ≡ e → value_in r (line_cells rest) ≡ value_in (r * step) rest
      → value_in r (cond b (in_line cell ∷ line_cells rest) (line_cells rest)) ≡ cond e cell.value (value_in (r * step) rest)
  value_by true true r cell rest positive l o e ih =
      let s = steps cell o in
      let i = s.0 in
      let j : cell.index ≡ r * step = grind (arith, nat_tests) in
      let same : cell.index / step ≡ r = ap (λ n. n / step) j ∙ mul-div_cancel r positive in
      let this : eqb (cell.index / step) r ≡ true = grind (arith, nat_tests) in
      ap (λ b. cond b cell.value (value_in r (line_cells rest))) this
  value_by true false r cell rest positive l o e ih =
      let s = steps cell o in
      let i = s.0 in
      let other : eqb (cell.index / step) r ≡ false = differs (eqb (cell.index / step) r) refl in
      ap (λ b. cond b cell.value (value_in r (line_cells rest))) other ∙ ih
    where
      differs : (b : Bool) → eqb (cell.index / step) r ≡ b → eqb (cell.index / step) r ≡ false
      differs false f = f
      differs true f =
          let i = (steps cell o).0 in
          let same : cell.index / step ≡ r = grind (arith, nat_tests) in
          let j : cell.index ≡ r * step = i ∙ ap (λ n. n * step) same in
          let this : eqb cell.index (r * step) ≡ true = grind (arith, nat_tests) in
          cc
  value_by false true r cell rest positive l o e ih =
      let j : cell.index ≡ r * step = grind (arith, nat_tests) in
      let m : cell.index % step ≡ 0 = ap (λ n. n % step) j ∙ mul-mod_left r step in
      let same : cell.index / step ≡ r = ap (λ n. n / step) j ∙ mul-div_cancel r positive in
      let a : eqb (cell.index % step) 0 ≡ true = grind (arith, nat_tests) in
      let b : ltb (cell.index / step) count ≡ true = grind (arith, nat_tests) in
      let on : on_line cell ≡ true = and_from (eqb (cell.index % step) 0) (ltb (cell.index / step) count) a b in
      cc
  value_by false false r cell rest positive l o e ih = ih

  pub value_in-line : (r : ℕ) (cells : List Filled) → 0 < step → r < count → value_in r (line_cells cells) ≡ value_in (r * step) cells
  value_in-line r [] positive l = refl
  value_in-line r (cell ∷ rest) positive l = value_by (on_line cell) (eqb cell.index (r * step)) r cell rest positive l refl refl (value_in-line r rest positive l)

length-values_from : (f : ℕ → Scalar) (n at : ℕ) → length (values_from f at n) ≡ n
unfolding values_from
length-values_from f zero at = refl
length-values_from f (suc n) at = ap suc (length-values_from f n (at + 1))

get-values_from : (f : ℕ → Scalar) (n at i : ℕ) → i < n → get_or (values_from f at n) i Empty ≡ f (at + i)
unfolding values_from
get-values_from f zero at i h = absurd (omega arith)
get-values_from f (suc n) at zero h = ap f (sym (add-zero at))
get-values_from f (suc n) at (suc i) h =
    let e : at + 1 + i ≡ at + suc i = omega arith in
    get-values_from f n (at + 1) i (omega arith) ∙ ap f e

-- lists of values that are the same at each place are the same
pub values_from-same : (f g : ℕ → Scalar) (n at : ℕ) → ((i : ℕ) → at ≤ i → i < at + n → f i ≡ g i) → values_from f at n ≡ values_from g at n
unfolding values_from
values_from-same f g zero at h = refl
values_from-same f g (suc n) at h =
    ap (λ x. x ∷ values_from f (at + 1) n) (h at (omega arith) (omega arith))
    ∙ ap (λ xs. g at ∷ xs) (values_from-same f g n (at + 1) (λ i a b. h i (omega arith) (omega arith)))

-- the values of a line are those of its filled cells
pub line-spread : (step count size : ℕ) (cells : List Filled) → 0 < step → are_filled 0 size cells ≡ true
    → values_from (λ i. get_or (spread 0 size cells) (i * step) Empty) 0 count ≡ spread 0 count (line_cells step count cells)
line-spread step count size cells positive h =
    let f : ℕ → Scalar = λ i. get_or (spread 0 size cells) (i * step) Empty in
    let start : 0 * step < 0 + step = omega arith in
    let filled = are_filled-line step count cells 0 0 size h start (omega arith) in
    let n = length-values_from f count 0 in
    let m : length (spread 0 count (line_cells step count cells)) ≡ count = omega (arith, length-spread 0 count (line_cells step count cells) filled) in
    ext_get_or Empty (values_from f 0 count) (spread 0 count (line_cells step count cells)) (n ∙ sym m) (λ i l. at i (omega arith) filled)
  where
    minus_zero : (k : ℕ) → k ≡ k - 0
    minus_zero k = omega arith

    at : (i : ℕ) → i < count → are_filled 0 count (line_cells step count cells) ≡ true → get_or (values_from (λ i. get_or (spread 0 size cells) (i * step) Empty) 0 count) i Empty ≡ get_or (spread 0 count (line_cells step count cells)) i Empty
    at i l filled =
        get-values_from (λ i. get_or (spread 0 size cells) (i * step) Empty) count 0 i l
        ∙ ap (λ k. get_or (spread 0 size cells) (k * step) Empty) (zero-add i)
        ∙ ap (λ k. get_or (spread 0 size cells) k Empty) (minus_zero (i * step))
        ∙ get-spread 0 size (i * step) cells h (omega arith)
        ∙ sym (value_in-line step count i cells positive l)
        ∙ sym (get-spread 0 count i (line_cells step count cells) filled (omega arith))
        ∙ ap (λ k. get_or (spread 0 count (line_cells step count cells)) k Empty) (sym (minus_zero i))

-- the filled cells of the line from one on
pub line_more : (step count : ℕ) (cells : List Filled) (i : ℕ) (cell : Filled) → i < length cells → cell ≡ get_or cells i cell → cell.index % step ≡ 0 → cell.index / step < count
    → line_cells step count (drop i cells) ≡ in_line step count cell ∷ line_cells step count (drop (i + 1) cells)
line_more step count cells i cell h is z l =
    let a : eqb (cell.index % step) 0 ≡ true = grind (arith, nat_tests) in
    let b : ltb (cell.index / step) count ≡ true = grind (arith, nat_tests) in
    let on : on_line step count cell ≡ true = and_from (eqb (cell.index % step) 0) (ltb (cell.index / step) count) a b in
    ap (line_cells step count) (drop_more cells i cell h ∙ ap (λ x. x ∷ drop (i + 1) cells) (sym is))
    ∙ ap (λ b. cond b (in_line step count cell ∷ line_cells step count (drop (i + 1) cells)) (line_cells step count (drop (i + 1) cells))) on

-- all cells are a line
pub all-line : (values : List Scalar) (l : Line) → l.step ≡ 1 → l.count ≡ length values → line_values values l ≡ values
all-line values l s n =
    let f : ℕ → Scalar = λ i. get_or values (i * l.step) Empty in
    let m = length-values_from f l.count 0 in
    ext_get_or Empty (values_from f 0 l.count) values (m ∙ n) (λ i h. at i (omega arith))
  where
    one : (i : ℕ) → (0 + i) * l.step ≡ i
    one i = ap (λ k. (0 + i) * k) s ∙ plain i
      where
        plain : (i : ℕ) → (0 + i) * 1 ≡ i
        plain i = omega arith

    at : (i : ℕ) → i < l.count → get_or (values_from (λ i. get_or values (i * l.step) Empty) 0 l.count) i Empty ≡ get_or values i Empty
    at i h = get-values_from (λ i. get_or values (i * l.step) Empty) l.count 0 i h ∙ ap (λ k. get_or values k Empty) (one i)
