-- The cells of an area that aren't empty, and the values of all its cells: for `Area`.
use Rattle.std.proofs.Common.{◌≡◌, ◌⊎◌, inl, inr, ◌≢◌, ◌∙◌, sym, ap, refl, ℕ, zero, suc, ◌+◌, ◌-◌, ◌<◌, ◌≤◌, Bool, true, false, not, ◌&&◌, List, [], ◌∷◌, ◌++◌, length, replicate, drop, get_or, arith, ltb, leb}
use Rattle.std.proofs.Math.ListN.{set}
use Rattle.std.proofs.lemmas.Bool.{and_parts, cases_lt}
use Rattle.std.proofs.lemmas.Bool.Decides.{nat_tests}
use Rattle.std.proofs.lemmas.List.{length-replicate, length-append, replicate-append-replicate, set_at}
use Rattle.std.specs.List.{list_all}
use Rattle.std.specs.List.Sorted.{IsNonDecreasingBy, IsPartitionPoint}
use Rattle.std.specs.declared.cmp.Ordering.TheVariants.{Less, Equal, Greater}
use Rattle.std.specs.Ordering.{nat_cmp, ordering_index}
use Rattle.std.proofs.lemmas.Cmp.{ranked}
use Rattle.cell_value.specs.declared.area.Filled.{Filled}
use Rattle.cell_value.specs.declared.scalar.Scalar.{Scalar}
use Rattle.cell_value.specs.declared.scalar.Scalar.TheVariants.{Empty}
use Rattle.cell_value.specs.Scalar.{is_empty}
use Rattle.cell_value.specs.Filled.{are_filled, spread}

-- what the order of the filled cells says of the first one
pub record IsNext (from size : ℕ) (cell : Filled) (others : List Filled) : Type 0 where
  pub above : from ≤ cell.index
  pub below : cell.index < size
  pub filled : is_empty cell.value ≡ false
  pub rest : are_filled (cell.index + 1) size others ≡ true

pub next : (from size : ℕ) (cell : Filled) (rest : List Filled) → are_filled from size (cell ∷ rest) ≡ true → IsNext from size cell rest
next from size cell rest h =
    let p = and_parts (leb from cell.index && ltb cell.index size && not (is_empty cell.value)) (are_filled (cell.index + 1) size rest) h in
    let q = and_parts (leb from cell.index && ltb cell.index size) (not (is_empty cell.value)) p.0 in
    let r = and_parts (leb from cell.index) (ltb cell.index size) q.0 in
    let u = r.0 in
    let v = r.1 in
    record {
      above = grind (arith, nat_tests);
      below = grind (arith, nat_tests);
      filled = not_true (is_empty cell.value) q.1;
      rest = p.1;
    }
  where
    not_true : (b : Bool) → not b ≡ true → b ≡ false
    not_true true e = cc
    not_true false e = refl

pub within : (from size : ℕ) (cells : List Filled) → are_filled from size cells ≡ true → from ≤ size
within from size [] h = grind (arith, nat_tests)
within from size (cell ∷ rest) h =
    let n = next from size cell rest h in
    let k = within (cell.index + 1) size rest n.rest in
    omega arith

pub length-spread : (from size : ℕ) (cells : List Filled) → are_filled from size cells ≡ true → length (spread from size cells) ≡ size - from
length-spread from size [] h = length-replicate (size - from) Empty
length-spread from size (cell ∷ rest) h =
    let n = next from size cell rest h in
    let k = within (cell.index + 1) size rest n.rest in
    let e = length-spread (cell.index + 1) size rest n.rest in
    simp (length-append, length-replicate, e) (omega arith)

-- a cell after all that are filled
empty_gap : (n : ℕ) → list_all is_empty (replicate n Empty) ≡ true
empty_gap zero = refl
empty_gap (suc n) = empty_gap n

-- the gap up to a cell, and what stands from there on
replicate_split : (m n : ℕ) → m ≤ n → replicate n Empty ≡ replicate m Empty ++ replicate (n - m) Empty
replicate_split m n h =
    let e : m + (n - m) ≡ n = omega arith in
    ap (λ k. replicate k Empty) (sym e) ∙ sym (replicate-append-replicate m (n - m) Empty)

-- a write into a gap
set_gap : (m n : ℕ) (v : Scalar) → m < n → set (replicate n Empty) m v ≡ replicate m Empty ++ v ∷ replicate (n - suc m) Empty
set_gap m n v h =
    let e : n - m ≡ suc (n - suc m) = omega arith in
    let o : m ≤ n = omega arith in
    ap (λ xs. set xs m v) (replicate_split m n o ∙ ap (λ k. replicate m Empty ++ replicate k Empty) e)
    ∙ set_at (replicate m Empty) Empty (replicate (n - suc m) Empty) v m (length-replicate m Empty)

-- after a gap
set_after : (m k : ℕ) (x : Scalar) (xs : List Scalar) (v : Scalar) → set (replicate m Empty ++ x ∷ xs) (m + suc k) v ≡ replicate m Empty ++ x ∷ set xs k v
set_after zero k x xs v = let e : zero + suc k ≡ suc k = omega arith in ap (λ n. set (x ∷ xs) n v) e
set_after (suc m) k x xs v =
    let e : suc m + suc k ≡ suc (m + suc k) = omega arith in
    ap (λ n. set (replicate (suc m) Empty ++ x ∷ xs) n v) e ∙ ap (λ ys. Empty ∷ ys) (set_after m k x xs v)

drop_after : (m k : ℕ) (x : Scalar) (xs : List Scalar) → drop (m + suc k) (replicate m Empty ++ x ∷ xs) ≡ drop k xs
drop_after zero k x xs = let e : zero + suc k ≡ suc k = omega arith in ap (λ n. drop n (x ∷ xs)) e
drop_after (suc m) k x xs =
    let e : suc m + suc k ≡ suc (m + suc k) = omega arith in
    ap (λ n. drop n (replicate (suc m) Empty ++ x ∷ xs)) e ∙ drop_after m k x xs

get_after : (m k : ℕ) (x : Scalar) (xs : List Scalar) → get_or (replicate m Empty ++ x ∷ xs) (m + suc k) Empty ≡ get_or xs k Empty
get_after zero k x xs = let e : zero + suc k ≡ suc k = omega arith in ap (λ n. get_or (x ∷ xs) n Empty) e
get_after (suc m) k x xs =
    let e : suc m + suc k ≡ suc (m + suc k) = omega arith in
    ap (λ n. get_or (replicate (suc m) Empty ++ x ∷ xs) n Empty) e ∙ get_after m k x xs

get_at : (m : ℕ) (x : Scalar) (xs : List Scalar) → get_or (replicate m Empty ++ x ∷ xs) m Empty ≡ x
get_at zero x xs = refl
get_at (suc m) x xs = get_at m x xs

get_gap : (m k : ℕ) (xs : List Scalar) → k < m → get_or (replicate m Empty ++ xs) k Empty ≡ Empty
get_gap zero k xs h = absurd (omega arith)
get_gap (suc m) zero xs h = refl
get_gap (suc m) (suc k) xs h = get_gap m k xs (omega arith)

-- where all cells from this one on are empty, no filled one stands there
not_gap : (m k : ℕ) (x : Scalar) (xs : List Scalar) → is_empty x ≡ false → k ≤ m → list_all is_empty (drop k (replicate m Empty ++ x ∷ xs)) ≡ true → ⊥
not_gap zero zero x xs e h all = let p = and_parts (is_empty x) (list_all is_empty xs) all in absurd (cc)
not_gap zero (suc k) x xs e h all = absurd (omega arith)
not_gap (suc m) zero x xs e h all = not_gap m zero x xs e (omega arith) all
not_gap (suc m) (suc k) x xs e h all = not_gap m k x xs e (omega arith) all

-- one more filled cell, after which and at which all were empty
pub record IsPushed (from size index : ℕ) (value : Scalar) (cells : List Filled) : Type 0 where
  pub filled : are_filled from size (cells ++ (record { index = index; value = value }) ∷ []) ≡ true
  pub values : spread from size (cells ++ (record { index = index; value = value }) ∷ []) ≡ set (spread from size cells) (index - from) value

push_after : (from size index : ℕ) (value : Scalar) (cell : Filled) (others : List Filled) → IsNext from size cell others → from ≤ index
    → list_all is_empty (drop (index - from) (spread from size (cell ∷ others))) ≡ true → (cell.index + 1 ≤ index → list_all is_empty (drop (index - (cell.index + 1)) (spread (cell.index + 1) size others)) ≡ true → IsPushed (cell.index + 1) size index value others)
    → (cell.index < index) ⊎ (index ≤ cell.index) → IsPushed from size index value (cell ∷ others)
push_after from size index value cell others n above last pushed (inr o) =
    absurd (not_gap (cell.index - from) (index - from) cell.value (spread (cell.index + 1) size others) n.filled (omega arith) last)
push_after from size index value cell others n above last pushed (inl o) =
    let gap = cell.index - from in
    let k = index - (cell.index + 1) in
    let all = spread (cell.index + 1) size others in
    let e : index - from ≡ gap + suc k = omega arith in
    let above' : cell.index + 1 ≤ index = omega arith in
    let dropped : drop (index - from) (replicate gap Empty ++ cell.value ∷ all) ≡ drop k all = ap (λ m. drop m (replicate gap Empty ++ cell.value ∷ all)) e ∙ drop_after gap k cell.value all in
    let p = pushed above' (ap (list_all is_empty) (sym dropped) ∙ last) in
    let x = n.above in
    let y = n.below in
    record {
      filled = rw (n.filled, p.filled) (grind (arith, nat_tests));
      values = ap (λ xs. replicate gap Empty ++ cell.value ∷ xs) p.values ∙ sym (ap (λ m. set (replicate gap Empty ++ cell.value ∷ all) m value) e ∙ set_after gap k cell.value all value);
    }

pub spread-push : (from size index : ℕ) (value : Scalar) (cells : List Filled) → are_filled from size cells ≡ true → is_empty value ≡ false → from ≤ index → index < size
    → list_all is_empty (drop (index - from) (spread from size cells)) ≡ true → IsPushed from size index value cells
spread-push from size index value [] h filled above below last =
    let room : index - from < size - from = omega arith in
    let e : size - (index + 1) ≡ size - from - suc (index - from) = omega arith in
    record {
      filled = rw filled (grind (arith, nat_tests));
      values = ap (λ n. replicate (index - from) Empty ++ value ∷ replicate n Empty) e ∙ sym (set_gap (index - from) (size - from) value room);
    }
spread-push from size index value (cell ∷ others) h filled above below last =
    let n = next from size cell others h in
    push_after from size index value cell others n above last (λ a l. spread-push (cell.index + 1) size index value others n.rest filled a below l) (cases_lt cell.index index)

-- the value of a filled cell, where all cells stand
pub value-filled : (from size : ℕ) (cells : List Filled) (i : ℕ) (d : Filled) → are_filled from size cells ≡ true → i < length cells
    → (from ≤ (get_or cells i d).index) × (get_or (spread from size cells) ((get_or cells i d).index - from) Empty ≡ (get_or cells i d).value)
value-filled from size [] i d h l = absurd (omega arith)
value-filled from size (cell ∷ others) zero d h l = ((next from size cell others h).above, get_at (cell.index - from) cell.value (spread (cell.index + 1) size others))
value-filled from size (cell ∷ others) (suc i) d h l =
    let n = next from size cell others h in
    let a = n.above in
    let v = value-filled (cell.index + 1) size others i d n.rest (omega arith) in
    let o : cell.index + 1 ≤ (get_or others i d).index = v.0 in
    let e : (get_or others i d).index - from ≡ (cell.index - from) + suc ((get_or others i d).index - (cell.index + 1)) = omega arith in (
      omega arith,
      ap (λ m. get_or (replicate (cell.index - from) Empty ++ cell.value ∷ spread (cell.index + 1) size others) m Empty) e
          ∙ get_after (cell.index - from) ((get_or others i d).index - (cell.index + 1)) cell.value (spread (cell.index + 1) size others) ∙ v.1,
    )

else_after : (from size k : ℕ) (cell : Filled) (others : List Filled) → IsNext from size cell others → from ≤ k → cell.index ≢ k
    → (cell.index + 1 ≤ k → get_or (spread (cell.index + 1) size others) (k - (cell.index + 1)) Empty ≡ Empty) → (k < cell.index) ⊎ (cell.index ≤ k)
    → get_or (spread from size (cell ∷ others)) (k - from) Empty ≡ Empty
else_after from size k cell others n o ne later (inl l) =
    get_gap (cell.index - from) (k - from) (cell.value ∷ spread (cell.index + 1) size others) (omega arith)
else_after from size k cell others n o ne later (inr l) =
    let a = n.above in
    let e : k - from ≡ (cell.index - from) + suc (k - (cell.index + 1)) = omega arith in
    ap (λ m. get_or (replicate (cell.index - from) Empty ++ cell.value ∷ spread (cell.index + 1) size others) m Empty) e
    ∙ get_after (cell.index - from) (k - (cell.index + 1)) cell.value (spread (cell.index + 1) size others) ∙ later (omega arith)

-- a cell that isn't among the filled ones is empty
pub value_else : (from size k : ℕ) (cells : List Filled) → are_filled from size cells ≡ true → from ≤ k
    → ((i : ℕ) (d : Filled) → i < length cells → (get_or cells i d).index ≢ k) → get_or (spread from size cells) (k - from) Empty ≡ Empty
value_else from size k [] h o none = gap_value (size - from) (k - from)
  where
    gap_value : (m i : ℕ) → get_or (replicate m Empty) i Empty ≡ Empty
    gap_value zero i = refl
    gap_value (suc m) zero = refl
    gap_value (suc m) (suc i) = gap_value m i
value_else from size k (cell ∷ others) h o none =
    let n = next from size cell others h in
    let ne : cell.index ≢ k = none 0 cell (omega arith) in
    else_after from size k cell others n o ne (λ a. value_else (cell.index + 1) size k others n.rest a (λ i d l. none (suc i) d (omega arith))) (cases_lt k cell.index)

-- filled cells stand in order
pub index_rises : (from size : ℕ) (cells : List Filled) (i j : ℕ) (d : Filled) → are_filled from size cells ≡ true → i ≤ j → j < length cells
    → (get_or cells i d).index ≤ (get_or cells j d).index
index_rises from size [] i j d h o l = absurd (omega arith)
index_rises from size (cell ∷ others) zero zero d h o l = omega arith
index_rises from size (cell ∷ others) zero (suc j) d h o l =
    let n = next from size cell others h in
    let v = (value-filled (cell.index + 1) size others j d n.rest (omega arith)).0 in
    omega arith
index_rises from size (cell ∷ others) (suc i) zero d h o l = absurd (omega arith)
index_rises from size (cell ∷ others) (suc i) (suc j) d h o l =
    let n = next from size cell others h in
    index_rises (cell.index + 1) size others i j d n.rest (omega arith) (omega arith)

pub index_order : (a b k : ℕ) → a ≤ b → ordering_index (nat_cmp a k) ≤ ordering_index (nat_cmp b k)
index_order a b k h = grind (arith, nat_tests)

is_empty-exact : (x : Scalar) → is_empty x ≡ true → x ≡ Empty
is_empty-exact Empty e = refl
is_empty-exact x e = cc

-- an empty value changes nothing where all is empty
pub set-empty : (k : ℕ) (xs : List Scalar) (v : Scalar) → is_empty v ≡ true → list_all is_empty (drop k xs) ≡ true → set xs k v ≡ xs
set-empty k [] v e h = refl
set-empty zero (x ∷ xs) v e h =
    let p = and_parts (is_empty x) (list_all is_empty xs) h in
    ap (λ y. y ∷ xs) (is_empty-exact v e ∙ sym (is_empty-exact x p.0))
set-empty (suc k) (x ∷ xs) v e h = ap (λ ys. x ∷ ys) (set-empty k xs v e h)

-- the filled cells' comparisons with a cell rise, as a binary search asks
comparisons_rise : (size k : ℕ) (cells : List Filled) → are_filled 0 size cells ≡ true → IsNonDecreasingBy (λ cell. ordering_index (nat_cmp cell.index k)) cells
comparisons_rise size k cells h i j d le lt = index_order (get_or cells i d).index (get_or cells j d).index k (index_rises 0 size cells i j d h le lt)

-- what a binary search finds has the cell's value
pub found-value : (size k at : ℕ) (cells : List Filled) (d : Filled) → are_filled 0 size cells ≡ true → at < length cells → nat_cmp (get_or cells at d).index k ≡ Equal → get_or (spread 0 size cells) k Empty ≡ (get_or cells at d).value
found-value size k at cells d h l e =
    let same : (get_or cells at d).index ≡ k = ranked (get_or cells at d).index k Equal (sym e) in
    let zero_less : k ≡ (get_or cells at d).index - 0 = omega arith in
    ap (λ m. get_or (spread 0 size cells) m Empty) zero_less ∙ (value-filled 0 size cells at d h l).1

-- where a binary search finds none, the cell is empty
pub absent-value : (size k at : ℕ) (cells : List Filled) → are_filled 0 size cells ≡ true
    → (IsNonDecreasingBy (λ cell. ordering_index (nat_cmp cell.index k)) cells → IsPartitionPoint (λ cell. nat_cmp cell.index k ≡ Less) (λ cell. nat_cmp cell.index k ≡ Greater) cells at)
    → get_or (spread 0 size cells) k Empty ≡ Empty
absent-value size k at cells h parted =
    let p = parted (comparisons_rise size k cells h) in
    let zero_less : k ≡ k - 0 = omega arith in
    ap (λ m. get_or (spread 0 size cells) m Empty) zero_less ∙ value_else 0 size k cells h (omega arith) (λ i d l. differs i d l (cases_lt i at) p)
  where
    differs : (i : ℕ) (d : Filled) → i < length cells → (i < at) ⊎ (at ≤ i) → IsPartitionPoint (λ cell. nat_cmp cell.index k ≡ Less) (λ cell. nat_cmp cell.index k ≡ Greater) cells at → (get_or cells i d).index ≢ k
    differs i d l (inl o) p = λ same. let less : (get_or cells i d).index < k = ranked (get_or cells i d).index k Less (sym (p.0 i d (omega arith) o)) in omega arith
    differs i d l (inr o) p = λ same. let more : k < (get_or cells i d).index = ranked (get_or cells i d).index k Greater (sym (p.1 i d o l)) in omega arith
