-- Segments of rows crossed with segments of columns. Serves the slots of a block.
use Rattle.std.proofs.Common.{◌≡◌, ◌∙◌, sym, ap, arith, refl, ℕ, ◌+◌, ◌*◌, ◌<◌, ◌≤◌, ◌⊎◌, inl, inr, ⊎_elim, Bool, true, false, cond, ◌&&◌, ◌||◌, List, [], ◌∷◌, ◌++◌, length, length-append, map, take, get_or, suc}
use Rattle.std.specs.List.{list_any, count_by}
use Rattle.std.proofs.Math.Nat.{add-mul, zero-mul, suc-mul, mul-le-mul}
use Rattle.std.proofs.lemmas.Bool.{or_left}
use Rattle.std.proofs.lemmas.List.{length-map, take_more, flat_map_more}
use Rattle.std.proofs.lemmas.List.Sums.{sum_by-cons, sum_by-append}
use Rattle.block_slots.specs.Segments.{segments_with, has_line, one_if}
use Rattle.block_slots.specs.Slots.{slots_with, has_cell}
use Rattle.block_slots.specs.declared.segment.Segment.{Segment}
use Rattle.block_slots.specs.declared.slot.Slot.{Slot}
use Rattle.block_slots.specs.internal.Cuts.{slot_of, crossed}

-- a cell is in a slot where its row and its column are in the slot's segments
both_in : (a b : Bool) (n m : ℕ) → n ≡ one_if a * m → one_if (a && b) + n ≡ one_if a * (one_if b + m)
both_in true true n m e = omega (arith, e)
both_in true false n m e = omega (arith, e)
both_in false b n m e = omega (arith, e)

in_a_row : (r : Segment) (cols : List Segment) (row col : ℕ) → slots_with (map (slot_of r) cols) row col ≡ one_if (has_line r row) * segments_with cols col
in_a_row r [] row col = omega arith
in_a_row r (c ∷ cols) row col =
    sum_by-cons (λ (s : Slot). cond (has_cell s row col) 1 0) (slot_of r c) (map (slot_of r) cols)
    ∙ both_in (has_line r row) (has_line c col) (slots_with (map (slot_of r) cols) row col) (segments_with cols col) (in_a_row r cols row col)
    ∙ ap (λ m. one_if (has_line r row) * m) (sym (sum_by-cons (λ (s : Segment). cond (has_line s col) 1 0) c cols))

pub crossed_with : (rows cols : List Segment) (row col : ℕ) → slots_with (crossed rows cols) row col ≡ segments_with rows row * segments_with cols col
crossed_with [] cols row col = sym (zero-mul (segments_with cols col))
crossed_with (r ∷ rows) cols row col =
    let apart : slots_with (crossed (r ∷ rows) cols) row col ≡ slots_with (map (slot_of r) cols) row col + slots_with (crossed rows cols) row col = sum_by-append (λ (s : Slot). cond (has_cell s row col) 1 0) (map (slot_of r) cols) (crossed rows cols) in
    let first = in_a_row r cols row col in
    let others = crossed_with rows cols row col in
    let spread = add-mul (one_if (has_line r row)) (segments_with rows row) (segments_with cols col) in
    let all : (one_if (has_line r row) + segments_with rows row) * segments_with cols col ≡ segments_with (r ∷ rows) row * segments_with cols col = ap (λ n. n * segments_with cols col) (sym (sum_by-cons (λ (s : Segment). cond (has_line s row) 1 0) r rows)) in
    omega (arith, apart, first, others, spread) ∙ all

-- rows and columns that are in segments where they are in the block
pub in_both : (a b : Bool) → one_if a * one_if b ≡ one_if (a && b)
in_both true true = refl
in_both true false = refl
in_both false true = refl
in_both false false = refl

length-crossed : (rows cols : List Segment) → length (crossed rows cols) ≡ length rows * length cols
length-crossed [] cols = sym (zero-mul (length cols))
length-crossed (r ∷ rows) cols =
    let apart = length-append (map (slot_of r) cols) (crossed rows cols) in
    let first = length-map cols (slot_of r) in
    let others = length-crossed rows cols in
    let next : suc (length rows) * length cols ≡ length rows * length cols + length cols = suc-mul (length rows) (length cols) in
    omega (arith, apart, first, others, next)

-- one segment of rows more
pub crossed_more : (rows cols : List Segment) (i : ℕ) (d : Segment) → i < length rows → crossed (take (i + 1) rows) cols ≡ crossed (take i rows) cols ++ map (slot_of (get_or rows i d)) cols
crossed_more rows cols i d inside = ap (λ rs. crossed rs cols) (take_more rows i d inside) ∙ sym (flat_map_more (λ r. map (slot_of r) cols) [] (take i rows) (get_or rows i d))

-- few segments make few slots
pub few_crossed : (rows cols : List Segment) (j k : ℕ) → length rows ≤ 2 * j → length cols ≤ 2 * k → length (crossed rows cols) ≤ 2 * j * (2 * k)
few_crossed rows cols j k few_rows few_cols =
    let product : length rows * length cols ≤ 2 * j * (2 * k) = mul-le-mul few_rows few_cols in
    let count = length-crossed rows cols in
    omega (arith, count, product)

-- some element passes exactly where the count of those that pass isn't 0
any_counts : {X : Type 0} (p : X → Bool) (xs : List X) → ((list_any p xs ≡ true) × (0 < count_by p xs)) ⊎ ((list_any p xs ≡ false) × (count_by p xs ≡ 0))
any_counts p [] = inr (refl, refl)
any_counts p (x ∷ xs) = by (p x) refl (any_counts p xs)
  where
    by : (b : Bool) → p x ≡ b → ((list_any p xs ≡ true) × (0 < count_by p xs)) ⊎ ((list_any p xs ≡ false) × (count_by p xs ≡ 0)) → ((list_any p (x ∷ xs) ≡ true) × (0 < count_by p (x ∷ xs))) ⊎ ((list_any p (x ∷ xs) ≡ false) × (count_by p (x ∷ xs) ≡ 0))
    by true e rest =
        let one : count_by p (x ∷ xs) ≡ 1 + count_by p xs = sum_by-cons (λ y. cond (p y) 1 0) x xs ∙ ap (λ b. cond b 1 0 + count_by p xs) e in
        inl (or_left (p x) (list_any p xs) e, omega (arith, one))
    by false e rest =
        let none : count_by p (x ∷ xs) ≡ 0 + count_by p xs = sum_by-cons (λ y. cond (p y) 1 0) x xs ∙ ap (λ b. cond b 1 0 + count_by p xs) e in
        let later : list_any p (x ∷ xs) ≡ list_any p xs = ap (λ b. b || list_any p xs) e in
        ⊎_elim
        (λ (some : (list_any p xs ≡ true) × (0 < count_by p xs)). inl (later ∙ some.0, omega (arith, none, some.1)))
        (λ (others : (list_any p xs ≡ false) × (count_by p xs ≡ 0)). inr (later ∙ others.0, omega (arith, none, others.1)))
        rest

-- what is counted once where a test passes is found exactly there
pub any_from_count : {X : Type 0} (p : X → Bool) (xs : List X) (b : Bool) → count_by p xs ≡ one_if b → list_any p xs ≡ b
any_from_count p xs true once = ⊎_elim (λ (some : (list_any p xs ≡ true) × (0 < count_by p xs)). some.0) (λ (none : (list_any p xs ≡ false) × (count_by p xs ≡ 0)). absurd (omega (arith, once, none.1))) (any_counts p xs)
any_from_count p xs false never = ⊎_elim (λ (some : (list_any p xs ≡ true) × (0 < count_by p xs)). absurd (omega (arith, never, some.1))) (λ (none : (list_any p xs ≡ false) × (count_by p xs ≡ 0)). none.0) (any_counts p xs)
