-- Summaries that go on cell by cell and row by row, and empty values among them. Serves the summary of a block.
use Rattle.std.proofs.Common.{◌≡◌, ◌∙◌, sym, ap, refl, arith, ℕ, zero, suc, ◌+◌, ◌<◌, ◌≤◌, Bool, true, false, cond, not, List, [], ◌∷◌, ◌++◌, map, length, take, get_or, Some, None, append_assoc, add-zero, length-append}
use Rattle.std.specs.Borrow.{Bor}
use Rattle.std.specs.List.{flat_map, range_with_len}
use Rattle.std.proofs.Math.IntN.{+ℤ_idr}
use Rattle.std.proofs.lemmas.Grind.{flat_map-append}
use Rattle.std.proofs.lemmas.List.{append-nil, get_or-map, length-map, take_more}
use Rattle.std.proofs.lemmas.List.Elements.{filter-append}
use Rattle.std.proofs.lemmas.List.FromFn.{map-range_with_len_more}
use Rattle.cell_value.specs.Scalar.{is_empty}
use Rattle.cell_value.specs.Summary.{alone, joined, no_values, summary_of}
use Rattle.cell_value.specs.declared.scalar.Scalar.{Scalar}
use Rattle.cell_value.specs.declared.scalar.Scalar.TheVariants.{Empty, Number, Text, Truth, Fault}
use Rattle.cell_value.proofs.Summaries.{summary_of-append}
use Rattle.range_table.specs.Cells.{nonempty, seen_values}
use Rattle.range_table.specs.declared.merging.Merged.{Merged}
use Rattle.range_table.specs.internal.Rows.{GoesOn}

-- one value alone
single : (x : Scalar) → joined (alone x) no_values ≡ alone x
single Empty = refl
single (Number n) = λ i. record { count = 1; sum = +ℤ_idr n i; least = Some n; greatest = Some n; fault = None }
single (Text bytes) = refl
single (Truth is) = refl
single (Fault fault) = refl

summary_of-single : (x : Scalar) → summary_of (x ∷ []) ≡ alone x
unfolding summary_of
summary_of-single x = single x

-- one value more
pub summary_of-more : (xs : List Scalar) (x : Scalar) → joined (summary_of xs) (alone x) ≡ summary_of (xs ++ x ∷ [])
summary_of-more xs x = ap (joined (summary_of xs)) (sym (summary_of-single x)) ∙ sym (summary_of-append xs (x ∷ []))

pub alone_count : (x : Scalar) → (alone x).count ≤ 1
alone_count Empty = omega arith
alone_count (Number n) = omega arith
alone_count (Text bytes) = omega arith
alone_count (Truth is) = omega arith
alone_count (Fault fault) = omega arith

-- no more numbers than values
pub summary_of-count : (xs : List Scalar) → (summary_of xs).count ≤ length xs
unfolding summary_of
summary_of-count [] = omega arith
summary_of-count (x ∷ xs) = let one = alone_count x in let rest = summary_of-count xs in omega (arith, one, rest)

-- ---- empty values come to nothing

alone_empty : (x : Scalar) → is_empty x ≡ true → alone x ≡ no_values
alone_empty Empty h = refl
alone_empty (Number n) h = absurd (cc)
alone_empty (Text bytes) h = absurd (cc)
alone_empty (Truth is) h = absurd (cc)
alone_empty (Fault fault) h = absurd (cc)

none_first : (xs : List Scalar) → joined no_values (summary_of xs) ≡ summary_of xs
unfolding summary_of
none_first xs = sym (summary_of-append [] xs)

first_empty : (x : Scalar) (xs : List Scalar) → is_empty x ≡ true → summary_of (x ∷ xs) ≡ summary_of xs
unfolding summary_of
first_empty x xs h = ap (λ s. joined s (summary_of xs)) (alone_empty x h) ∙ none_first xs

nonempty-by : (x : Scalar) (xs : List Scalar) (t : Bool) → is_empty x ≡ t → summary_of (nonempty xs) ≡ summary_of xs → summary_of (cond (not t) (x ∷ nonempty xs) (nonempty xs)) ≡ summary_of (x ∷ xs)
unfolding summary_of
nonempty-by x xs true e h = h ∙ sym (first_empty x xs e)
nonempty-by x xs false e h = ap (joined (alone x)) h

-- those that aren't empty come to what all do
pub summary_of-nonempty : (xs : List Scalar) → summary_of (nonempty xs) ≡ summary_of xs
summary_of-nonempty [] = refl
summary_of-nonempty (x ∷ xs) = nonempty-by x xs (is_empty x) refl (summary_of-nonempty xs)

-- also after others
pub summary_of-among : (xs ys : List Scalar) → summary_of (xs ++ nonempty ys) ≡ summary_of (xs ++ ys)
summary_of-among xs ys = summary_of-append xs (nonempty ys) ∙ ap (joined (summary_of xs)) (summary_of-nonempty ys) ∙ sym (summary_of-append xs ys)

again-by : (x : Scalar) (xs : List Scalar) (t : Bool) → is_empty x ≡ t → nonempty (nonempty xs) ≡ nonempty xs → nonempty (cond (not t) (x ∷ nonempty xs) (nonempty xs)) ≡ cond (not t) (x ∷ nonempty xs) (nonempty xs)
again-by x xs true e h = h
again-by x xs false e h = ap (λ t. cond (not t) (x ∷ nonempty (nonempty xs)) (nonempty (nonempty xs))) e ∙ ap (λ ys. x ∷ ys) h

-- none of them is empty
pub nonempty-again : (xs : List Scalar) → nonempty (nonempty xs) ≡ nonempty xs
nonempty-again [] = refl
nonempty-again (x ∷ xs) = again-by x xs (is_empty x) refl (nonempty-again xs)

few-by : (x : Scalar) (xs : List Scalar) (t : Bool) → length (nonempty xs) ≤ length xs → length (cond t (x ∷ nonempty xs) (nonempty xs)) ≤ suc (length xs)
few-by x xs true h = omega (arith, h)
few-by x xs false h = omega (arith, h)

-- and are no more
pub nonempty-few : (xs : List Scalar) → length (nonempty xs) ≤ length xs
nonempty-few [] = omega arith
nonempty-few (x ∷ xs) = few-by x xs (not (is_empty x)) (nonempty-few xs)

pub nonempty-append : (xs ys : List Scalar) → nonempty (xs ++ ys) ≡ nonempty xs ++ nonempty ys
nonempty-append = filter-append (λ value. not (is_empty value))

-- ---- values one after another

-- no value more
pub goes_nowhere : (m : Merged) → GoesOn m m []
goes_nowhere m = record { sums = λ before e. e ∙ ap summary_of (sym (append-nil before)); cells = omega arith }

-- first these, and then those
pub goes_further : (a b c : Merged) (xs ys : List Scalar) → GoesOn a b xs → GoesOn b c ys → GoesOn a c (xs ++ ys)
goes_further a b c xs ys f g =
    let both = ap (λ (vs : List Scalar). length vs) (nonempty-append xs ys) ∙ length-append (nonempty xs) (nonempty ys) in record {
      sums = λ before e. g.sums (before ++ xs) (f.sums before e) ∙ ap summary_of (append_assoc before xs ys);
      cells = omega (arith, f.cells, g.cells, both);
    }

-- an empty value more
pub goes_on_empty : (m : Merged) (x : Scalar) → is_empty x ≡ true → GoesOn m m (x ∷ [])
goes_on_empty m x h =
    let none = ap (λ t. length (cond (not t) (x ∷ []) [])) h in record {
      sums = λ before e. e ∙ sym (summary_of-append before (x ∷ []) ∙ ap (joined (summary_of before)) (first_empty x [] h) ∙ sym (summary_of-append before []) ∙ ap summary_of (append-nil before));
      cells = omega (arith, none);
    }

-- another one more
pub goes_on_value : (a b : Merged) (x : Scalar) → is_empty x ≡ false → b.summary ≡ joined a.summary (alone x) → b.cells ≡ a.cells + 1 → GoesOn a b (x ∷ [])
goes_on_value a b x h is more =
    let one = ap (λ t. length (cond (not t) (x ∷ []) [])) h in record {
      sums = λ before e. is ∙ ap (λ s. joined s (alone x)) e ∙ summary_of-more before x;
      cells = omega (arith, one, more);
    }

-- ---- value by value, cell by cell and row by row

-- as many are seen as are lent
pub seen_values-length : (values : List (Bor Scalar)) → length (seen_values values) ≡ length values
seen_values-length values = length-map {B = Scalar} values (λ (value : Bor Scalar). value.now)

-- after one more of them
pub value_more : (values : List (Bor Scalar)) (i : ℕ) (item : Bor Scalar) → i < length values → item ≡ get_or values i item → take i (seen_values values) ++ item.now ∷ [] ≡ take (i + 1) (seen_values values)
value_more values i item inside is =
    let long = seen_values-length values in
    let here : get_or (seen_values values) i item.now ≡ item.now = get_or-map (λ (value : Bor Scalar). value.now) values i item item.now inside ∙ ap (λ (value : Bor Scalar). value.now) (sym is) in
    ap (λ x. take i (seen_values values) ++ x ∷ []) (sym here) ∙ sym (take_more (seen_values values) i item.now (omega (arith, long, inside)))

-- a range of numbers with one more
range-more : (a n : ℕ) → range_with_len a (suc n) ≡ range_with_len a n ++ (a + n) ∷ []
range-more a zero = ap (λ x. x ∷ []) (sym (add-zero a))
range-more a (suc n) = let same : a + 1 + n ≡ a + suc n = omega arith in ap (λ xs. a ∷ xs) (range-more (a + 1) n ∙ ap (λ x. range_with_len (a + 1) n ++ x ∷ []) same)

pub flat-more : {X : Type 0} (f : ℕ → List X) (a n j : ℕ) → a + n ≡ j → flat_map f (range_with_len a (n + 1)) ≡ flat_map f (range_with_len a n) ++ f j
flat-more f a n j is =
    let next : n + 1 ≡ suc n = omega arith in
    ap (λ k. flat_map f (range_with_len a k)) next
    ∙ ap (flat_map f) (range-more a n)
    ∙ flat_map-append f (range_with_len a n) ((a + n) ∷ [])
    ∙ ap (λ xs. flat_map f (range_with_len a n) ++ xs) (append-nil (f (a + n)) ∙ ap f is)

-- after one more cell of a row, and one more row
pub cell_more : {X : Type 0} (f : ℕ → X) (a n j k : ℕ) → a + n ≡ j → n + 1 ≡ k → map f (range_with_len a n) ++ f j ∷ [] ≡ map f (range_with_len a k)
cell_more f a n j k is next = sym (map-range_with_len_more f a n j is) ∙ ap (λ m. map f (range_with_len a m)) next

pub row_more : {X : Type 0} (f : ℕ → List X) (a n j k : ℕ) → a + n ≡ j → n + 1 ≡ k → flat_map f (range_with_len a n) ++ f j ≡ flat_map f (range_with_len a k)
row_more f a n j k is next = sym (flat-more f a n j is) ∙ ap (λ m. flat_map f (range_with_len a m)) next
