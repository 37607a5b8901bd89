-- Tables that rise are parted by each number. It serves the search by halves.
use Rattle.std.proofs.Common.{◌≡◌, arith, ℕ, zero, suc, ℤ, ◌<◌, Bool, true, false, refl, List, [], ◌∷◌, length, get_or}
use Rattle.std.specs.Prelude.{int_le, int_lt}
use Rattle.std.specs.List.Sorted.{IsPartitionedBy}
use Rattle.std.proofs.lemmas.Bool.{and_parts}
use Rattle.std.proofs.lemmas.Int.{ints}
use Rattle.custom_fn.specs.Pairs.{rises, rises_above}

le-from : (p q x : ℤ) → int_lt p q ≡ true → int_le q x ≡ true → int_le p x ≡ true
le-from p q x a b = go (int_le p x) refl
  where
    go : (t : Bool) → int_le p x ≡ t → int_le p x ≡ true
    go true e = e
    go false e = absurd (omega (arith, ints))

lt-lt : (p q r : ℤ) → int_lt p q ≡ true → int_lt q r ≡ true → int_lt p r ≡ true
lt-lt p q r a b = go (int_lt p r) refl
  where
    go : (t : Bool) → int_lt p r ≡ t → int_lt p r ≡ true
    go true e = e
    go false e = absurd (omega (arith, ints))

above : (last : ℤ) (rows : List (ℤ × ℤ)) → rises_above last rows ≡ true → (j : ℕ) (d : ℤ × ℤ) → j < length rows → int_lt last (get_or rows j d).0 ≡ true
above last [] h j d l = absurd (omega arith)
above last (row ∷ rows) h zero d l = (and_parts (int_lt last row.0) (rises_above row.0 rows) h).0
above last (row ∷ rows) h (suc j) d l =
    let parts = and_parts (int_lt last row.0) (rises_above row.0 rows) h in
    lt-lt last row.0 (get_or rows j d).0 parts.0 (above row.0 rows parts.1 j d (omega arith))

behind : (row : ℤ × ℤ) (rows : List (ℤ × ℤ)) → rises (row ∷ rows) ≡ true → rises rows ≡ true
behind row [] h = refl
behind row (next ∷ rows) h = (and_parts (int_lt row.0 next.0) (rises_above next.0 rows) h).1

-- a row that begins at or below the number has only such rows before it
pub risen-parted : (x : ℤ) (rows : List (ℤ × ℤ)) → rises rows ≡ true → IsPartitionedBy (λ (row : ℤ × ℤ). int_le row.0 x) rows
risen-parted x [] h i j d le l e = absurd (omega arith)
risen-parted x (row ∷ rows) h zero zero d le l e = e
risen-parted x (row ∷ rows) h (suc i) zero d le l e = absurd (omega arith)
risen-parted x (row ∷ rows) h zero (suc j) d le l e = le-from row.0 (get_or rows j d).0 x (above row.0 rows h j d (omega arith)) e
risen-parted x (row ∷ rows) h (suc i) (suc j) d le l e = risen-parted x rows (behind row rows h) i j d (omega arith) (omega arith) e
