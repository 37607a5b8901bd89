-- Ranges that have exactly the numbers of the lines before a position. Serves the walk over the runs of a span.
use Rattle.std.proofs.Common.{◌≡◌, ◌∙◌, sym, ap, ℕ, ◌+◌, ◌-◌, ◌<◌, ◌≤◌, ◌↔◌, ◌⊎◌, inl, inr, ⊎_elim, Bool, true, false, ◌&&◌, nat_le, nat_lt, List, [], ◌∷◌, ◌++◌, IsTrue, arith}
use Rattle.std.proofs.lemmas.Bool.{and_from, and_parts, cases_lt, or_cases, or_left, or_right, false≢true, le-leb, lt-ltb, leb-true, ltb-true}
use Rattle.std.specs.List.{list_any}
use Rattle.std.specs.declared.ops.Range.{Range}
use Rattle.stable_lines.specs.declared.table.LineTable.{LineTable}
use Rattle.place_lines.specs.Spots.{in_runs, number_of}

-- a line from the first position to before the last has the number
abbrev pub HasNumber : LineTable → ℕ → ℕ → ℕ → Type 0
HasNumber t first end number = (position : ℕ) × (first ≤ position) × (position < end) × (number_of t position ≡ number)

-- exactly the numbers of the lines from the first position to before the last
abbrev pub AreNumbersBefore : LineTable → ℕ → ℕ → List (Range ℕ) → Type 0
AreNumbersBefore t first end runs = (number : ℕ) → IsTrue (in_runs runs number) ↔ HasNumber t first end number

-- the range has the numbers of the lines from the position on, in a row
abbrev pub IsRangeFrom : LineTable → ℕ → Range ℕ → Type 0
IsRangeFrom t start r = (i : ℕ) → i < r.end - r.start → number_of t (start + i) ≡ r.start + i

any_at_end : {X : Type 0} (q : X → Bool) (xs : List X) (x : X) → list_any q (xs ++ x ∷ []) ≡ true → (list_any q xs ≡ true) ⊎ (q x ≡ true)
any_at_end q [] x h = ⊎_elim (λ p. inr p) (λ p. absurd (false≢true p)) (or_cases (q x) false h)
any_at_end q (y ∷ xs) x h = ⊎_elim
    (λ p. inl (or_left (q y) (list_any q xs) p))
    (λ p. ⊎_elim (λ later. inl (or_right (q y) (list_any q xs) later)) (λ last. inr last) (any_at_end q xs x p))
    (or_cases (q y) (list_any q (xs ++ x ∷ [])) h)

any_before : {X : Type 0} (q : X → Bool) (xs : List X) (x : X) → list_any q xs ≡ true → list_any q (xs ++ x ∷ []) ≡ true
any_before q [] x h = absurd (false≢true h)
any_before q (y ∷ xs) x h = ⊎_elim
    (λ p. or_left (q y) (list_any q (xs ++ x ∷ [])) p)
    (λ p. or_right (q y) (list_any q (xs ++ x ∷ [])) (any_before q xs x p))
    (or_cases (q y) (list_any q xs) h)

any_last : {X : Type 0} (q : X → Bool) (xs : List X) (x : X) → q x ≡ true → list_any q (xs ++ x ∷ []) ≡ true
any_last q [] x h = or_left (q x) false h
any_last q (y ∷ xs) x h = or_right (q y) (list_any q (xs ++ x ∷ [])) (any_last q xs x h)

-- one more range
module _ (t : LineTable) (first start : ℕ) (runs : List (Range ℕ)) (r : Range ℕ) (from : first ≤ start) (range : IsRangeFrom t start r) where
  in_range : (number : ℕ) → r.start ≤ number → number < r.end → HasNumber t first (start + (r.end - r.start)) number
  in_range number le lt =
      let same : r.start + (number - r.start) ≡ number = omega arith in
      (start + (number - r.start), omega arith, omega arith, range (number - r.start) (omega arith) ∙ same)

  has_later : (number : ℕ) → HasNumber t first start number → HasNumber t first (start + (r.end - r.start)) number
  has_later number (position, le, lt, e) = (position, le, omega arith, e)

  is_there : (number position : ℕ) → start ≤ position → position < start + (r.end - r.start) → number_of t position ≡ number → (r.start ≤ number) × (number < r.end)
  is_there number position le lt e =
      let back : start + (position - start) ≡ position = omega arith in
      let same : number ≡ r.start + (position - start) = sym e ∙ ap (number_of t) (sym back) ∙ range (position - start) (omega arith) in
      (omega arith, omega arith)

  pub one_more : AreNumbersBefore t first start runs → AreNumbersBefore t first (start + (r.end - r.start)) (runs ++ r ∷ [])
  one_more numbers number = (
    λ h. ⊎_elim
        (λ p. has_later number ((numbers number).0 p))
        (λ p. let parts = and_parts (nat_le r.start number) (nat_lt number r.end) p in in_range number (leb-true r.start number parts.0) (ltb-true number r.end parts.1))
        (any_at_end (λ r. nat_le r.start number && nat_lt number r.end) runs r h),
    λ w. ⊎_elim
        (λ lt. any_before (λ r. nat_le r.start number && nat_lt number r.end) runs r ((numbers number).1 (w.0, w.1, lt, w.3)))
        (λ le. let there = is_there number w.0 le w.2 w.3 in
        any_last (λ r. nat_le r.start number && nat_lt number r.end) runs r (and_from (nat_le r.start number) (nat_lt number r.end) (le-leb r.start number there.0) (lt-ltb number r.end there.1)))
        (cases_lt w.0 start),
  )
