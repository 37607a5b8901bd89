-- The numbers of the lines of one sheet along an axis: no two are the same, and each stands where it was read.
use Rattle.std.proofs.Common.{◌≡◌, ◌∙◌, sym, ap, refl, ℕ, ◌-◌, ◌<◌, ◌≤◌, ◌⊎◌, inl, inr, true, Option, Some, None, is_some, arith}
use Rattle.std.proofs.lemmas.Bool.Decides.{nat_tests}
use Rattle.std.proofs.lemmas.Bool.{cases_lt, cond-true, cond-false, lt-ltb, le-ltb}
use Rattle.std.proofs.lemmas.Option.{same_Some}
use Rattle.stable_lines.specs.Lines.{line_at, position_of}
use Rattle.stable_lines.specs.declared.table.LineTable.{LineTable}
use Rattle.place_lines.specs.internal.Low.{HasLowLines}
use Rattle.place_lines.specs.Spots.{number_of, past, past_position, position_at, positions}
use Rattle.place_lines.specs.declared.past.TheConstants.{PAST}

-- a position has a line, or stands past the sheet's end
abbrev pub HasNumber : LineTable → ℕ → Type 0
HasNumber t x =
    ((l : ℕ) × (line_at t x ≡ Some l) × (number_of t x ≡ l) × (x < t.limit)) ⊎ ((number_of t x ≡ past x) × (t.limit ≤ x))

some_line : (r : Option ℕ) → is_some r ≡ true → (l : ℕ) × (r ≡ Some l)
some_line (Some l) h = (l, refl)
some_line None h = cc

no_line : (t : LineTable) (x : ℕ) (r : Option ℕ) → line_at t x ≡ r → t.limit ≤ x → line_at t x ≡ None
no_line t x None e le = e
no_line t x (Some l) e le = let lt = t.within x l e in absurd (omega arith)

pub number_line : (t : LineTable) (x l : ℕ) → line_at t x ≡ Some l → number_of t x ≡ l
number_line t x l e = rw e refl

pub number_past : (t : LineTable) (x : ℕ) → t.limit ≤ x → number_of t x ≡ past x
number_past t x le = rw (no_line t x (line_at t x) refl le) refl

pub has_number : (t : LineTable) (x : ℕ) → HasNumber t x
has_number t x =
    elim (cases_lt x t.limit) [
      | inl lt ↦ let w = some_line (line_at t x) (t.filled x lt) in inl (w.0, w.1, number_line t x w.0 w.1, lt)
      | inr le ↦ inr (number_past t x le, le)
    ]

-- no two positions have one number
pub one_position : (t : LineTable) (x y : ℕ) → HasLowLines t → number_of t x ≡ number_of t y → x ≡ y
one_position t x y low e =
    elim (has_number t x) [
      | inl (l, at, here, lt) ↦ elim (has_number t y) [
        | inl (m, at', there, lt') ↦
            let same : l ≡ m = sym here ∙ e ∙ there in
            same_Some x y (sym ((t.inverse x l).0 at) ∙ ap (position_of t) same ∙ (t.inverse y m).0 at')
        | inr w ↦ let small = low x l at in let n = w.0 in absurd (omega arith)
      ]
      | inr v ↦ elim (has_number t y) [
        | inl (m, at, there, lt) ↦ let small = low y m at in let n = v.0 in absurd (omega arith)
        | inr w ↦ let n = v.0 in let m = w.0 in omega arith
      ]
    ]

low_position : (t : LineTable) (n : ℕ) → n < PAST → position_at t n ≡ position_of t n
low_position t n lt = cond-true _ _ _ (lt-ltb n PAST lt)

high_position : (t : LineTable) (x : ℕ) → position_at t (past x) ≡ past_position t x
high_position t x = grind (arith, nat_tests)

past_stands : (t : LineTable) (x : ℕ) → t.limit ≤ x → x < positions → past_position t x ≡ Some x
past_stands t x le lt = grind (arith, nat_tests)

-- a number stands where it was read
pub position_returns : (t : LineTable) (x : ℕ) → HasLowLines t → x < positions → position_at t (number_of t x) ≡ Some x
position_returns t x low narrow =
    elim (has_number t x) [
      | inl (l, at, here, lt) ↦ ap (position_at t) here ∙ low_position t l (low x l at) ∙ (t.inverse x l).0 at
      | inr w ↦ ap (position_at t) w.0 ∙ high_position t x ∙ past_stands t x w.1 narrow
    ]

past_found : (t : LineTable) (m x : ℕ) → past_position t m ≡ Some x → (m ≡ x) × (t.limit ≤ x)
past_found t m x h = (grind (arith, nat_tests), grind (arith, nat_tests))

-- and is read where it stands
pub number_returns : (t : LineTable) (n x : ℕ) → position_at t n ≡ Some x → number_of t x ≡ n
number_returns t n x h =
    elim (cases_lt n PAST) [
      | inl lt ↦ number_line t x n ((t.inverse x n).1 (sym (low_position t n lt) ∙ h))
      | inr le ↦
          let w = past_found t (n - PAST) x (sym (cond-false _ _ _ (le-ltb n PAST le)) ∙ h) in
          number_past t x w.1 ∙ omega arith
    ]
