-- The digits that std prints of a number: they are digits, and spell the number.
-- Serves the crates above, whose printed numbers are read back.
use Rattle.std.proofs.Common.{◌≡◌, ◌∙◌, arith, refl, ℕ, ◌+◌, ◌/◌, ◌%◌, ◌^◌, ◌<◌, ◌≤◌, true, List, [], ◌∷◌, ◌++◌}
use Rattle.std.specs.List.{list_all}
use Rattle.std.specs.Fmt.{decimal}
use Rattle.std.proofs.lemmas.Fmt.{decimal_by_steps}
use Rattle.std.proofs.lemmas.List.Folds.{list_all-append}
use Rattle.std.proofs.lemmas.Bool.{lt-ltb, and_from}
use Rattle.digits.specs.Digits.{value, is_digit}
use Rattle.digits.proofs.Numerals.{value_push}

-- the byte of a digit is one
pub digit_is : (d : ℕ) → d < 10 → is_digit (48 + d) ≡ true
digit_is d h = and_from _ _ (lt-ltb 47 (48 + d) (omega arith)) (lt-ltb (48 + d) 58 (omega arith))

abbrev IsPrinted : ℕ → List ℕ → Type 0
IsPrinted n ds = (value ds ≡ n) × (list_all is_digit ds ≡ true)

printed_one : (n : ℕ) → n < 10 → IsPrinted n ((48 + n) ∷ [])
printed_one n h = (omega arith, and_from _ _ (digit_is n h) refl)

printed_more : (n : ℕ) (ds : List ℕ) → 10 ≤ n → IsPrinted (n / 10) ds → IsPrinted n (ds ++ ((48 + n % 10) ∷ []))
printed_more n ds h p =
    let small : n % 10 < 10 = omega arith in (
      rw (value_push ds (48 + n % 10), p.0) (omega arith),
      list_all-append is_digit ds ((48 + n % 10) ∷ []) ∙ and_from _ _ p.1 (and_from _ _ (digit_is (n % 10) small) refl),
    )

pub value-decimal : (n : ℕ) → n < 2 ^ 64 → value (decimal n) ≡ n
value-decimal n h = (decimal_by_steps IsPrinted printed_one printed_more n h).0

pub list_all-decimal : (n : ℕ) → n < 2 ^ 64 → list_all is_digit (decimal n) ≡ true
list_all-decimal n h = (decimal_by_steps IsPrinted printed_one printed_more n h).1
