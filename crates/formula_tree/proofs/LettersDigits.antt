-- Letters and digits in runs: what they begin with, and how far they go. Serves the tokens of addresses and of the
-- ends of whole ranges.
use Rattle.std.proofs.Common.{◌≡◌, subst, refl, arith, ℕ, ◌+◌, ◌^◌, ◌<◌, true, false, ◌==◌, List, [], ◌∷◌, ◌++◌, length}
use Rattle.std.specs.List.{list_all}
use Rattle.std.specs.Char.{is_ascii_alphabetic}
use Rattle.std.specs.Fmt.{decimal}
use Rattle.std.proofs.lemmas.Bool.{and_parts, both_ways, false_from_ne_true}
use Rattle.std.proofs.lemmas.Bool.Decides.{nat_tests}
use Rattle.std.proofs.lemmas.Fmt.{decimal_nonempty}
use Rattle.std.proofs.lemmas.List.{append-nil}
use Rattle.digits.specs.Digits.{is_digit}
use Rattle.digits.proofs.Numerals.{is_digit-bounds}
use Rattle.digits.proofs.Printed.{list_all-decimal}
use Rattle.cell_addr.specs.declared.place.TheConstants.{ROWS, COLS}
use Rattle.cell_addr.specs.Address.{column_letters, letters, after_letters}
use Rattle.cell_addr.proofs.Printed.{column_letters-spell}
use Rattle.formula_tree.specs.Run.{begins_run, is_run_byte, begins_with, begins_with_any}
use Rattle.formula_tree.proofs.Fronts.{after_while-append}

pub digit-no_letter : (c : ℕ) → is_digit c ≡ true → is_ascii_alphabetic c ≡ false
digit-no_letter c h = let b = is_digit-bounds c h in grind (arith, nat_tests)

letter-no_digit : (c : ℕ) → is_ascii_alphabetic c ≡ true → is_digit c ≡ false
letter-no_digit c h = false_from_ne_true (is_digit c) (λ d. both_ways (is_ascii_alphabetic c) (digit-no_letter c d) h)

digit-no_dollar : (c : ℕ) → is_digit c ≡ true → (c == 36) ≡ false
digit-no_dollar c h = let b = is_digit-bounds c h in grind (arith, nat_tests)

letter-no_dollar : (c : ℕ) → is_ascii_alphabetic c ≡ true → (c == 36) ≡ false
letter-no_dollar c h = grind (arith, nat_tests)

pub letter-begins : (c : ℕ) → is_ascii_alphabetic c ≡ true → begins_run c ≡ true
letter-begins c h = grind (arith, nat_tests)

pub letter-goes_on : (c : ℕ) → is_ascii_alphabetic c ≡ true → is_run_byte c ≡ true
letter-goes_on c h = grind (arith, nat_tests)

pub digit-goes_on : (c : ℕ) → is_digit c ≡ true → is_run_byte c ≡ true
digit-goes_on c h = let b = is_digit-bounds c h in grind (arith, nat_tests)

-- letters, and digits, of one byte or more
abbrev pub AreLetters : List ℕ → Type 0
AreLetters ls = (0 < length ls) × (list_all is_ascii_alphabetic ls ≡ true)

abbrev pub AreDigits : List ℕ → Type 0
AreDigits ds = (0 < length ds) × (list_all is_digit ds ≡ true)

-- those of a column and of a row
pub column-letters : (col : ℕ) → col < COLS → AreLetters (column_letters col)
column-letters col h = let t = column_letters-spell col h in (omega (arith, t.some), t.all_letters)

pub row-digits : (row : ℕ) → row < ROWS → AreDigits (decimal (row + 1))
row-digits row h =
    let small : row + 1 < 2 ^ 64 = omega (arith, h) in
    (decimal_nonempty (row + 1) small, list_all-decimal (row + 1) small)

-- what they begin with
pub digits-begin : (ds rest : List ℕ) → AreDigits ds → begins_with_any is_digit (ds ++ rest) ≡ true
digits-begin [] rest d = absurd (omega (arith, d.0))
digits-begin (c ∷ ds) rest d = (and_parts (is_digit c) (list_all is_digit ds) d.1).0

pub digits-first : (ds : List ℕ) → AreDigits ds → begins_with_any is_digit ds ≡ true
digits-first ds d = subst (λ x. begins_with_any is_digit x ≡ true) (append-nil ds) (digits-begin ds [] d)

pub letters-no_digit : (ls : List ℕ) → AreLetters ls → begins_with_any is_digit ls ≡ false
letters-no_digit [] l = refl
letters-no_digit (c ∷ ls) l = letter-no_digit c (and_parts (is_ascii_alphabetic c) (list_all is_ascii_alphabetic ls) l.1).0

pub digits-no_dollar : (ds : List ℕ) → AreDigits ds → begins_with 36 ds ≡ false
digits-no_dollar [] d = refl
digits-no_dollar (c ∷ ds) d = digit-no_dollar c (and_parts (is_digit c) (list_all is_digit ds) d.1).0

pub letters-no_dollar : (ls rest : List ℕ) → AreLetters ls → begins_with 36 (ls ++ rest) ≡ false
letters-no_dollar [] rest l = absurd (omega (arith, l.0))
letters-no_dollar (c ∷ ls) rest l = letter-no_dollar c (and_parts (is_ascii_alphabetic c) (list_all is_ascii_alphabetic ls) l.1).0

pub digits-no_letter : (ds : List ℕ) → AreDigits ds → begins_with_any is_ascii_alphabetic ds ≡ false
digits-no_letter [] d = refl
digits-no_letter (c ∷ ds) d = digit-no_letter c (and_parts (is_digit c) (list_all is_digit ds) d.1).0

-- and how far letters go
pub letters-digits : (ds : List ℕ) → AreDigits ds → letters ds ≡ []
letters-digits [] d = refl
letters-digits (c ∷ ds) d = rw (digits-no_letter (c ∷ ds) d) refl

pub after_letters-letters : (ls : List ℕ) → AreLetters ls → after_letters ls ≡ []
after_letters-letters ls l = subst (λ x. after_letters x ≡ []) (append-nil ls) (after_while-append is_ascii_alphabetic ls [] l.1 refl)
