-- The texts of columns and places, and what they are read back as. Serves the laws of printing.
use Rattle.std.proofs.Common.{◌≡◌, ◌∙◌, sym, ap, refl, arith, ℕ, ◌+◌, ◌-◌, ◌*◌, ◌/◌, ◌%◌, ◌^◌, ◌<◌, ◌≤◌, Bool, true, false, cond, not, eqb, ltb, List, [], ◌∷◌, length, get_or, Some, None, option_map}
use Rattle.std.specs.List.{list_all, list_any}
use Rattle.std.specs.Char.{is_ascii_alphabetic, is_ascii_alphanumeric, is_ascii_uppercase}
use Rattle.std.specs.Option.{option_and_then}
use Rattle.std.specs.Fmt.{decimal}
use Rattle.std.proofs.lemmas.Bool.{ltb-true, ltb-false, cond-true, cond-false, both_ways, or_from, and_from, and_parts, eqb-true, le-leb, ne_eqb, false_from_ne_true}
use Rattle.std.proofs.lemmas.Bool.Decides.{nat_tests}
use Rattle.std.proofs.lemmas.Fmt.{decimal_nonempty, first_decimal, length-decimal-le}
use Rattle.std.proofs.lemmas.List.Folds.{list_all-append}
use Rattle.digits.specs.Digits.{is_digit, value}
use Rattle.digits.proofs.Printed.{value-decimal, list_all-decimal}
use Rattle.digits.proofs.Numerals.{is_digit-bounds}
use Rattle.cell_addr.proofs.Addresses.{address_of-append}
use Rattle.cell_addr.specs.Address.{letter_number, letters_number, capital, column_letters, place_letters, is_column, is_row, column_of, row_of, address_of, is_colon, spot_at, area_of, on_sheet, area_on_sheet, spot_of}
use Rattle.cell_addr.specs.Parts.{split_once, strip_prefix}
use Rattle.cell_addr.specs.SheetName.{bare_sheet, sheet_by_start, sheet_and_rest}

letter_number-capital : (n : ℕ) → n < 26 → letter_number (capital n) ≡ n + 1
letter_number-capital n h = grind (arith, nat_tests)

uppercase-capital : (n : ℕ) → n < 26 → is_ascii_uppercase (capital n) ≡ true
uppercase-capital n h = grind (arith, nat_tests)

alphabetic-capital : (n : ℕ) → n < 26 → is_ascii_alphabetic (capital n) ≡ true
alphabetic-capital n h = grind (arith, nat_tests)

-- one to three capitals that spell the number n
pub record IsColumnText (n : ℕ) (text : List ℕ) : Type 0 where
  pub some : 1 ≤ length text
  pub few : length text ≤ 3
  pub raised : list_all is_ascii_uppercase text ≡ true
  pub all_letters : list_all is_ascii_alphabetic text ≡ true
  pub spelled : letters_number text ≡ n

one_letter : (a n : ℕ) → a < 26 → n ≡ a + 1 → IsColumnText n (capital a ∷ [])
one_letter a n la e = record {
  some = omega arith;
  few = omega arith;
  raised = and_from _ _ (uppercase-capital a la) refl;
  all_letters = and_from _ _ (alphabetic-capital a la) refl;
  spelled = rw (letter_number-capital a la) (omega arith);
}

two_letters : (a b n : ℕ) → a < 26 → b < 26 → n ≡ 26 * (a + 1) + (b + 1) → IsColumnText n (capital a ∷ capital b ∷ [])
two_letters a b n la lb e = record {
  some = omega arith;
  few = omega arith;
  raised = and_from _ _ (uppercase-capital a la) (and_from _ _ (uppercase-capital b lb) refl);
  all_letters = and_from _ _ (alphabetic-capital a la) (and_from _ _ (alphabetic-capital b lb) refl);
  spelled = rw (letter_number-capital a la, letter_number-capital b lb) (omega arith);
}

three_letters : (a b c n : ℕ) → a < 26 → b < 26 → c < 26 → n ≡ 26 * (26 * (a + 1) + (b + 1)) + (c + 1) → IsColumnText n (capital a ∷ capital b ∷ capital c ∷ [])
three_letters a b c n la lb lc e = record {
  some = omega arith;
  few = omega arith;
  raised = and_from _ _ (uppercase-capital a la) (and_from _ _ (uppercase-capital b lb) (and_from _ _ (uppercase-capital c lc) refl));
  all_letters = and_from _ _ (alphabetic-capital a la) (and_from _ _ (alphabetic-capital b lb) (and_from _ _ (alphabetic-capital c lc) refl));
  spelled = rw (letter_number-capital a la, letter_number-capital b lb, letter_number-capital c lc) (omega arith);
}

abbrev pieces : Bool → Bool → ℕ → List ℕ
pieces first second col = cond first (capital col ∷ []) (cond second (capital ((col - 26) / 26) ∷ capital ((col - 26) % 26) ∷ []) (capital ((col - 702) / 676) ∷ capital ((col - 702) / 26 % 26) ∷ capital ((col - 702) % 26) ∷ []))

column-by : (first second : Bool) (col : ℕ) → col < 18278 → ltb col 26 ≡ first → ltb col 702 ≡ second → IsColumnText (col + 1) (pieces first second col)
column-by true second col h e f = one_letter col (col + 1) (omega (arith, ltb-true col 26 e)) refl
column-by false true col h e f =
    let low = ltb-false col 26 e in
    let high = ltb-true col 702 f in
    two_letters ((col - 26) / 26) ((col - 26) % 26) (col + 1) (omega arith) (omega arith) (omega arith)
column-by false false col h e f =
    let low = ltb-false col 702 f in
    three_letters ((col - 702) / 676) ((col - 702) / 26 % 26) ((col - 702) % 26) (col + 1) (omega arith) (omega arith) (omega arith) (omega arith)

-- the letters of a column are one to three capitals, and spell its number
pub column_letters-spell : (col : ℕ) → col < 18278 → IsColumnText (col + 1) (column_letters col)
column_letters-spell col h = column-by (ltb col 26) (ltb col 702) col h refl refl

-- the digits of a row's number, of seven digits at most
pub decimal-is_row : (n : ℕ) → 0 < n → n < 10000000 → is_row (decimal n) ≡ true
decimal-is_row n some few =
    let short : n < 2 ^ 64 = omega arith in
    let seven = length-decimal-le 7 n (omega arith) (omega arith) short in
    let first = first_decimal n some short in
    and_from _ _
    (and_from _ _ (le-leb 1 (length (decimal n)) (decimal_nonempty n short)) (le-leb (length (decimal n)) 7 seven))
    (and_from _ _ (ap not (ne_eqb (get_or (decimal n) 0 0) 48 (λ e. omega arith))) (list_all-decimal n short))

pub row_of-decimal : (row : ℕ) → row < 9999999 → row_of (decimal (row + 1)) ≡ Some row
row_of-decimal row h =
    cond-true (is_row (decimal (row + 1))) (Some (value (decimal (row + 1)) - 1)) None (decimal-is_row (row + 1) (omega arith) (omega arith))
    ∙ ap (λ n. Some (n - 1)) (value-decimal (row + 1) (omega arith))
    ∙ ap (λ n. Some n) (omega arith)

is_column-text : (n : ℕ) (text : List ℕ) → IsColumnText n text → is_column text ≡ true
is_column-text n text t =
    and_from _ _ (and_from _ _ (le-leb 1 (length text) t.some) (le-leb (length text) 3 t.few)) t.all_letters

pub column_of-column_letters : (col : ℕ) → col < 18278 → column_of (column_letters col) ≡ Some col
column_of-column_letters col h =
    let t = column_letters-spell col h in
    cond-true (is_column (column_letters col)) (Some (letters_number (column_letters col) - 1)) None (is_column-text (col + 1) (column_letters col) t)
    ∙ ap (λ n. Some (n - 1)) t.spelled
    ∙ ap (λ n. Some n) (omega arith)

pub address_of-place_letters : (row col : ℕ) → row < 9999999 → col < 18278 → address_of (place_letters row col) ≡ Some (row, col)
address_of-place_letters row col r c =
    address_of-append (column_letters col) (decimal (row + 1)) row col (row_of-decimal row r) (column_of-column_letters col c)

alphanumeric-letter : (c : ℕ) → is_ascii_alphabetic c ≡ true → is_ascii_alphanumeric c ≡ true
alphanumeric-letter c h = grind (arith, nat_tests)

alphanumeric-digit : (c : ℕ) → is_digit c ≡ true → is_ascii_alphanumeric c ≡ true
alphanumeric-digit c h = let b = is_digit-bounds c h in grind (arith, nat_tests)

each_passes : (p q : ℕ → Bool) → ((c : ℕ) → p c ≡ true → q c ≡ true) → (xs : List ℕ) → list_all p xs ≡ true → list_all q xs ≡ true
each_passes p q f [] h = refl
each_passes p q f (x ∷ xs) h =
    let parts = and_parts (p x) (list_all p xs) h in
    and_from _ _ (f x parts.0) (each_passes p q f xs parts.1)

-- the text of a place has letters and digits alone
pub place_letters-alphanumeric : (row col : ℕ) → row < 9999999 → col < 18278 → list_all is_ascii_alphanumeric (place_letters row col) ≡ true
place_letters-alphanumeric row col r c =
    list_all-append is_ascii_alphanumeric (column_letters col) (decimal (row + 1))
    ∙ and_from _ _
    (each_passes is_ascii_alphabetic is_ascii_alphanumeric alphanumeric-letter (column_letters col) (column_letters-spell col c).all_letters)
    (each_passes is_digit is_ascii_alphanumeric alphanumeric-digit (decimal (row + 1)) (list_all-decimal (row + 1) (omega arith)))

other_byte : (x c : ℕ) → is_ascii_alphanumeric x ≡ true → is_ascii_alphanumeric c ≡ false → eqb x c ≡ false
other_byte x c h n =
    false_from_ne_true (eqb x c) (λ t. both_ways (is_ascii_alphanumeric c) n (sym (ap is_ascii_alphanumeric (eqb-true x c t)) ∙ h))

list_any-absent : (c : ℕ) (xs : List ℕ) → is_ascii_alphanumeric c ≡ false → list_all is_ascii_alphanumeric xs ≡ true → list_any (λ b. eqb b c) xs ≡ false
list_any-absent c [] n h = refl
list_any-absent c (x ∷ xs) n h =
    let parts = and_parts (is_ascii_alphanumeric x) (list_all is_ascii_alphanumeric xs) h in
    or_from _ _ (other_byte x c parts.0 n) (list_any-absent c xs n parts.1)

split_once-absent : (c : ℕ) (xs : List ℕ) → is_ascii_alphanumeric c ≡ false → list_all is_ascii_alphanumeric xs ≡ true → split_once c xs ≡ None
split_once-absent c [] n h = refl
split_once-absent c (x ∷ xs) n h =
    let parts = and_parts (is_ascii_alphanumeric x) (list_all is_ascii_alphanumeric xs) h in
    rw (other_byte x c parts.0 n, split_once-absent c xs n parts.1) refl

strip_prefix-absent : (c : ℕ) (xs : List ℕ) → is_ascii_alphanumeric c ≡ false → list_all is_ascii_alphanumeric xs ≡ true → strip_prefix c xs ≡ None
strip_prefix-absent c [] n h = refl
strip_prefix-absent c (x ∷ xs) n h =
    let parts = and_parts (is_ascii_alphanumeric x) (list_all is_ascii_alphanumeric xs) h in
    rw (other_byte x c parts.0 n) refl

-- an address of letters and digits alone is the spot of one corner on no sheet
pub spot_of-address : (text : List ℕ) (at : ℕ × ℕ) → list_all is_ascii_alphanumeric text ≡ true → address_of text ≡ Some at → spot_of text ≡ Some (spot_at at)
spot_of-address text at h e =
    let no_quote : sheet_and_rest text ≡ sheet_by_start text None = ap (sheet_by_start text) (strip_prefix-absent 39 text refl h) in
    let no_sheet : sheet_by_start text None ≡ Some (None, text) = ap (bare_sheet text) (split_once-absent 33 text refl h) in
    let no_colon : area_of text ≡ option_map spot_at (address_of text) = cond-false (list_any is_colon text) _ _ (list_any-absent 58 text refl h) in
    ap (option_and_then area_on_sheet) (no_quote ∙ no_sheet) ∙ ap (option_map (on_sheet None)) (no_colon ∙ ap (option_map spot_at) e)

pub spot_of-place_letters : (row col : ℕ) → row < 9999999 → col < 18278 → spot_of (place_letters row col) ≡ Some (spot_at (row, col))
spot_of-place_letters row col r c =
    spot_of-address (place_letters row col) (row, col) (place_letters-alphanumeric row col r c) (address_of-place_letters row col r c)
