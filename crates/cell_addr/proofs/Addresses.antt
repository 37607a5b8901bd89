-- An address by its two parts, the letters and the digits. Serves the laws of reading and printing.
use Rattle.std.proofs.Common.{◌≡◌, sym, ap, refl, arith, ℕ, Bool, true, false, cond, List, [], ◌∷◌, ◌++◌, length, Option, Some, None}
use Rattle.std.specs.List.{list_all, prefix_len}
use Rattle.std.specs.Option.{option_zip}
use Rattle.std.specs.Char.{is_ascii_alphabetic}
use Rattle.std.proofs.lemmas.Bool.{and_parts}
use Rattle.std.proofs.lemmas.Bool.Decides.{nat_tests}
use Rattle.std.proofs.lemmas.List.{take-append-drop}
use Rattle.std.proofs.Math.Seq.{take-append_seam, drop-append_seam}
use Rattle.digits.specs.Digits.{is_digit}
use Rattle.digits.proofs.Numerals.{is_digit-bounds}
use Rattle.cell_addr.specs.Address.{is_column, is_row, column_of, row_of, letters, after_letters, address_of}

some_if : (b : Bool) (n m : ℕ) → cond b (Some n) None ≡ Some m → b ≡ true
some_if true n m e = refl
some_if false n m e = cc

-- what is read as a column has letters alone
pub letters_of_column : (xs : List ℕ) (col : ℕ) → column_of xs ≡ Some col → list_all is_ascii_alphabetic xs ≡ true
letters_of_column xs col e = (and_parts _ _ (some_if (is_column xs) _ col e)).1

-- what is read as a row has digits alone
pub digits_of_row : (xs : List ℕ) (row : ℕ) → row_of xs ≡ Some row → list_all is_digit xs ≡ true
digits_of_row xs row e = (and_parts _ _ (and_parts _ _ (some_if (is_row xs) _ row e)).1).1

digit-no_letter : (c : ℕ) → is_digit c ≡ true → is_ascii_alphabetic c ≡ false
digit-no_letter c h = let b = is_digit-bounds c h in grind (arith, nat_tests)

prefix_len-letters : (xs ys : List ℕ) → list_all is_ascii_alphabetic xs ≡ true → list_all is_digit ys ≡ true → prefix_len is_ascii_alphabetic (xs ++ ys) ≡ length xs
prefix_len-letters [] [] h g = refl
prefix_len-letters [] (y ∷ ys) h g =
    let p = and_parts (is_digit y) (list_all is_digit ys) g in
    rw (digit-no_letter y p.0) refl
prefix_len-letters (x ∷ xs) ys h g =
    let p = and_parts (is_ascii_alphabetic x) (list_all is_ascii_alphabetic xs) h in
    let rest = prefix_len-letters xs ys p.1 g in
    rw (p.0, rest) (omega arith)

-- a row's digits after a column's letters are an address
pub address_of-append : (xs ys : List ℕ) (row col : ℕ) → row_of ys ≡ Some row → column_of xs ≡ Some col → address_of (xs ++ ys) ≡ Some (row, col)
address_of-append xs ys row col r c =
    let cut = prefix_len-letters xs ys (letters_of_column xs col c) (digits_of_row ys row r) in
    rw (cut, take-append_seam xs ys, drop-append_seam xs ys, r, c) refl

zip-Some : (x y : Option ℕ) (a b : ℕ) → option_zip x y ≡ Some (a, b) → (x ≡ Some a) × (y ≡ Some b)
zip-Some None y a b e = cc
zip-Some (Some x) None a b e = cc
zip-Some (Some x) (Some y) a b e = let same : ◌≡◌ {A = ℕ × ℕ} (x, y) (a, b) = cc in (ap (λ p. Some p.0) same, ap (λ p. Some p.1) same)

-- an address is a row's digits after a column's letters
pub address_of-parts : (text : List ℕ) (row col : ℕ) → address_of text ≡ Some (row, col) → (xs : List ℕ) × (ys : List ℕ) × ((text ≡ xs ++ ys) × (column_of xs ≡ Some col) × (row_of ys ≡ Some row))
address_of-parts text row col e =
    let parts = zip-Some (row_of (after_letters text)) (column_of (letters text)) row col e in
    (letters text, after_letters text, (sym (take-append-drop (prefix_len is_ascii_alphabetic text) text), parts.1, parts.0))
