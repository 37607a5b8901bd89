-- The line of a number: its digits stand in it as they are, and there are few of them.
use Rattle.std.proofs.Common.{◌≡◌, ◌∙◌, sym, ap, refl, arith, ℕ, ◌+◌, ◌<◌, ◌≤◌, ◌^◌, ◌/◌, ◌%◌, true, List, [], ◌∷◌, ◌++◌, length, append_assoc, codes, length-append}
use Rattle.std.proofs.lemmas.Bool.{and_parts}
use Rattle.std.proofs.lemmas.Bool.Decides.{nat_tests}
use Rattle.std.proofs.lemmas.Fmt.{decimal_step}
use Rattle.std.specs.Fmt.{decimal}
use Rattle.std.specs.List.{list_all}
use Rattle.digits.specs.Digits.{is_digit}
use Rattle.digits.proofs.Printed.{list_all-decimal}
use Rattle.script_lang.specs.Lines.{escaped, escaped_byte, line_of}

-- a number of several digits has one more than without its last
pub one_digit_more : (n : ℕ) → 10 ≤ n → n < 2 ^ 64 → length (decimal n) ≡ length (decimal (n / 10)) + 1
one_digit_more n several small = ap length (decimal_step n several small) ∙ length-append (decimal (n / 10)) ((48 + n % 10) ∷ [])

escaped-append : (xs ys : List ℕ) → escaped (xs ++ ys) ≡ escaped xs ++ escaped ys
escaped-append [] ys = refl
escaped-append (x ∷ xs) ys = ap (λ t. escaped_byte x ++ t) (escaped-append xs ys) ∙ sym (append_assoc (escaped_byte x) (escaped xs) (escaped ys))

digit_stays : (c : ℕ) → is_digit c ≡ true → escaped_byte c ≡ c ∷ []
digit_stays c h = grind (arith, nat_tests)

digits_stay : (ds : List ℕ) → list_all is_digit ds ≡ true → escaped ds ≡ ds
digits_stay [] h = refl
digits_stay (d ∷ ds) h =
    let p = and_parts (is_digit d) (list_all is_digit ds) h in
    rw (digit_stays d p.0, digits_stay ds p.1) refl

-- the line of a number
pub line_of_number : (n : ℕ) → n < 2 ^ 64 → line_of (codes "ok " ++ decimal n) ≡ codes "ok " ++ (decimal n ++ (10 ∷ []))
line_of_number n small = ap (λ t. codes "ok " ++ (t ++ (10 ∷ []))) (digits_stay (decimal n) (list_all-decimal n small))
