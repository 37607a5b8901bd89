-- The tokens of numbers, and of what stands between quotes. Serves the law that the canonical text
-- spells its tree.
use Rattle.std.proofs.Common.{◌≡◌, sym, ◌∙◌, ap, subst, refl, arith, ℕ, ℤ, pos, negsuc, ◌+◌, ◌<◌, ◌≤◌, inl, inr, Bool, true, false, ◌==◌, cond, List, [], ◌∷◌, ◌++◌, length, take, drop, Some, option_map, append_assoc, length-append}
use Rattle.std.specs.Option.{option_and_then}
use Rattle.std.specs.List.{list_all, prefix_len}
use Rattle.std.proofs.lemmas.Bool.{and_parts, cond-true, cond-false, eqb-true}
use Rattle.std.proofs.lemmas.Bool.Decides.{nat_tests}
use Rattle.std.proofs.Math.Seq.{take-append_seam, drop-append_seam}
use Rattle.digits.specs.Digits.{is_digit}
use Rattle.digits.proofs.Numerals.{is_digit-bounds}
use Rattle.cell_addr.specs.Parts.{with_byte}
use Rattle.fix_num.specs.Number as numbers
use Rattle.fix_num.specs.Text.{text_of}
use Rattle.fix_num.specs.Laws.{IsWholePart, AreDecimals, HasPlainForm}
use Rattle.fix_num.proofs.PlainTexts.{plain-unsigned_text}
use Rattle.formula_tree.specs.Token.{Token}
use Rattle.formula_tree.specs.Token as tok
use Rattle.formula_tree.specs.Run.{is_blank, begins_run, begins_with, begins_with_any, after_while}
use Rattle.cell_addr.specs.Quoted.{doubled, quoted}
use Rattle.formula_tree.specs.Tokens.{decimals_length, number_length, begins_number, text_token, sheet_token, token_at}
use Rattle.formula_tree.specs.Canonical.{between_quotes}
use Rattle.formula_tree.proofs.Fronts.{prefix_len-append, after_while-append}
use Rattle.formula_tree.proofs.Lexes.{Lexes, lexes-token, Stopped}

digit-not_run : (c : ℕ) → is_digit c ≡ true → begins_run c ≡ false
digit-not_run c h = let b = is_digit-bounds c h in grind (arith, nat_tests)

pub digit-not_blank : (c : ℕ) → is_digit c ≡ true → is_blank c ≡ false
digit-not_blank c h = let b = is_digit-bounds c h in grind (arith, nat_tests)

digit-begins_number : (c : ℕ) (cs : List ℕ) → is_digit c ≡ true → begins_number (c ∷ cs) ≡ true
digit-begins_number c cs h = rw h refl

-- a text that begins with a digit begins with a number of that length
number-token : (c : ℕ) (ws cs : List ℕ) → is_digit c ≡ true → number_length (c ∷ (ws ++ cs)) ≡ length (c ∷ ws) → token_at c (ws ++ cs) ≡ Some (tok.Number (c ∷ ws), cs)
number-token c ws cs h e =
    cond-false (begins_run c) _ _ (digit-not_run c h)
    ∙ cond-true (begins_number (c ∷ (ws ++ cs))) _ _ (digit-begins_number c (ws ++ cs) h)
    ∙ ap (λ n. Some (tok.Number (take n (c ∷ (ws ++ cs))), drop n (c ∷ (ws ++ cs)))) e
    ∙ ap (λ w. Some (tok.Number w, drop (length (c ∷ ws)) (c ∷ (ws ++ cs)))) (take-append_seam (c ∷ ws) cs)
    ∙ ap (λ r. Some (tok.Number (c ∷ ws), r)) (drop-append_seam (c ∷ ws) cs)

lexes-digits : (w cs : List ℕ) (tokens : List Token) → begins_with_any is_digit w ≡ true → number_length (w ++ cs) ≡ length w → Lexes cs tokens → Lexes (w ++ cs) (tok.Number w ∷ tokens)
lexes-digits [] cs tokens h e l = cc
lexes-digits (c ∷ ws) cs tokens h e l =
    lexes-token c (ws ++ cs) (tok.Number (c ∷ ws)) cs tokens (digit-not_blank c h) (number-token c ws cs h e) (omega (arith, length-append ws cs)) l

pub number_length-digits : (ws rest : List ℕ) → list_all is_digit ws ≡ true → begins_with_any is_digit rest ≡ false → number_length (ws ++ rest) ≡ length ws + decimals_length rest
number_length-digits ws rest h g =
    ap (λ n. n + decimals_length (after_while is_digit (ws ++ rest))) (prefix_len-append is_digit ws rest h g)
    ∙ ap (λ r. length ws + decimals_length r) (after_while-append is_digit ws rest h g)

pub decimals_length-none : (cs : List ℕ) → begins_with 46 cs ≡ false → decimals_length cs ≡ 0
decimals_length-none cs h = cond-false (begins_with 46 cs) (1 + prefix_len is_digit (drop 1 cs)) 0 h

pub decimals_length-some : (ds cs : List ℕ) → list_all is_digit ds ≡ true → begins_with_any is_digit cs ≡ false → decimals_length (46 ∷ (ds ++ cs)) ≡ 1 + length ds
decimals_length-some ds cs h g = ap (λ n. 1 + n) (prefix_len-append is_digit ds cs h g)

whole-begins : (ws rest : List ℕ) → IsWholePart ws → begins_with_any is_digit (ws ++ rest) ≡ true
whole-begins [] rest w = absurd (omega (arith, w.1))
whole-begins (c ∷ ws) rest w = (and_parts (is_digit c) (list_all is_digit ws) w.0).0

first-digit : (ws : List ℕ) → 0 < length ws → list_all is_digit ws ≡ true → begins_with_any is_digit ws ≡ true
first-digit [] some all = absurd (omega (arith, some))
first-digit (c ∷ ws) some all = (and_parts (is_digit c) (list_all is_digit ws) all).0

-- digits alone are one token
pub lexes-all_digits : (ws cs : List ℕ) (tokens : List Token) → 0 < length ws → list_all is_digit ws ≡ true → Stopped cs → Lexes cs tokens → Lexes (ws ++ cs) (tok.Number ws ∷ tokens)
lexes-all_digits ws cs tokens some all s l =
    lexes-digits ws cs tokens (first-digit ws some all)
    (number_length-digits ws cs all s.no_digit ∙ ap (λ n. length ws + n) (decimals_length-none cs s.no_point) ∙ omega arith) l

lexes-whole : (ws cs : List ℕ) (tokens : List Token) → IsWholePart ws → Stopped cs → Lexes cs tokens → Lexes (ws ++ cs) (tok.Number ws ∷ tokens)
lexes-whole ws cs tokens w s l = lexes-all_digits ws cs tokens w.1 w.0 s l

lexes-parts : (ws ds cs : List ℕ) (tokens : List Token) → IsWholePart ws → AreDecimals ds → Stopped cs → Lexes cs tokens
    → Lexes ((ws ++ 46 ∷ ds) ++ cs) (tok.Number (ws ++ 46 ∷ ds) ∷ tokens)
lexes-parts ws ds cs tokens w d s l =
    lexes-digits (ws ++ 46 ∷ ds) cs tokens (whole-begins ws (46 ∷ ds) w)
    (ap number_length (append_assoc ws (46 ∷ ds) cs)
    ∙ number_length-digits ws (46 ∷ (ds ++ cs)) w.0 refl
    ∙ ap (λ n. length ws + n) (decimals_length-some ds cs d.0 s.no_digit)
    ∙ omega (arith, length-append ws (46 ∷ ds))) l

lexes-plain : (text cs : List ℕ) (tokens : List Token) → HasPlainForm text → Stopped cs → Lexes cs tokens → Lexes (text ++ cs) (tok.Number text ∷ tokens)
lexes-plain text cs tokens (ws, w, inl e) s l = subst (λ x. Lexes (x ++ cs) (tok.Number x ∷ tokens)) (sym e) (lexes-whole ws cs tokens w s l)
lexes-plain text cs tokens (ws, w, inr (ds, e, d)) s l = subst (λ x. Lexes (x ++ cs) (tok.Number x ∷ tokens)) (sym e) (lexes-parts ws ds cs tokens w d s l)

-- a number's text is one token
pub lexes-number : (m : ℤ) → numbers.IsInside m → numbers.is_negative m ≡ false → (cs : List ℕ) (tokens : List Token) → Stopped cs → Lexes cs tokens
    → Lexes (text_of m ++ cs) (tok.Number (text_of m) ∷ tokens)
lexes-number (pos n) h g cs tokens s l = lexes-plain (text_of (pos n)) cs tokens (plain-unsigned_text n h) s l
lexes-number (negsuc n) h g cs tokens s l = cc

plain-begins : (text cs : List ℕ) → HasPlainForm text → begins_with_any is_digit (text ++ cs) ≡ true
plain-begins text cs (ws, w, inl e) = subst (λ x. begins_with_any is_digit (x ++ cs) ≡ true) (sym e) (whole-begins ws cs w)
plain-begins text cs (ws, w, inr (ds, e, d)) =
    subst (λ x. begins_with_any is_digit (x ++ cs) ≡ true) (sym e)
    (subst (λ x. begins_with_any is_digit x ≡ true) (sym (append_assoc ws (46 ∷ ds) cs)) (whole-begins ws (46 ∷ (ds ++ cs)) w))

-- and begins with a digit
pub number-begins : (m : ℤ) → numbers.IsInside m → numbers.is_negative m ≡ false → (cs : List ℕ) → begins_with_any is_digit (text_of m ++ cs) ≡ true
number-begins (pos n) h g cs = plain-begins (text_of (pos n)) cs (plain-unsigned_text n h)
number-begins (negsuc n) h g cs = cc

-- a byte other than the quote belongs to the content
pub quoted-other : (q c : ℕ) (cs : List ℕ) → (c == q) ≡ false → quoted q (c ∷ cs) ≡ with_byte c (quoted q cs)
quoted-other q c [] h = rw h refl
quoted-other q c (d ∷ ds) h = rw h refl

same_byte : (q : ℕ) → (q == q) ≡ true
same_byte q = grind (arith, nat_tests)

pub quoted-close : (q : ℕ) (cs : List ℕ) → begins_with q cs ≡ false → quoted q (q ∷ cs) ≡ Some ([], cs)
quoted-close q [] h = rw (same_byte q) refl
quoted-close q (d ∷ cs) h = rw (same_byte q, h) refl

pub quoted-twice : (q : ℕ) (cs : List ℕ) → quoted q (q ∷ q ∷ cs) ≡ with_byte q (quoted q cs)
quoted-twice q cs = rw (same_byte q) refl

doubled-by : (q : ℕ) (b : Bool) (c : ℕ) (cs rest : List ℕ) → (c == q) ≡ b → quoted q (doubled q cs ++ (q ∷ rest)) ≡ Some (cs, rest)
    → quoted q (cond b (q ∷ q ∷ doubled q cs) (c ∷ doubled q cs) ++ (q ∷ rest)) ≡ Some (c ∷ cs, rest)
doubled-by q true c cs rest e h = quoted-twice q (doubled q cs ++ (q ∷ rest)) ∙ ap (with_byte q) h ∙ ap (λ x. Some (x ∷ cs, rest)) (sym (eqb-true c q e))
doubled-by q false c cs rest e h = quoted-other q c (doubled q cs ++ (q ∷ rest)) e ∙ ap (with_byte c) h

-- what is written between quotes is read back
pub quoted-doubled : (q : ℕ) (content rest : List ℕ) → begins_with q rest ≡ false → quoted q (doubled q content ++ (q ∷ rest)) ≡ Some (content, rest)
quoted-doubled q [] rest h = quoted-close q rest h
quoted-doubled q (c ∷ cs) rest h = doubled-by q (c == q) c cs rest refl (quoted-doubled q cs rest h)

after_quotes-shorter : (q : ℕ) (content rest : List ℕ) → length rest ≤ length (doubled q content ++ (q ∷ rest))
after_quotes-shorter q content rest = omega (arith, length-append (doubled q content) (q ∷ rest))

-- a text between double quotes is one token
pub lexes-text : (content cs : List ℕ) (tokens : List Token) → Stopped cs → Lexes cs tokens → Lexes (between_quotes 34 content cs) (tok.Text content ∷ tokens)
lexes-text content cs tokens s l =
    lexes-token 34 (doubled 34 content ++ (34 ∷ cs)) (tok.Text content) cs tokens refl
    (ap (option_map text_token) (quoted-doubled 34 content cs s.no_quote)) (after_quotes-shorter 34 content cs) l

sheet_token-ended : (content cs : List ℕ) → begins_with_any is_blank cs ≡ false → sheet_token (content, 33 ∷ cs) ≡ Some (tok.Sheet content, cs)
sheet_token-ended content cs h = rw h refl

-- a sheet's name between apostrophes followed by `!` is one token
pub lexes-quoted_sheet : (content cs : List ℕ) (tokens : List Token) → begins_with_any is_blank cs ≡ false → Lexes cs tokens
    → Lexes (between_quotes 39 content (33 ∷ cs)) (tok.Sheet content ∷ tokens)
lexes-quoted_sheet content cs tokens h l =
    lexes-token 39 (doubled 39 content ++ (39 ∷ 33 ∷ cs)) (tok.Sheet content) cs tokens refl
    (ap (option_and_then sheet_token) (quoted-doubled 39 content (33 ∷ cs) refl) ∙ sheet_token-ended content cs h)
    (omega (arith, length-append (doubled 39 content) (39 ∷ 33 ∷ cs))) l
