-- A text passed character after character: for `after_characters`.
use Rattle.std.proofs.Common.{◌≡◌, ◌∙◌, sym, ap, ℕ, ◌+◌, ◌≤◌, List, ◌++◌, length, drop, encode_utf8, arith}
use Rattle.std.specs.Prelude.{IsUtf8, chars}
use Rattle.std.proofs.lemmas.List.{drop-drop, length-append, length-drop}
use Rattle.std.proofs.lemmas.Str.{chars_past_char, length-encode, len_utf8_bounds, IsUtf8-past_char}

-- so many characters of the text are passed, and this is left
pub record IsLeft (text rest : List ℕ) (n : ℕ) : Type 0 where
  pub utf8 : IsUtf8 rest
  pub inside : n ≤ length (chars text)
  pub left : chars rest ≡ drop n (chars text)
  pub shorter : n + length rest ≤ length text

pub one_more : (text rest more : List ℕ) (n c : ℕ) → IsLeft text rest n → rest ≡ encode_utf8 c ++ more → IsLeft text more (n + 1)
one_more text rest more n c l e =
    let first = sym (chars_past_char rest more c l.utf8 e) ∙ l.left in
    let long = length-drop n (chars text) in
    let count = ap length first in
    let bytes = ap length e ∙ length-append (encode_utf8 c) more in
    let width = length-encode c in
    let some = len_utf8_bounds c in
    record {
      utf8 = IsUtf8-past_char rest more c l.utf8 e;
      inside = omega (arith, l.inside);
      left = ap (drop 1) first ∙ drop-drop 1 n (chars text);
      shorter = omega (arith, l.shorter);
    }
