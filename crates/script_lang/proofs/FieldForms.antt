-- The forms of fields, as the readers of fields test them.
use Rattle.std.proofs.Common.{◌≡◌, refl, arith, ℕ, ◌^◌, ◌≤◌, Bool, true, false, Bor, List, length, nat_le, Result, Ok, Err}
use Rattle.std.specs.Option.{option_copied}
use Rattle.std.specs.Prelude.{MatchResult}
use Rattle.std.specs.Result.{result_ok}
use Rattle.std.specs.Str.{IsUtf8, is_utf8}
use Rattle.std.proofs.lemmas.Bool.{and_parts, leb-true}
use Rattle.std.proofs.lemmas.Str.{IsUtf8-from_is_utf8, is_utf8-from_IsUtf8}
use Rattle.std.proofs.Math.Nat.{pow-le-pow_right}
use Rattle.digits.specs.Digits.{value}
use Rattle.digits.proofs.Numerals.{value_below}
use Rattle.script_lang.specs.Forms.{is_count, text_field}

-- the seven digits of a count spell at most 9,999,999
pub value_of_count : (cs : List ℕ) → is_count cs ≡ true → value cs ≤ 9999999
value_of_count cs h =
    let p = and_parts _ _ h in
    let few = leb-true (length cs) 7 (and_parts (nat_le 1 (length cs)) (nat_le (length cs) 7) p.0).1 in
    let below = value_below cs p.1 in
    let most : 10 ^ length cs ≤ 10 ^ 7 = pow-le-pow_right {n = 10} (omega arith) {i = length cs} {j = 7} few in
    omega (arith, below, most)

fails : (b : Bool) (P : Type 0) → (b ≡ true → P) → ¬ P → b ≡ false
fails true P holds isnt = absurd (isnt (holds refl))
fails false P holds isnt = refl

-- a field of UTF-8 is its text, and another has none
pub text_of_utf8 : {E : Type 0} (Q : E → Type 0) (field : List ℕ) (r : Result (Bor (List ℕ)) E)
    → MatchResult r (λ s. (s.now ≡ field) × IsUtf8 field) (λ e. ¬ (IsUtf8 field) × Q e) → option_copied (result_ok r) ≡ text_field field
text_of_utf8 Q field (Ok s) read = rw (is_utf8-from_IsUtf8 field read.1, read.0) refl
text_of_utf8 Q field (Err e) read = rw (fails (is_utf8 field) (IsUtf8 field) (IsUtf8-from_is_utf8 field) read.0) refl
