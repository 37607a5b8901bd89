-- Accepted words have numbers in their ranges. Serves the reading of words.
use Rattle.std.proofs.Common.{◌≡◌, refl, subst, arith, ℕ, ◌≤◌, ◌&&◌, Bool, true, false, cond, List, length, Option, Some, None, Result, Ok, Err, nat_le, nat_lt}
use Rattle.std.specs.List.{list_all}
use Rattle.std.specs.Prelude.{IfOk, IfSome, option_map, unwrap_or}
use Rattle.std.proofs.lemmas.Bool.Decides.{nat_tests}
use Rattle.std.proofs.lemmas.Option.{same_Some}
use Rattle.digits.specs.Digits.{is_digit, value}
use Rattle.command_words.specs.Words.{Answers, Given, IsInRange, Said, is_accepted, is_number, passes, said_by, said_of, seen}
use Rattle.command_words.proofs.Meanings.{numbers-pass}
use Rattle.command_words.specs.declared.error.WordsError.{WordsError}
use Rattle.command_words.specs.declared.said.Words.{Words}

and_left : (a b : Bool) → a && b ≡ true → a ≡ true
and_left true b h = refl
and_left false b h = cc

and_right : (a b : Bool) → a && b ≡ true → b ≡ true
and_right true b h = h
and_right false b h = cc

most_of : (digits least most : ℕ) (text : List ℕ) → is_number digits least most text ≡ true → (least ≤ value text) × (value text ≤ most)
most_of digits least most text h =
    let form : Bool = (nat_lt 0 (length text) && nat_le (length text) digits) && list_all is_digit text in
    let low : Bool = nat_le least (value text) in
    let high : Bool = nat_le (value text) most in
    let range : low && high ≡ true = and_right form (low && high) h in
    let above : low ≡ true = and_left low high range in
    let below : high ≡ true = and_right low high range in
    (grind (arith, nat_tests, above), grind (arith, nat_tests, below))

limit_in_range : (given : Option (List ℕ)) → passes (is_number 4 0 1000) given ≡ true → unwrap_or (option_map value given) 20 ≤ 1000
limit_in_range None h = omega arith
limit_in_range (Some text) h = (most_of 4 0 1000 text h).1

size_in_range : (given : Option (List ℕ)) → passes (is_number 5 1 10000) given ≡ true → IfSome (option_map value given) (λ n. (1 ≤ n) × (n ≤ 10000))
size_in_range None h = tt
size_in_range (Some text) h = most_of 5 1 10000 text h

pub accepted_in_range : (g : Given) → is_accepted g ≡ true → IsInRange (said_by g)
accepted_in_range g h = let both = numbers-pass g h in (limit_in_range g.undo_limit both.0, size_in_range g.generate both.1)

said-in_range : (g : Given) (b : Bool) (s : Said) → is_accepted g ≡ b → cond b (Some (said_by g)) None ≡ Some s → IsInRange s
said-in_range g true s is h = let same = same_Some _ _ h in subst IsInRange same (accepted_in_range g is)
said-in_range g false s is h = cc

-- so has the reading of what was found
pub answered-in_range : (r : Result Words WordsError) (g : Given) → Answers r (said_of g) → IfOk r (λ w. IsInRange (seen w))
answered-in_range (Ok w) g a = said-in_range g (is_accepted g) (seen w) refl a
answered-in_range (Err e) g a = tt
