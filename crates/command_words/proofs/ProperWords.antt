-- What words that mean something say at most. Serves the laws of words.
use Rattle.std.proofs.Common.{◌≡◌, subst, refl, arith, ℕ, ◌==◌, ◌&&◌, ◌||◌, Bool, true, false, cond, List, [], ◌∷◌, length, Option, Some, None, nat_lt}
use Rattle.std.specs.Prelude.{All, IfSome, IsSome, is_none, not, option_map}
use Rattle.std.specs.List.{list_all}
use Rattle.std.proofs.lemmas.Bool.{and_parts}
use Rattle.std.proofs.lemmas.Bool.Decides.{nat_tests}
use Rattle.std.proofs.lemmas.List.Elements.{All-cons, All-nil}
use Rattle.std.proofs.lemmas.Option.{same_Some}
use Rattle.digits.specs.Digits.{value}
use Rattle.clap.specs.Words.{fault_of, matches_of}
use Rattle.command_words.specs.Laws.{IsProper, IsScriptName}
use Rattle.command_words.specs.Words.{Given, Said, begins_with_dash, given_of, is_accepted, is_value, meaning, passes, said_by, said_of, sheet_app}
use Rattle.command_words.proofs.Ranges.{accepted_in_range}

pub not_so : (b : Bool) → not b ≡ true → b ≡ false
not_so true h = cc
not_so false h = refl

script_name : (script : Option (List ℕ)) → passes is_value script ≡ true → IfSome script IsScriptName
script_name None h = tt
script_name (Some text) h =
    let both = and_parts (nat_lt 0 (length text)) (not (begins_with_dash text)) h in
    let some = both.0 in
    (grind (arith, nat_tests), not_so (begins_with_dash text) both.1)

no_dash : (books : List (List ℕ)) → list_all (λ book. not (begins_with_dash book)) books ≡ true → All (λ book. begins_with_dash book ≡ false) books
no_dash [] h = All-nil (λ book. begins_with_dash book ≡ false)
no_dash (book ∷ books) h =
    let both = and_parts (not (begins_with_dash book)) (list_all (λ b. not (begins_with_dash b)) books) h in
    All-cons (λ b. begins_with_dash b ≡ false) book books (not_so (begins_with_dash book) both.0) (no_dash books both.1)

none_is : (o : Option (List ℕ)) → is_none o ≡ true → o ≡ None
none_is None h = refl
none_is (Some x) h = cc

no_books : (books : List (List ℕ)) → length books == 0 ≡ true → books ≡ []
no_books [] h = refl
no_books (book ∷ books) h = absurd (grind (arith, nat_tests, h))

alone : (generate script : Option (List ℕ)) (books : List (List ℕ)) → is_none generate || (is_none script && (length books == 0)) ≡ true → IsSome (option_map value generate) → (script ≡ None) × (books ≡ [])
alone None script books h some = cc
alone (Some text) script books h some = let both = and_parts (is_none script) (length books == 0) h in (none_is script both.0, no_books books both.1)

accepted : (g : Given) → is_accepted g ≡ true → IsProper (said_by g)
accepted g h =
    let stands = and_parts _ _ h in
    let books = and_parts _ _ stands.0 in
    let generate = and_parts _ _ books.0 in
    let script = and_parts _ _ generate.0 in
    (accepted_in_range g h, script_name g.script script.1, no_dash g.books books.1, alone g.generate g.script g.books stands.1)

said : (g : Given) (b : Bool) (s : Said) → is_accepted g ≡ b → cond b (Some (said_by g)) None ≡ Some s → IsProper s
said g true s is h = subst IsProper (same_Some (said_by g) s h) (accepted g is)
said g false s is h = cc

meant : (g : Given) (b : Bool) (s : Said) → cond b (said_of g) None ≡ Some s → IsProper s
meant g true s h = said g (is_accepted g) s refl h
meant g false s h = cc

pub proper : (words : List (List ℕ)) (s : Said) → meaning words ≡ Some s → IsProper s
proper words s h = meant (given_of (matches_of sheet_app words)) (length (fault_of sheet_app words) == 0) s h
