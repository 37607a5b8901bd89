-- Words at the front of a text, and words that first stand further on.
use Rattle.std.proofs.Common.{◌≡◌, ◌≢◌, ◌≤◌, ◌<◌, ◌+◌, ℕ, zero, suc, Bool, true, false, ◌==◌, List, [], ◌∷◌, ◌++◌, length, take, drop, Option, Some, None, refl, sym, ap, ◌∙◌, arith, eq-eqb, cond, Bor, MatchOption, option_map, option_copied}
use Rattle.std.proofs.lemmas.Bool.Decides.{nat_tests}
use Rattle.std.specs.Str.Pattern.{FindsText, FindsTextPrefix, LacksTextAt, StripsPrefix, SplitsAroundMatch}
use Rattle.case_files.specs.Cells.{after_front, around}

-- words with a rest behind them
pub after_front-of : (words rest : List ℕ) → after_front words (words ++ rest) ≡ Some rest
after_front-of [] rest = refl
after_front-of (c ∷ cs) rest = rw (after_front-of cs rest, eq-eqb c c refl)

-- what is behind words that stand at the front
pub after_front-whole : (words text rest : List ℕ) → after_front words text ≡ Some rest → text ≡ words ++ rest
after_front-whole [] text rest h = cc
after_front-whole (c ∷ cs) [] rest h = cc
after_front-whole (c ∷ cs) (d ∷ ds) rest h = at-head (c == d) refl (after_front-whole cs ds rest) h
  where
    at-head : (b : Bool) → (c == d) ≡ b → (after_front cs ds ≡ Some rest → ds ≡ cs ++ rest) → cond b (after_front cs ds) None ≡ Some rest → d ∷ ds ≡ c ∷ (cs ++ rest)
    at-head true same below found =
        let is : c ≡ d = grind (arith, nat_tests) in
        rw (is, below found)
    at-head false other below found = cc

-- words that no rest is behind
pub after_front-none : (words text : List ℕ) → ((rest : List ℕ) → text ≢ words ++ rest) → after_front words text ≡ None
after_front-none words text lacks = of (after_front words text) refl
  where
    of : (found : Option (List ℕ)) → after_front words text ≡ found → found ≡ None
    of None is = refl
    of (Some rest) is = absurd (lacks rest (after_front-whole words text rest is))

-- words that stand at a place, and at none before
pub around-first : (words text : List ℕ) (i j : ℕ) → ((k : ℕ) → k < i → LacksTextAt words text k) → drop i text ≡ words ++ drop j text → j ≡ i + length words
    → around words text ≡ Some (take i text, drop j text)
around-first words [] zero j lacks at ends = rw (ap (after_front words) at ∙ after_front-of words (drop j []))
around-first words (d ∷ ds) zero j lacks at ends = rw (ap (after_front words) at ∙ after_front-of words (drop j (d ∷ ds)))
around-first words [] (suc i) j lacks at ends = absurd (lacks 0 (omega arith) (drop j []) at)
around-first words (d ∷ ds) (suc i) zero lacks at ends = absurd (omega arith)
around-first words (d ∷ ds) (suc i) (suc j) lacks at ends =
    let later = around-first words ds i j (λ k below. lacks (suc k) (omega arith)) at (omega arith) in
    rw (after_front-none words (d ∷ ds) (lacks 0 (omega arith)), later)

-- words that stand nowhere
pub around-nowhere : (words text : List ℕ) → ((k : ℕ) → k ≤ length text → LacksTextAt words text k) → around words text ≡ None
around-nowhere words [] lacks = rw (after_front-none words [] (lacks 0 (omega arith)))
around-nowhere words (d ∷ ds) lacks =
    let later = around-nowhere words ds (λ k within. lacks (suc k) (omega arith)) in
    rw (after_front-none words (d ∷ ds) (lacks 0 (omega arith)), later)

-- what `strip_prefix` gives
pub stripped : (words text : List ℕ) (r : Option (Bor (List ℕ))) → MatchOption r (FindsTextPrefix words text None) (λ x. StripsPrefix (FindsTextPrefix words) text x.now)
    → option_copied r ≡ after_front words text
stripped words text None lacks = sym (after_front-none words text lacks)
stripped words text (Some x) (n, found, is, _) = ap Some is ∙ sym (ap (after_front words) found.1 ∙ after_front-of words (drop n text))

-- what `split_once` gives
pub split : (words text : List ℕ) (r : Option (Bor (List ℕ) × Bor (List ℕ))) → MatchOption r (FindsText words text None) (λ x. SplitsAroundMatch (FindsText words) text x.0.now x.1.now)
    → option_map (λ p. (p.0.now, p.1.now)) r ≡ around words text
split words text None lacks = sym (around-nowhere words text lacks)
split words text (Some x) (i, j, found, front, back, _, _, _) =
    rw (front, back) (sym (around-first words text i j found.0 found.1.split found.1.ends))
