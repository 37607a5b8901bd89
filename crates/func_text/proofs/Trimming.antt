-- What stays of the characters from a place on, character after character: for `trimmed`.
use Rattle.std.proofs.Common.{◌≡◌, ap, refl, ℕ, ◌==◌, true, false, not, ◌&&◌, ◌||◌, cond, List, ◌∷◌}
use Rattle.func_text.specs.Trim.{has_word, kept}
use Rattle.func_text.specs.internal.Trim.{after_space, kept_after}
use Rattle.func_text.specs.declared.trim.Reached.{Reached}
use Rattle.func_text.specs.declared.trim.Reached.TheVariants.{Start, Word, Gap}
use Rattle.func_text.specs.declared.trim.TheConstants.{SPACE}

-- a space may be followed by a word
pub kept_space : (reached : Reached) (cs : List ℕ) → kept_after reached (SPACE ∷ cs) ≡ kept_after (after_space reached) cs
kept_space Start cs = refl
kept_space Word cs = refl
kept_space Gap cs = refl

-- what a gap before a word leaves
abbrev pub gap_before : Reached → List ℕ → List ℕ
gap_before Start cs = cs
gap_before Word cs = cs
gap_before Gap cs = SPACE ∷ cs

-- a character of a word
pub kept_word : (reached : Reached) (c : ℕ) (cs : List ℕ) → (c == SPACE) ≡ false → kept_after reached (c ∷ cs) ≡ gap_before reached (c ∷ kept_after Word cs)
kept_word Start c cs h = ap (λ b. cond b (cond (false && has_word cs) (SPACE ∷ kept false cs) (kept false cs)) (c ∷ kept true cs)) h
kept_word Word c cs h = ap (λ b. cond b (cond (has_word cs) (SPACE ∷ kept false cs) (kept false cs)) (c ∷ kept true cs)) h
kept_word Gap c cs h =
    ap (λ b. cond (not b || has_word cs) (SPACE ∷ cond b (kept false cs) (c ∷ kept true cs)) (cond b (kept false cs) (c ∷ kept true cs))) h
