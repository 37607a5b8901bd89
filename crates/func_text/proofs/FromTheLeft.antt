-- Occurrences are replaced from the left, one after another: for the law.
use Rattle.std.proofs.Common.{◌≡◌, ◌∙◌, sym, ap, refl, ℕ, zero, suc, ◌+◌, ◌-◌, Bool, true, false, cond, List, [], ◌∷◌, ◌++◌, Option, Some, None, length, take, drop, arith}
use Rattle.std.specs.Option.{option_map}
use Rattle.func_text.specs.Find.{begins, first_place}
use Rattle.func_text.specs.Laws.{replaced_from, ReplacedFromTheLeft}
use Rattle.func_text.specs.Substitute.{replaced, stands_for}

module _ (which : Option ℕ) (old new : List ℕ) where
  after_covered : (number k : ℕ) (cs : List ℕ) → replaced which old new number k cs ≡ replaced which old new number 0 (drop k cs)
  unfolding replaced
  after_covered number zero cs = refl
  after_covered number (suc k) [] = refl
  after_covered number (suc k) (c ∷ cs) = after_covered number k cs

  one_on : (number c : ℕ) (cs : List ℕ) (p : Option ℕ) → replaced_from which old new number (c ∷ cs) (option_map suc p) ≡ c ∷ replaced_from which old new number cs p
  one_on number c cs (Some at) =
      let e : suc at + length old ≡ suc (at + length old) = omega arith in
      ap (λ n. c ∷ take at cs ++ (stands_for which old new number ++ replaced which old new (number + 1) 0 (drop n (c ∷ cs)))) e
  one_on number c cs None = refl

  step : (number c : ℕ) (cs : List ℕ) → replaced which old new number 0 (c ∷ cs)
      ≡ cond (begins old (c ∷ cs)) (stands_for which old new number ++ replaced which old new (number + 1) (length old - 1) cs) (c ∷ replaced which old new number 0 cs)
  unfolding replaced
  step number c cs = refl

  nothing : (number : ℕ) → replaced which old new number 0 [] ≡ []
  unfolding replaced
  nothing number = refl

module _ (which : Option ℕ) (o : ℕ) (os new : List ℕ) where
  begun : (number c : ℕ) (cs : List ℕ) → begins (o ∷ os) (c ∷ cs) ≡ true
      → replaced which (o ∷ os) new number 0 (c ∷ cs) ≡ replaced_from which (o ∷ os) new number (c ∷ cs) (first_place (o ∷ os) (c ∷ cs))
  begun number c cs e =
      let old = o ∷ os in
      let s = stands_for which old new number in
      let less : length old - 1 ≡ length os = omega arith in
      let more : 0 + length old ≡ suc (length os) = omega arith in
      step which old new number c cs
      ∙ ap (λ b. cond b (s ++ replaced which old new (number + 1) (length old - 1) cs) (c ∷ replaced which old new number 0 cs)) e
      ∙ ap (λ n. s ++ replaced which old new (number + 1) n cs) less
      ∙ ap (λ xs. s ++ xs) (after_covered which old new (number + 1) (length os) cs)
      ∙ sym (ap (λ n. s ++ replaced which old new (number + 1) 0 (drop n (c ∷ cs))) more)
      ∙ sym (ap (λ b. replaced_from which old new number (c ∷ cs) (cond b (Some 0) (option_map suc (first_place old cs)))) e)

  goes_on : (number c : ℕ) (cs : List ℕ) → replaced which (o ∷ os) new number 0 cs ≡ replaced_from which (o ∷ os) new number cs (first_place (o ∷ os) cs)
      → begins (o ∷ os) (c ∷ cs) ≡ false
      → replaced which (o ∷ os) new number 0 (c ∷ cs) ≡ replaced_from which (o ∷ os) new number (c ∷ cs) (first_place (o ∷ os) (c ∷ cs))
  goes_on number c cs rest e =
      let old = o ∷ os in
      step which old new number c cs
      ∙ ap (λ b. cond b (stands_for which old new number ++ replaced which old new (number + 1) (length old - 1) cs) (c ∷ replaced which old new number 0 cs)) e
      ∙ ap (λ xs. c ∷ xs) rest
      ∙ sym (one_on which old new number c cs (first_place old cs))
      ∙ sym (ap (λ b. replaced_from which old new number (c ∷ cs) (cond b (Some 0) (option_map suc (first_place old cs)))) e)

  from_left : (number : ℕ) (cs : List ℕ) → replaced which (o ∷ os) new number 0 cs ≡ replaced_from which (o ∷ os) new number cs (first_place (o ∷ os) cs)
  from_left number [] = nothing which (o ∷ os) new number
  from_left number (c ∷ cs) = go (begins (o ∷ os) (c ∷ cs)) refl (from_left number cs)
    where
      go : (b : Bool) → begins (o ∷ os) (c ∷ cs) ≡ b → replaced which (o ∷ os) new number 0 cs ≡ replaced_from which (o ∷ os) new number cs (first_place (o ∷ os) cs)
          → replaced which (o ∷ os) new number 0 (c ∷ cs) ≡ replaced_from which (o ∷ os) new number (c ∷ cs) (first_place (o ∷ os) (c ∷ cs))
      go true e rest = begun number c cs e
      go false e rest = goes_on number c cs rest e

pub from_the_left : ReplacedFromTheLeft
from_the_left which [] new cs number h = absurd (omega arith)
from_the_left which (o ∷ os) new cs number h = from_left which o os new number cs
