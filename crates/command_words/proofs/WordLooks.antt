-- What a word looks like where a walk hasn't met `--` yet. Serves the laws of words.
use Rattle.std.proofs.Common.{◌≡◌, sym, subst, refl, ℕ, ◌==◌, Bool, true, false, List, [], ◌∷◌}
use Rattle.std.specs.Prelude.{codes}
use Rattle.std.specs.Str.{chars}
use Rattle.std.proofs.lemmas.Bool.{eqb-true}
use Rattle.clap.specs.Faults.{flags_fault, word_fault}
use Rattle.clap.specs.Walk.{Row, Waiting, bundle_met, idle, option, positional, plain_word, word_met}
use Rattle.clap.specs.declared.error.kind.ErrorKind.TheVariants as kind
use Rattle.command_words.proofs.Walks.{IsOther, Pending, held_at, plain_other, rules, shape}

-- a word that is at fault wherever it stands
abbrev pub IsRefused : List ℕ → Type 0
IsRefused word = (waiting : Waiting) (rows : List Row) (pending : Pending) → word_fault shape [] false waiting word (held_at rows pending) ≡ kind.UnknownArgument ∷ []

pub data Look (word : List ℕ) : Type 0 where
  other : IsOther word → Look word
  dashes : word ≡ codes "--" → Look word
  named : (x : ℕ) (xs : List ℕ) → word ≡ 45 ∷ 45 ∷ x ∷ xs → Look word
  refused : IsRefused word → Look word

minus_other : IsOther (45 ∷ [])
minus_other = record { fine = fine; goes = goes }
  where
    fine : (waiting : Waiting) (rows : List Row) (pending : Pending) → word_fault shape [] false waiting (45 ∷ []) (held_at rows pending) ≡ []
    fine idle rows pending = refl
    fine (option id) rows pending = refl
    fine positional rows pending = refl

    goes : (waiting : Waiting) (rows : List Row) (pending : Pending) → word_met rules [] false waiting 1 (45 ∷ []) (held_at rows pending) ≡ plain_word rules waiting (45 ∷ []) (held_at rows pending)
    goes idle rows pending = refl
    goes (option id) rows pending = refl
    goes positional rows pending = refl

-- what follows `-` spells no character
none_other : (x : ℕ) (xs : List ℕ) → x == 45 ≡ false → chars (x ∷ xs) ≡ [] → IsOther (45 ∷ x ∷ xs)
unfolding flags_fault bundle_met
none_other x xs single none = record { fine = fine; goes = goes }
  where
    fine : (waiting : Waiting) (rows : List Row) (pending : Pending) → word_fault shape [] false waiting (45 ∷ x ∷ xs) (held_at rows pending) ≡ []
    fine idle rows pending = simp (single, none)
    fine (option id) rows pending = simp (single, none)
    fine positional rows pending = simp (single, none)

    goes : (waiting : Waiting) (rows : List Row) (pending : Pending) → word_met rules [] false waiting 1 (45 ∷ x ∷ xs) (held_at rows pending) ≡ plain_word rules waiting (45 ∷ x ∷ xs) (held_at rows pending)
    goes idle rows pending = simp (single, none)
    goes (option id) rows pending = simp (single, none)
    goes positional rows pending = simp (single, none)

some_refused : (x : ℕ) (xs : List ℕ) (k : ℕ) (ks : List ℕ) → x == 45 ≡ false → chars (x ∷ xs) ≡ k ∷ ks → IsRefused (45 ∷ x ∷ xs)
unfolding flags_fault
some_refused x xs k ks single some idle rows pending = simp (single, some)
some_refused x xs k ks single some (option id) rows pending = simp (single, some)
some_refused x xs k ks single some positional rows pending = simp (single, some)

single_look : (x : ℕ) (xs : List ℕ) → x == 45 ≡ false → Look (45 ∷ x ∷ xs)
single_look x xs single = by (chars (x ∷ xs)) refl
  where
    by : (cs : List ℕ) → chars (x ∷ xs) ≡ cs → Look (45 ∷ x ∷ xs)
    by [] none = other (none_other x xs single none)
    by (k ∷ ks) some = refused (some_refused x xs k ks single some)

double_look : (xs : List ℕ) → Look (45 ∷ 45 ∷ xs)
double_look [] = dashes refl
double_look (x ∷ xs) = named x xs refl

dashed_look : (cs : List ℕ) → Look (45 ∷ cs)
dashed_look [] = other minus_other
dashed_look (x ∷ xs) = by (x == 45) refl
  where
    by : (b : Bool) → x == 45 ≡ b → Look (45 ∷ x ∷ xs)
    by true is = subst (λ k. Look (45 ∷ k ∷ xs)) (sym (eqb-true x 45 is)) (double_look xs)
    by false is = single_look x xs is

pub look : (word : List ℕ) → Look word
look [] = other (plain_other [] refl)
look (c ∷ cs) = by (c == 45) refl
  where
    by : (b : Bool) → c == 45 ≡ b → Look (c ∷ cs)
    by true is = subst (λ k. Look (k ∷ cs)) (sym (eqb-true c 45 is)) (dashed_look cs)
    by false is = other (plain_other (c ∷ cs) is)
