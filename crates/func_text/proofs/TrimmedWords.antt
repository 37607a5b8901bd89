-- What TRIM leaves has the words of the text, with one space between each two and none elsewhere: for the law.
use Rattle.std.proofs.Common.{◌≡◌, ◌≢◌, ◌∙◌, sym, ap, subst, refl, inl, inr, ℕ, zero, suc, ◌+◌, ◌-◌, ◌<◌, ◌==◌, Bool, true, false, not, ◌&&◌, ◌||◌, cond, List, [], ◌∷◌, filter, length, slice_index, add-one, arith}
use Rattle.std.proofs.lemmas.Bool.{cases_Bool}
use Rattle.std.proofs.lemmas.Bool.Decides.{Decides-eqb}
use Rattle.std.specs.List.{slice_split, onto_first}
use Rattle.func_text.specs.Laws.{is_some_text, words, TrimsToWords}
use Rattle.func_text.specs.Trim.{has_word, kept}
use Rattle.func_text.specs.declared.trim.TheConstants.{SPACE}

-- what the walk leaves of a space and what follows, and of another character
kept-space : (b : Bool) (c : ℕ) (cs : List ℕ) → (c == SPACE) ≡ true → kept b (c ∷ cs) ≡ cond (b && has_word cs) (SPACE ∷ kept false cs) (kept false cs)
kept-space b c cs e = ap (λ t. cond t (cond (b && has_word cs) (SPACE ∷ kept false cs) (kept false cs)) (c ∷ kept true cs)) e

kept-other : (b : Bool) (c : ℕ) (cs : List ℕ) → (c == SPACE) ≡ false → kept b (c ∷ cs) ≡ c ∷ kept true cs
kept-other b c cs e = ap (λ t. cond t (cond (b && has_word cs) (SPACE ∷ kept false cs) (kept false cs)) (c ∷ kept true cs)) e

has_word-space : (c : ℕ) (cs : List ℕ) → (c == SPACE) ≡ true → has_word (c ∷ cs) ≡ has_word cs
has_word-space c cs e = ap (λ t. not t || has_word cs) e

has_word-other : (c : ℕ) (cs : List ℕ) → (c == SPACE) ≡ false → has_word (c ∷ cs) ≡ true
has_word-other c cs e = ap (λ t. not t || has_word cs) e

no_space : (c : ℕ) → (c == SPACE) ≡ false → c ≢ SPACE
no_space c e is = let h : (c == SPACE) ≡ true = (Decides-eqb c SPACE).1 is in cc

-- of both forms of a choice
by_choice : (P : List ℕ → Type 0) (b : Bool) (xs ys : List ℕ) → (b ≡ true → P xs) → (b ≡ false → P ys) → P (cond b xs ys)
by_choice P true xs ys t f = t refl
by_choice P false xs ys t f = f refl

-- a text with a word leaves some characters, and one without leaves none
some_kept : (b : Bool) (cs : List ℕ) → has_word cs ≡ true → 0 < length (kept b cs)
some_kept b [] h = cc
some_kept b (c ∷ cs) h = elim (cases_Bool (c == SPACE)) [
  | inl e ↦
      let rest = some_kept false cs (sym (has_word-space c cs e) ∙ h) in
      subst (λ xs. 0 < length xs) (sym (kept-space b c cs e)) (by_choice (λ xs. 0 < length xs) (b && has_word cs) (SPACE ∷ kept false cs) (kept false cs) (λ _. omega arith) (λ _. rest))
  | inr e ↦ subst (λ xs. 0 < length xs) (sym (kept-other b c cs e)) (omega arith)
]

none_kept : (cs : List ℕ) → has_word cs ≡ false → kept false cs ≡ []
none_kept [] h = refl
none_kept (c ∷ cs) h = elim (cases_Bool (c == SPACE)) [
  | inl e ↦ kept-space false c cs e ∙ none_kept cs (sym (has_word-space c cs e) ∙ h)
  | inr e ↦ let w : has_word (c ∷ cs) ≡ true = has_word-other c cs e in cc
]

-- no space comes first
first_kept : (cs : List ℕ) → slice_index (kept false cs) 0 ≢ SPACE
first_kept [] = λ is. cc
first_kept (c ∷ cs) = elim (cases_Bool (c == SPACE)) [
  | inl e ↦ subst (λ xs. slice_index xs 0 ≢ SPACE) (sym (kept-space false c cs e)) (first_kept cs)
  | inr e ↦ subst (λ xs. slice_index xs 0 ≢ SPACE) (sym (kept-other false c cs e)) (no_space c e)
]

-- each space is followed by a character that is none
abbrev Spaced : List ℕ → Type 0
Spaced out = (i : ℕ) → i < length out → slice_index out i ≡ SPACE → (suc i < length out) × (slice_index out (suc i) ≢ SPACE)

spaced_next : (c : ℕ) (out : List ℕ) → (c ≡ SPACE → (0 < length out) × (slice_index out 0 ≢ SPACE)) → Spaced out → Spaced (c ∷ out)
spaced_next c out here rest zero l is = let h = here is in (omega arith, h.1)
spaced_next c out here rest (suc i) l is = let h = rest i (omega arith) is in (omega arith, h.1)

spaced : (b : Bool) (cs : List ℕ) → Spaced (kept b cs)
spaced b [] = λ i l is. absurd (omega arith)
spaced b (c ∷ cs) = elim (cases_Bool (c == SPACE)) [
  | inl e ↦
      let follows = λ (w : (b && has_word cs) ≡ true). spaced_next SPACE (kept false cs) (λ _. (some_kept false cs (second b (has_word cs) w), first_kept cs)) (spaced false cs) in
      subst Spaced (sym (kept-space b c cs e)) (by_choice Spaced (b && has_word cs) (SPACE ∷ kept false cs) (kept false cs) follows (λ _. spaced false cs))
  | inr e ↦ subst Spaced (sym (kept-other b c cs e)) (spaced_next c (kept true cs) (λ is. absurd (no_space c e is)) (spaced true cs))
]
  where
    second : (s t : Bool) → (s && t) ≡ true → t ≡ true
    second true t h = h
    second false t h = cc

last_kept : (out : List ℕ) → Spaced out → slice_index out (length out - 1) ≢ SPACE
last_kept [] s is = cc
last_kept (c ∷ out) s is = let h = s (length (c ∷ out) - 1) (omega arith) is in absurd (omega arith)

apart_kept : (out : List ℕ) → Spaced out → (i : ℕ) → slice_index out i ≡ SPACE → slice_index out (i + 1) ≢ SPACE
apart_kept out s i is = subst (λ k. slice_index out k ≢ SPACE) (sym (add-one i)) (s i (inside out i is) is).1
  where
    inside : (xs : List ℕ) (k : ℕ) → slice_index xs k ≡ SPACE → k < length xs
    inside [] k e = cc
    inside (x ∷ xs) zero e = omega arith
    inside (x ∷ xs) (suc k) e = let l = inside xs k e in omega arith

-- what stands between spaces
abbrev runs : List ℕ → List (List ℕ)
runs cs = slice_split (λ c. c == SPACE) cs

-- the same first run, and then the same words
record SameRuns (xs ys : List ℕ) : Type 0 where
  run : List ℕ
  later : List (List ℕ)
  later_too : List (List ℕ)
  left : runs xs ≡ run ∷ later
  right : runs ys ≡ run ∷ later_too
  same : filter is_some_text later ≡ filter is_some_text later_too

runs-space : (c : ℕ) (cs : List ℕ) → (c == SPACE) ≡ true → runs (c ∷ cs) ≡ [] ∷ runs cs
runs-space c cs e = ap (λ t. cond t ([] ∷ runs cs) (onto_first c (runs cs))) e

runs-other : (c : ℕ) (cs : List ℕ) → (c == SPACE) ≡ false → runs (c ∷ cs) ≡ onto_first c (runs cs)
runs-other c cs e = ap (λ t. cond t ([] ∷ runs cs) (onto_first c (runs cs))) e

filter_first : (run : List ℕ) (xs ys : List (List ℕ)) → filter is_some_text xs ≡ filter is_some_text ys → filter is_some_text (run ∷ xs) ≡ filter is_some_text (run ∷ ys)
filter_first [] xs ys e = e
filter_first (c ∷ cs) xs ys e = ap (λ zs. (c ∷ cs) ∷ zs) e

same_words : (xs ys : List ℕ) → SameRuns xs ys → words xs ≡ words ys
same_words xs ys s = ap (filter is_some_text) s.left ∙ filter_first s.run s.later s.later_too s.same ∙ sym (ap (filter is_some_text) s.right)

one_more : (c : ℕ) (xs ys : List ℕ) → (c == SPACE) ≡ false → SameRuns xs ys → SameRuns (c ∷ xs) (c ∷ ys)
one_more c xs ys e s = record {
  run = c ∷ s.run;
  later = s.later;
  later_too = s.later_too;
  left = runs-other c xs e ∙ ap (onto_first c) s.left;
  right = runs-other c ys e ∙ ap (onto_first c) s.right;
  same = s.same;
}

-- after a word and at the start
kept_words : (cs : List ℕ) → SameRuns (kept true cs) cs × (words (kept false cs) ≡ words cs)
kept_words [] = (record { run = []; later = []; later_too = []; left = refl; right = refl; same = refl }, refl)
kept_words (c ∷ cs) = elim (cases_Bool (c == SPACE)) [
  | inl e ↦
      let rest = (kept_words cs).1 in
      let follows = λ (w : has_word cs ≡ true). gap e rest in
      let nothing = λ (w : has_word cs ≡ false). ends e rest w in (
        subst (λ xs. SameRuns xs (c ∷ cs)) (sym (kept-space true c cs e)) (by_choice (λ xs. SameRuns xs (c ∷ cs)) (has_word cs) (SPACE ∷ kept false cs) (kept false cs) follows nothing),
        ap words (kept-space false c cs e) ∙ rest ∙ sym (ap (filter is_some_text) (runs-space c cs e)),
      )
  | inr e ↦
      let s = one_more c (kept true cs) cs e (kept_words cs).0 in
      (subst (λ xs. SameRuns xs (c ∷ cs)) (sym (kept-other true c cs e)) s, ap words (kept-other false c cs e) ∙ same_words (c ∷ kept true cs) (c ∷ cs) s)
]
  where
    gap : (c == SPACE) ≡ true → words (kept false cs) ≡ words cs → SameRuns (SPACE ∷ kept false cs) (c ∷ cs)
    gap e rest = record {
      run = [];
      later = runs (kept false cs);
      later_too = runs cs;
      left = refl;
      right = runs-space c cs e;
      same = rest;
    }

    ends : (c == SPACE) ≡ true → words (kept false cs) ≡ words cs → has_word cs ≡ false → SameRuns (kept false cs) (c ∷ cs)
    ends e rest w = record {
      run = [];
      later = [];
      later_too = runs cs;
      left = ap runs (none_kept cs w);
      right = runs-space c cs e;
      same = sym (ap words (none_kept cs w)) ∙ rest;
    }

pub trims_to_words : TrimsToWords
trims_to_words cs = record {
  first = first_kept cs;
  last = last_kept (kept false cs) (spaced false cs);
  apart = apart_kept (kept false cs) (spaced false cs);
  same_words = (kept_words cs).1;
}
