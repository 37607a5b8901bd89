-- Numbers of words, and lists of words to which one more is put. Serves the words of a table of names.
use Rattle.std.proofs.Common.{◌≡◌, ◌≢◌, ◌∙◌, sym, ap, subst, refl, arith, ℕ, zero, suc, ◌<◌, ◌≤◌, ◌||◌, Bool, true, false, not, cond, ltb, ◌+◌, List, [], ◌∷◌, ◌++◌, length, map, get_or, Option, Some, None, option_map, is_some}
use Rattle.std.specs.Prelude.{bytes_eq, position, slice_get}
use Rattle.std.specs.List.{All, AllPairs, list_any, position_or_len}
use Rattle.std.proofs.lemmas.Bool.{both_ways, lt-ltb}
use Rattle.std.proofs.lemmas.Bool.Decides.{nat_tests}
use Rattle.std.proofs.lemmas.List.Elements.{All-head, All-tail, All-cons, All-push}
use Rattle.std.proofs.lemmas.List.Kept.{AllPairs-cons}
use Rattle.std.proofs.lemmas.Option.{same_Some}
use Rattle.std.proofs.lemmas.List.Sums.{position_or_len_is}
use Rattle.std.proofs.lemmas.List.Quantifiers.{position-Some}
use Rattle.std.proofs.lemmas.Str.Ascii.{lowercase-lowercase}
use Rattle.cell_addr.specs.Text.{folded}
use Rattle.cell_addr.specs.Sheets.{same_name}
use Rattle.cell_addr.proofs.Listed.{same_name-true, same_name-false, folded-same_name}
use Rattle.name_table.specs.Words.{AreWords, number_in, with_word}

-- what is looked for is at the head or behind it
place-step : (b : Bool) (n long : ℕ) → cond (ltb (cond (not b) (1 + n) 0) (suc long)) (Some (cond (not b) (1 + n) 0)) None ≡ cond b (Some 0) (option_map suc (cond (ltb n long) (Some n) None))
place-step true n long = grind (arith, nat_tests)
place-step false n long = behind (ltb n long) refl
  where
    behind : (b : Bool) → ltb n long ≡ b → cond (ltb (1 + n) (suc long)) (Some (1 + n)) None ≡ option_map suc (cond b (Some n) None)
    behind true l = grind (arith, nat_tests, l)
    behind false l = grind (arith, nat_tests, l)

module _ {X : Type 0} (p : X → Bool) where
  pub position-cons : (x : X) (xs : List X) → position p (x ∷ xs) ≡ cond (p x) (Some 0) (option_map suc (position p xs))
  position-cons x xs = place-step (p x) (position_or_len p xs) (length xs)

  none-behind : (b : Bool) (r : Option ℕ) → cond b (Some 0) (option_map suc r) ≡ None → (b ≡ false) × (r ≡ None)
  none-behind true r e = cc
  none-behind false None e = (refl, refl)
  none-behind false (Some n) e = cc

  -- where nothing is found, nothing passes
  pub none-passes : (xs : List X) → position p xs ≡ None → All (λ x. p x ≡ false) xs
  none-passes [] e = λ k d l. absurd (omega arith)
  none-passes (x ∷ xs) e =
      let parts = none-behind (p x) (position p xs) (sym (position-cons x xs) ∙ e) in
      All-cons (λ y. p y ≡ false) x xs parts.0 (none-passes xs parts.1)

  -- and the other way
  pub passes-none : (xs : List X) → All (λ x. p x ≡ false) xs → position p xs ≡ None
  passes-none [] h = refl
  passes-none (x ∷ xs) h =
      position-cons x xs ∙ ap (λ b. cond b (Some 0) (option_map suc (position p xs))) (All-head (λ y. p y ≡ false) x xs h)
      ∙ ap (option_map suc) (passes-none xs (All-tail (λ y. p y ≡ false) x xs h))

  -- what is put at the end is found there, where nothing before it is
  pub position-pushed : (xs : List X) (x : X) → position p xs ≡ None → p x ≡ true → position p (xs ++ x ∷ []) ≡ Some (length xs)
  position-pushed [] x none here = position-cons x [] ∙ ap (λ b. cond b (Some 0) (option_map suc (position p []))) here
  position-pushed (y ∷ xs) x none here =
      let parts = none-behind (p y) (position p xs) (sym (position-cons y xs) ∙ none) in
      position-cons y (xs ++ x ∷ []) ∙ ap (λ b. cond b (Some 0) (option_map suc (position p (xs ++ x ∷ [])))) parts.0
      ∙ ap (option_map suc) (position-pushed xs x parts.1 here)

  pub position-map : {K : Type 0} (f : K → X) (ks : List K) → position p (map f ks) ≡ position (λ k. p (f k)) ks
  position-map f [] = refl
  position-map f (k ∷ ks) = position-cons (f k) (map f ks) ∙ ap (λ r. cond (p (f k)) (Some 0) (option_map suc r)) (position-map f ks) ∙ sym (place-step (p (f k)) (position_or_len (λ k. p (f k)) ks) (length ks))

  pub any-none : (xs : List X) → position p xs ≡ None → list_any p xs ≡ false
  any-none [] e = refl
  any-none (x ∷ xs) e =
      let parts = none-behind (p x) (position p xs) (sym (position-cons x xs) ∙ e) in
      ap (λ b. b || list_any p xs) parts.0 ∙ any-none xs parts.1

pub folded-folded : (w : List ℕ) → folded (folded w) ≡ folded w
folded-folded [] = refl
folded-folded (b ∷ w) = λ i. lowercase-lowercase b i ∷ folded-folded w i

-- a text and its word find the same
pub number-folded : (words : List (List ℕ)) (text : List ℕ) → number_in words (folded text) ≡ number_in words text
number-folded words text = ap (λ w. position (λ v. bytes_eq w (folded v)) words) (folded-folded text)

-- a word that no text of the list is differs from each of them
differs : (words : List (List ℕ)) (w : List ℕ) → number_in words w ≡ None → All (λ v. v ≢ w) words
differs words w none k d l = λ same. both_ways _ (none-passes (same_name w) words none k d l) (same_name-true w (get_or words k d) (ap folded (sym same)))

pairs-push : (words : List (List ℕ)) (w : List ℕ) → AllPairs (λ u v. u ≢ v) words → All (λ v. v ≢ w) words → AllPairs (λ u v. u ≢ v) (words ++ w ∷ [])
pairs-push [] w h n = λ i j d below inside. absurd (omega (arith, below, inside))
pairs-push (v ∷ words) w h n =
    AllPairs-cons (λ u v. u ≢ v) v (words ++ w ∷ [])
    (All-push (λ u. v ≢ u) words w (λ k d l. h zero (suc k) d (omega arith) (omega (arith, l))) (All-head (λ u. u ≢ w) v words n))
    (pairs-push words w (λ i j d below inside. h (suc i) (suc j) d (omega (arith, below)) (omega (arith, inside))) (All-tail (λ u. u ≢ w) v words n))

-- a proper list of words stays so where a new word is put at its end
pub words-push : (words : List (List ℕ)) (w : List ℕ) → AreWords words → folded w ≡ w → number_in words w ≡ None → AreWords (words ++ w ∷ [])
words-push words w h small none = (All-push (λ v. folded v ≡ v) words w h.0 small, pairs-push words w h.1 (differs words w none))

got-behind : (ws rest : List (List ℕ)) (w d : List ℕ) → get_or (ws ++ w ∷ rest) (length ws) d ≡ w
got-behind [] rest w d = refl
got-behind (v ∷ ws) rest w d = got-behind ws rest w d

got-front : (ws rest : List (List ℕ)) (w d : List ℕ) (k : ℕ) → k < length ws → get_or (ws ++ w ∷ rest) k d ≡ get_or ws k d
got-front [] rest w d k l = absurd (omega arith)
got-front (v ∷ ws) rest w d zero l = refl
got-front (v ∷ ws) rest w d (suc k) l = got-front ws rest w d k (omega arith)

longer : (ws rest : List (List ℕ)) (w : List ℕ) → length ws < length (ws ++ w ∷ rest)
longer [] rest w = omega arith
longer (v ∷ ws) rest w = let l = longer ws rest w in omega (arith, l)

-- of a proper list, each word is new to those in front of it
front-lacks : (ws rest : List (List ℕ)) (w : List ℕ) → AreWords (ws ++ w ∷ rest) → number_in ws w ≡ None
front-lacks ws rest w h = passes-none (same_name w) ws lacks
  where
    last : folded w ≡ w
    last = subst (λ (v : List ℕ). folded v ≡ v) (got-behind ws rest w w) (h.0 (length ws) w (longer ws rest w))

    lacks : All (λ v. same_name w v ≡ false) ws
    lacks k d l =
        let more = longer ws rest w in
        let small : folded (get_or ws k d) ≡ get_or ws k d = subst (λ (v : List ℕ). folded v ≡ v) (got-front ws rest w d k l) (h.0 k d (omega (arith, l, more))) in
        let apart : get_or ws k d ≢ w =
        subst (λ (v : List ℕ). v ≢ w) (got-front ws rest w d k l)
        (subst (λ (v : List ℕ). get_or (ws ++ w ∷ rest) k d ≢ v) (got-behind ws rest w d) (h.1 k (length ws) d l more)) in
        same_name-false w (get_or ws k d) (λ same. apart (sym small ∙ sym same ∙ last))

-- and its number in the list up to it is a new one
pub next-word : (ws rest : List (List ℕ)) (w : List ℕ) → AreWords (ws ++ w ∷ rest) → with_word w ws ≡ ws ++ w ∷ []
next-word ws rest w h =
    ap (λ r. cond (is_some r) ws (ws ++ folded w ∷ [])) (front-lacks ws rest w h)
    ∙ ap (λ v. ws ++ v ∷ []) (subst (λ (v : List ℕ). folded v ≡ v) (got-behind ws rest w w) (h.0 (length ws) w (longer ws rest w)))

got-some : (ws : List (List ℕ)) (k : ℕ) (d : List ℕ) → k < length ws → slice_get ws k ≡ Some (get_or ws k d)
got-some [] k d l = absurd (omega arith)
got-some (w ∷ ws) zero d l = refl
got-some (w ∷ ws) (suc k) d l = got-some ws k d (omega arith)

-- the number that a text finds is that of its word
pub number-spelled : (words : List (List ℕ)) (text : List ℕ) (n : ℕ) → AreWords words → number_in words text ≡ Some n → slice_get words n ≡ Some (folded text)
number-spelled words text n h e =
    let at = position-Some (same_name text) words n [] e in
    got-some words n [] at.0 ∙ ap Some (sym (h.0 n [] at.0) ∙ sym (folded-same_name text (get_or words n []) at.1))

some-got : (words : List (List ℕ)) (n : ℕ) (w : List ℕ) → slice_get words n ≡ Some w → (n < length words) × (get_or words n [] ≡ w)
some-got [] n w e = cc
some-got (v ∷ words) zero w e = (omega arith, same_Some v w e)
some-got (v ∷ words) (suc n) w e = let more = some-got words n w e in (omega (arith, more.0), more.1)

-- and the text of a word finds its number
pub spelled-number : (words : List (List ℕ)) (w : List ℕ) (n : ℕ) → AreWords words → slice_get words n ≡ Some w → number_in words w ≡ Some n
spelled-number words w n h e =
    let at = some-got words n w e in
    let here : position_or_len (same_name w) words ≡ n =
    position_or_len_is (same_name w) words n [] (omega (arith, at.0))
    (λ k l. same_name-false w (get_or words k []) (λ same.
    h.1 k n [] l at.0 (sym (h.0 k [] (omega (arith, l, at.0))) ∙ sym same ∙ ap folded (sym at.1) ∙ h.0 n [] at.0)))
    (λ inside. same_name-true w (get_or words n []) (ap folded (sym at.1))) in
    let inside : ltb (position_or_len (same_name w) words) (length words) ≡ true = lt-ltb _ _ (omega (arith, here, at.0)) in
    ap (λ b. cond b (Some (position_or_len (same_name w) words)) None) inside ∙ ap Some here

pub map-push : {K X : Type 0} (f : K → X) (ks : List K) (k : K) → map f (ks ++ k ∷ []) ≡ map f ks ++ f k ∷ []
map-push f [] k = refl
map-push f (j ∷ ks) k = ap (λ r. f j ∷ r) (map-push f ks k)

-- a list isn't shorter with the word of a text
pub with_word-longer : (text : List ℕ) (words : List (List ℕ)) → length words ≤ length (with_word text words)
with_word-longer text words = longer-or (is_some (number_in words text))
  where
    longer-or : (b : Bool) → length words ≤ length (cond b words (words ++ folded text ∷ []))
    longer-or true = omega arith
    longer-or false = let l = longer words [] (folded text) in omega (arith, l)
