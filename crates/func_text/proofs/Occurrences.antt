-- Where a text occurs in another, by bytes and by characters: for `first_place` and `replaced`.
use Rattle.std.proofs.Common.{◌≡◌, ◌∙◌, sym, ap, subst, refl, inl, inr, ℕ, suc, ◌+◌, ◌<◌, ◌≤◌, true, false, cond, List, [], ◌∷◌, ◌++◌, Some, None, length, take, drop, encode_utf8, encode_utf8_all, arith}
use Rattle.std.specs.Prelude.{IsUtf8, IsCharBoundary, chars}
use Rattle.std.specs.Option.{option_map}
use Rattle.std.specs.Str.Pattern.{FindsText}
use Rattle.std.proofs.lemmas.Bool.{cases_Bool}
use Rattle.std.proofs.lemmas.Bool.Decides.{Decides-eqb}
use Rattle.std.proofs.lemmas.List.{append_assoc, length-append, length-take, take-append-drop}
use Rattle.std.proofs.lemmas.Slice.Eq.{starts_is}
use Rattle.std.proofs.lemmas.Str.{chars-append, encodes-append, encodes-chars, length-encode, len_utf8_bounds, IsUtf8-append, IsUtf8-take, IsUtf8-drop, IsCharBoundary-from_drop}
use Rattle.func_text.specs.Find.{begins, first_place}

-- the first byte of an occurrence of n in s isn't before place k
abbrev NoneBefore : List ℕ → List ℕ → ℕ → Type 0
NoneBefore n s k = (front rest : List ℕ) → length front < k → s ≡ front ++ (n ++ rest) → ⊥

begins-exact : (sought cs : List ℕ) → begins sought cs ≡ true → cs ≡ sought ++ drop (length sought) cs
begins-exact sought cs = (starts_is Decides-eqb cs sought (begins sought cs) refl).0

pub begins-append : (sought rest : List ℕ) → begins sought (sought ++ rest) ≡ true
begins-append sought rest = (starts_is Decides-eqb (sought ++ rest) sought (begins sought (sought ++ rest)) refl).1 rest refl

begins_not : (ds cs : List ℕ) (k : ℕ) → 0 < k → NoneBefore (encode_utf8_all ds) (encode_utf8_all cs) k → begins ds cs ≡ false
begins_not ds cs k l none = elim (cases_Bool (begins ds cs)) [
  | inl e ↦ absurd (none [] (encode_utf8_all (drop (length ds) cs)) l (ap encode_utf8_all (begins-exact ds cs e) ∙ encodes-append ds (drop (length ds) cs)))
  | inr e ↦ e
]

-- after the first character
none_later : (n s : List ℕ) (c k : ℕ) → NoneBefore n (encode_utf8 c ++ s) (length (encode_utf8 c) + k) → NoneBefore n s k
none_later n s c k none front rest l e =
    let long = length-append (encode_utf8 c) front in
    none (encode_utf8 c ++ front) rest (omega arith) (ap (λ xs. encode_utf8 c ++ xs) e ∙ sym (append_assoc (encode_utf8 c) front (n ++ rest)))

some_bytes : (c : ℕ) → 0 < length (encode_utf8 c)
some_bytes c = omega (arith, length-encode c, len_utf8_bounds c)

first_here : (ds cs : List ℕ) → begins ds cs ≡ true → first_place ds cs ≡ Some 0
first_here ds [] e = ap (λ b. cond b (Some 0) None) e
first_here ds (c ∷ cs) e = ap (λ b. cond b (Some 0) (option_map suc (first_place ds cs))) e

-- the first occurrence begins after these characters
place_after : (ds front back : List ℕ) → NoneBefore (encode_utf8_all ds) (encode_utf8_all (front ++ back)) (length (encode_utf8_all front)) → begins ds back ≡ true
    → first_place ds (front ++ back) ≡ Some (length front)
place_after ds [] back none here = first_here ds back here
place_after ds (c ∷ front) back none here =
    let long = length-append (encode_utf8 c) (encode_utf8_all front) in
    let some = some_bytes c in
    let other = begins_not ds (c ∷ front ++ back) (length (encode_utf8_all (c ∷ front))) (omega arith) none in
    let later = place_after ds front back (none_later (encode_utf8_all ds) (encode_utf8_all (front ++ back)) c (length (encode_utf8_all front)) (subst (NoneBefore (encode_utf8_all ds) (encode_utf8_all (c ∷ front ++ back))) long none)) here in
    ap (λ b. cond b (Some 0) (option_map suc (first_place ds (front ++ back)))) other
    ∙ ap (option_map suc) later

-- there is none
place_none : (ds cs : List ℕ) → NoneBefore (encode_utf8_all ds) (encode_utf8_all cs) (length (encode_utf8_all cs) + 1) → first_place ds cs ≡ None
place_none ds [] none = ap (λ b. cond b (Some 0) None) (begins_not ds [] 1 (omega arith) none)
place_none ds (c ∷ cs) none =
    let long = length-append (encode_utf8 c) (encode_utf8_all cs) in
    let other = begins_not ds (c ∷ cs) (length (encode_utf8_all (c ∷ cs)) + 1) (omega arith) none in
    let sum : length (encode_utf8_all (c ∷ cs)) + 1 ≡ length (encode_utf8 c) + (length (encode_utf8_all cs) + 1) = omega arith in
    let later = place_none ds cs (none_later (encode_utf8_all ds) (encode_utf8_all cs) c (length (encode_utf8_all cs) + 1) (subst (NoneBefore (encode_utf8_all ds) (encode_utf8_all (c ∷ cs))) sum none)) in
    ap (λ b. cond b (Some 0) (option_map suc (first_place ds cs))) other
    ∙ ap (option_map suc) later

drop_front : (xs ys : List ℕ) → drop (length xs) (xs ++ ys) ≡ ys
drop_front [] ys = refl
drop_front (x ∷ xs) ys = drop_front xs ys

take_front : (xs ys : List ℕ) → take (length xs) (xs ++ ys) ≡ xs
take_front [] ys = refl
take_front (x ∷ xs) ys = ap (λ zs. x ∷ zs) (take_front xs ys)

module _ (sought within : List ℕ) (us : IsUtf8 sought) (uw : IsUtf8 within) where
  -- no occurrence by bytes is none by characters
  pub occurs_nowhere : FindsText sought within None → first_place (chars sought) (chars within) ≡ None
  occurs_nowhere lacks = place_none (chars sought) (chars within) none
    where
      none : NoneBefore (encode_utf8_all (chars sought)) (encode_utf8_all (chars within)) (length (encode_utf8_all (chars within)) + 1)
      none front rest l e =
          let all : within ≡ front ++ (sought ++ rest) = sym (encodes-chars within uw) ∙ e ∙ ap (λ n. front ++ (n ++ rest)) (encodes-chars sought us) in
          let long = ap length (encodes-chars within uw) in
          lacks (length front) (omega arith) rest (ap (drop (length front)) all ∙ drop_front front (sought ++ rest))

  module _ (i j : ℕ) (found : FindsText sought within (Some (i, j))) (fits : i ≤ length within) where
    -- what follows the occurrence is a text
    pub after_utf8 : IsUtf8 (drop j within)
    after_utf8 = IsUtf8-drop within j uw (subst (IsCharBoundary within) (sym found.1.ends) found.1.after)

    boundary : IsCharBoundary within i
    boundary = IsCharBoundary-from_drop within i fits (subst IsUtf8 (sym found.1.split) (IsUtf8-append sought (drop j within) us after_utf8))

    before_utf8 : IsUtf8 (take i within)
    before_utf8 = IsUtf8-take within i uw boundary

    -- the characters around an occurrence
    chars_around : chars within ≡ chars (take i within) ++ (chars sought ++ chars (drop j within))
    chars_around =
        ap chars (sym (take-append-drop i within) ∙ ap (λ back. take i within ++ back) found.1.split)
        ∙ chars-append (take i within) (sought ++ drop j within) before_utf8
        ∙ ap (λ back. chars (take i within) ++ back) (chars-append sought (drop j within) us)

    -- the first occurrence by bytes is the first by characters
    pub occurs_first : first_place (chars sought) (chars within) ≡ Some (length (chars (take i within)))
    occurs_first =
        ap (first_place (chars sought)) chars_around
        ∙ place_after (chars sought) (chars (take i within)) (chars sought ++ chars (drop j within)) none (begins-append (chars sought) (chars (drop j within)))
      where
        none : NoneBefore (encode_utf8_all (chars sought)) (encode_utf8_all (chars (take i within) ++ (chars sought ++ chars (drop j within)))) (length (encode_utf8_all (chars (take i within))))
        none front rest l e =
            let all : within ≡ front ++ (sought ++ rest) = sym (encodes-chars within uw) ∙ ap encode_utf8_all chars_around ∙ e ∙ ap (λ n. front ++ (n ++ rest)) (encodes-chars sought us) in
            let before = ap length (encodes-chars (take i within) before_utf8) in
            let long = length-take i within in
            found.0 (length front) (omega arith) rest (ap (drop (length front)) all ∙ drop_front front (sought ++ rest))

    -- the characters before the first occurrence, and those after it
    pub chars_before : take (length (chars (take i within))) (chars within) ≡ chars (take i within)
    chars_before = ap (take (length (chars (take i within)))) chars_around ∙ take_front (chars (take i within)) (chars sought ++ chars (drop j within))

    pub chars_behind : drop (length (chars (take i within)) + length (chars sought)) (chars within) ≡ chars (drop j within)
    chars_behind =
        let all = chars_around ∙ sym (append_assoc (chars (take i within)) (chars sought) (chars (drop j within))) in
        ap (λ n. drop n (chars within)) (sym (length-append (chars (take i within)) (chars sought)))
        ∙ ap (drop (length (chars (take i within) ++ chars sought))) all
        ∙ drop_front (chars (take i within) ++ chars sought) (chars (drop j within))

    pub before_bytes : encode_utf8_all (chars (take i within)) ≡ take i within
    before_bytes = encodes-chars (take i within) before_utf8
