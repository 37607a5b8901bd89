-- A text goes wrong at one place at most, and a formula nowhere. Serves the laws `no_text_goes_wrong_at_two` and
-- `no_formula_goes_wrong`.
use Rattle.std.proofs.Common.{◌≡◌, ◌∙◌, sym, ap, refl, arith, subst, ℕ, Bool, true, false, List, [], ◌∷◌, ◌++◌, length, Option, Some, None, append_assoc, ◌⊎◌, inl, inr}
use Rattle.std.specs.Option.{option_map}
use Rattle.std.proofs.lemmas.List.{append-nil}
use Rattle.formula_tree.specs.Token.{Token}
use Rattle.formula_tree.specs.Run.{is_blank, begins_with, begins_with_any}
use Rattle.formula_tree.specs.Tokens.{Front, token_at, tokens_of}
use Rattle.formula_tree.specs.Grammar.{SpellsTokens}
use Rattle.formula_tree.proofs.TokenSteps.{tokens_of-nil, tokens_follow}
use Rattle.formula_parse.specs.declared.wrong.TextSpan.{TextSpan}
use Rattle.formula_parse.specs.Fronts.{IsFront, IsNoFront, IsNotWhole, TokensThen, all_rest, a_blank, a_token, GoesWrongBefore, at_token, at_no_token, at_end, as_a_whole, behind_equals}
use Rattle.formula_parse.specs.Laws.{OnePlace, FormulasGoRight}

-- any list of sheets
no_sheets : List ℕ → Option ℕ
no_sheets name = None

-- a front has no front in it that is none
no-longer : (ahead tokens : List Token) (x : Token) → IsNoFront (ahead ++ x ∷ []) → IsFront (ahead ++ x ∷ tokens) → ⊥
no-longer ahead tokens x stops front =
    let found = front 0 no_sheets in
    let same : (ahead ++ x ∷ tokens) ++ found.0 ≡ (ahead ++ x ∷ []) ++ (tokens ++ found.0) =
    append_assoc ahead (x ∷ tokens) found.0 ∙ sym (append_assoc ahead (x ∷ []) (tokens ++ found.0)) in
    let deep = stops 0 no_sheets (tokens ++ found.0) found.1.0 (subst (λ xs. SpellsTokens 0 no_sheets xs found.1.0) same found.1.1.0) in
    let low = found.1.1.1 in
    omega (arith, deep, low)

-- of two places behind tokens of one text the second stands behind more tokens, or the first
abbrev Further : List ℕ → List ℕ → List Token → List Token → Type 0
Further rest other xs ys = (zs : List Token) × TokensThen rest zs other × (ys ≡ xs ++ zs)

further-one : (rest other : List ℕ) (xs ys : List Token) (x : Token) → Further rest other xs ys → Further rest other (x ∷ xs) (x ∷ ys)
further-one rest other xs ys x (zs, d, e) = (zs, d, ap (λ ts. x ∷ ts) e)

either-one : (rest other : List ℕ) (xs ys : List Token) (x : Token) → (Further rest other xs ys) ⊎ (Further other rest ys xs) → (Further rest other (x ∷ xs) (x ∷ ys)) ⊎ (Further other rest (x ∷ ys) (x ∷ xs))
either-one rest other xs ys x (inl f) = inl (further-one rest other xs ys x f)
either-one rest other xs ys x (inr f) = inr (further-one other rest ys xs x f)

-- a text begins with one token
one-front : (front : Front) (x y : Token) (behind next : List ℕ) → front ≡ Some (x, behind) → front ≡ Some (y, next) → (x ≡ y) × (behind ≡ next)
one-front front x y behind next e f = let same : ◌≡◌ {A = Front} (Some (x, behind)) (Some (y, next)) = sym e ∙ f in
    let pair : ◌≡◌ {A = Token × List ℕ} (x, behind) (y, next) = cc in
    (ap (λ p. p.0) pair, ap (λ p. p.1) pair)

no-front : (front : Front) (x : Token) (behind : List ℕ) → front ≡ None → front ≡ Some (x, behind) → ⊥
no-front front x behind e f = let same : ◌≡◌ {A = Front} None (Some (x, behind)) = sym e ∙ f in cc

begins-other : (b : Bool) → b ≡ true → b ≡ false → ⊥
begins-other b e f = cc

compare : {text rest other : List ℕ} {xs ys : List Token} → TokensThen text xs rest → TokensThen text ys other → (Further rest other xs ys) ⊎ (Further other rest ys xs)
compare {ys = ys} all_rest e = inl (ys, e, refl)
compare {xs = xs} (a_blank b d) all_rest = inr (xs, a_blank b d, refl)
compare {xs = xs} (a_token b t d) all_rest = inr (xs, a_token b t d, refl)
compare (a_blank b d) (a_blank c e) = compare d e
compare (a_blank {c = n} b d) (a_token c t e) = absurd (begins-other (is_blank n) b c)
compare (a_token {c = n} b t d) (a_blank c e) = absurd (begins-other (is_blank n) c b)
compare {rest = rest} {other = other} (a_token {c = n} {text = text} {x = x} {behind = behind} {tokens = xs} b t d) (a_token {x = y} {behind = next} {tokens = ys} c u e) =
    let same = one-front (token_at n text) x y behind next t u in
    subst (λ z. (Further rest other (x ∷ xs) (z ∷ ys)) ⊎ (Further other rest (z ∷ ys) (x ∷ xs))) same.0
    (either-one rest other xs ys x (compare d (subst (λ cs. TokensThen cs ys other) (sym same.1) e)))

-- what a wrong place has in front of it, and behind its token
abbrev behind_of : Front → List ℕ
behind_of None = []
behind_of (Some p) = p.1

abbrev front_at : List ℕ → Front
front_at [] = None
front_at (c ∷ cs) = token_at c cs

abbrev IsStuck : List ℕ → List ℕ → List ℕ → List Token → Type 0
IsStuck text rest behind ahead = TokensThen text ahead rest × (begins_with_any is_blank rest ≡ false) × IsFront ahead
    × ((x : Token) (next : List ℕ) → front_at rest ≡ Some (x, next) → IsNoFront (ahead ++ x ∷ [])) × (behind ≡ behind_of (front_at rest))

stuck : {text rest behind : List ℕ} → GoesWrongBefore text rest behind → (ahead : List Token) × IsStuck text rest behind ahead
stuck (at_token {before = ahead} {c = c} {cs = cs} {x = x} {behind = behind} d b t f n) =
    (ahead, (d, b, f, λ y next e. subst (λ z. IsNoFront (ahead ++ z ∷ [])) (one-front (token_at c cs) x y behind next t e).0 n, sym (ap behind_of t)))
stuck (at_no_token {before = ahead} {c = c} {cs = cs} d b t f) = (ahead, (d, b, f, λ y next e. absurd (no-front (token_at c cs) y next t e), sym (ap behind_of t)))
stuck (at_end {before = ahead} d f n) = (ahead, (d, refl, f, λ y next e. absurd (no-front None y next refl e), refl))

-- no token stands between two wrong places
between-none : {rest other : List ℕ} {zs : List Token} (ahead : List Token) → TokensThen rest zs other → begins_with_any is_blank rest ≡ false
    → ((x : Token) (next : List ℕ) → front_at rest ≡ Some (x, next) → IsNoFront (ahead ++ x ∷ [])) → IsFront (ahead ++ zs) → rest ≡ other
between-none ahead all_rest b n f = refl
between-none ahead (a_blank {c = n} c d) b stops f = absurd (begins-other (is_blank n) c b)
between-none ahead (a_token {x = x} {behind = behind} {tokens = tokens} c t d) b n f = absurd (no-longer ahead tokens x (n x behind t) f)

same-rest : {text rest other behind next : List ℕ} (xs ys : List Token) → IsStuck text rest behind xs → IsStuck text other next ys → (Further rest other xs ys) ⊎ (Further other rest ys xs) → rest ≡ other
same-rest xs ys (d, b, f, n, e) (d', b', f', n', e') (inl (zs, g, h)) = between-none xs g b n (subst IsFront h f')
same-rest xs ys (d, b, f, n, e) (d', b', f', n', e') (inr (zs, g, h)) = sym (between-none ys g b' n' (subst IsFront h f))

one-before : {text rest other behind next : List ℕ} → GoesWrongBefore text rest behind → GoesWrongBefore text other next → (rest ≡ other) × (behind ≡ next)
one-before g h =
    let a = stuck g in
    let b = stuck h in
    let same = same-rest a.0 b.0 a.1 b.1 (compare a.1.0 b.1.0) in
    (same, a.1.4 ∙ ap (λ cs. behind_of (front_at cs)) same ∙ sym b.1.4)

same-span : (span other : TextSpan) → span.at ≡ other.at → span.length ≡ other.length → span ≡ other
same-span span other e f = λ i. record { at = e i; length = f i }

pub one-place : OnePlace
one-place text span other (as_a_whole e f g) (as_a_whole e' f' g') = same-span span other (f ∙ sym f') (g ∙ sym g')
one-place text span other (as_a_whole e f g) (behind_equals e' w f' g') = absurd (cc)
one-place text span other (behind_equals e w f g) (as_a_whole e' f' g') = absurd (cc)
one-place text span other (behind_equals {formula = formula} {rest = rest} {behind = behind} e w f g) (behind_equals {formula = formula'} {rest = rest'} {behind = behind'} e' w' f' g') =
    let same : formula' ≡ formula = cc in
    let places = one-before w (subst (λ cs. GoesWrongBefore cs rest' behind') same w') in
    let first = ap length places.0 in
    let second = ap length places.1 in
    same-span span other (omega (arith, f, f', first)) (omega (arith, g, g', first, second))

-- the tokens of a text whose first ones are known
tokens-behind : {text rest : List ℕ} {xs : List Token} → TokensThen text xs rest → tokens_of text ≡ option_map (λ tokens. xs ++ tokens) (tokens_of rest)
tokens-behind {rest = rest} all_rest =
    elim (tokens_of rest) as (λ r. r ≡ option_map (λ tokens. [] ++ tokens) r) [
      | None ↦ refl
      | Some tokens ↦ refl
    ]
tokens-behind (a_blank {c = c} {text = text} b d) = tokens_follow.blank c text b ∙ tokens-behind d
tokens-behind {rest = rest} (a_token {c = c} {text = text} {x = x} {behind = behind} {tokens = xs} b t d) =
    tokens_follow.token c text x behind b t ∙ ap (λ r. option_map (λ tokens. x ∷ tokens) r) (tokens-behind d)
    ∙ elim (tokens_of rest) as (λ r. option_map (λ tokens. x ∷ tokens) (option_map (λ tokens. xs ++ tokens) r) ≡ option_map (λ tokens. (x ∷ xs) ++ tokens) r) [
      | None ↦ refl
      | Some tokens ↦ refl
    ]

-- what is made of a text's tokens where it goes wrong
abbrev Unspelt : Option (List Token) → Type 0
Unspelt None = Unit {0}
Unspelt (Some tokens) = IsNotWhole tokens

unspelt-by : (ahead : List Token) (x : Token) (r : Option (List Token)) → IsNoFront (ahead ++ x ∷ []) → Unspelt (option_map (λ tokens. ahead ++ tokens) (option_map (λ tokens. x ∷ tokens) r))
unspelt-by ahead x None n = tt
unspelt-by ahead x (Some tokens) n = λ home find t d.
    n home find tokens t (subst (λ xs. SpellsTokens home find xs t) (sym (append_assoc ahead (x ∷ []) tokens)) d)

unspelt : {text rest behind : List ℕ} → GoesWrongBefore text rest behind → Unspelt (tokens_of text)
unspelt (at_token {before = ahead} {c = c} {cs = cs} {x = x} {behind = behind} d b t f n) =
    subst Unspelt (sym (tokens-behind d ∙ ap (option_map (λ tokens. ahead ++ tokens)) (tokens_follow.token c cs x behind b t))) (unspelt-by ahead x (tokens_of behind) n)
unspelt (at_no_token {before = ahead} {c = c} {cs = cs} d b t f) =
    subst Unspelt (sym (tokens-behind d ∙ ap (option_map (λ tokens. ahead ++ tokens)) (tokens_follow.other c cs b t))) tt
unspelt (at_end {before = ahead} d f n) =
    subst Unspelt (sym (tokens-behind d ∙ ap (option_map (λ tokens. ahead ++ tokens)) tokens_of-nil ∙ ap (λ tokens. Some tokens) (append-nil ahead))) n

pub formulas-go-right : FormulasGoRight
formulas-go-right [] span f w = absurd ((f 0 no_sheets).1.0)
formulas-go-right (c ∷ cs) span f (as_a_whole e g h) =
    let first : c ≡ 61 = (f 0 no_sheets).1.0.1.0 in
    let none : begins_with 61 (61 ∷ cs) ≡ false = subst (λ d. begins_with 61 (d ∷ cs) ≡ false) first e in
    absurd (cc (none))
formulas-go-right (c ∷ cs) span f (behind_equals {formula = formula} e w g h) =
    let found = f 0 no_sheets in
    let same : formula ≡ cs = cc in
    let all : Unspelt (Some found.1.0.0) = subst Unspelt (ap tokens_of same ∙ found.1.0.1.1) (unspelt w) in
    let deep = all 0 no_sheets found.0 found.1.0.1.2 in
    let low = found.1.1 in
    absurd (omega (arith, deep, low))
