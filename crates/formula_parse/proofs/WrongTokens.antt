-- The tokens that a text begins with, and where it goes wrong behind them. Serves `parse_error`.
use Rattle.std.proofs.Common.{◌≡◌, ◌∙◌, sym, ap, refl, arith, subst, ℕ, suc, ◌-◌, ◌<◌, ◌≤◌, ◌==◌, Bool, true, false, if◌then◌else◌, List, [], ◌∷◌, ◌++◌, length, Some, None}
use Rattle.std.specs.Option.{option_and_then, option_map}
use Rattle.std.proofs.lemmas.Bool.{eqb-true}
use Rattle.std.proofs.lemmas.List.{append-nil}
use Rattle.cell_addr.specs.Parts.{strip_prefix}
use Rattle.formula_tree.specs.Token.{Token}
use Rattle.formula_tree.specs.Run.{is_blank, begins_with_any, after_while}
use Rattle.formula_tree.specs.Tokens.{Front, token_at, tokens_of}
use Rattle.formula_tree.proofs.TokenSteps.{Short, token_at-shorter, tokens_of-nil, tokens_follow}
use Rattle.formula_parse.specs.declared.wrong.TextSpan.{TextSpan}
use Rattle.formula_parse.specs.Fronts.{IsFormula, TokensThen, all_rest, a_blank, a_token, GoesWrongBefore, at_token, at_no_token, at_end, GoesWrongAt, behind_equals}
use Rattle.formula_parse.specs.internal.Front.{front_of}
use Rattle.formula_parse.specs.internal.Progress.{State, is_whole, start, step, reached}
use Rattle.formula_parse.proofs.Streams.{after_blanks-no_blank}
use Rattle.formula_parse.proofs.Whiles.{after_while-cons}
use Rattle.formula_parse.proofs.SpeltReached.{not-taken, not-whole}
use Rattle.formula_parse.proofs.FrontsReached.{reached-front, reached-whole}

-- tokens behind tokens
then-append : {text mid rest : List ℕ} {xs ys : List Token} → TokensThen text xs mid → TokensThen mid ys rest → TokensThen text (xs ++ ys) rest
then-append all_rest e = e
then-append (a_blank b d) e = a_blank b (then-append d e)
then-append (a_token b t d) e = a_token b t (then-append d e)

-- blanks are no tokens
blank-by : (b : Bool) (c : ℕ) (cs : List ℕ) → is_blank c ≡ b → TokensThen cs [] (after_while is_blank cs) → TokensThen (c ∷ cs) [] (if b then after_while is_blank cs else c ∷ cs)
blank-by true c cs e d = a_blank e d
blank-by false c cs e d = all_rest

blanks-then : (cs : List ℕ) → TokensThen cs [] (after_while is_blank cs)
blanks-then [] = all_rest
blanks-then (c ∷ cs) = subst (λ ds. TokensThen (c ∷ cs) [] ds) (sym (after_while-cons is_blank c cs)) (blank-by (is_blank c) c cs refl (blanks-then cs))

then-blanks : (text next rest : List ℕ) (tokens : List Token) → TokensThen text tokens next → rest ≡ after_while is_blank next → TokensThen text tokens rest
then-blanks text next rest tokens d e =
    subst (λ xs. TokensThen text xs rest) (append-nil tokens) (then-append d (subst (λ ds. TokensThen next [] ds) (sym e) (blanks-then next)))

-- what follows is no longer than the text
short-rest : (n : ℕ) (front : Front) (x : Token) (behind : List ℕ) → Short n front → front ≡ Some (x, behind) → length behind ≤ n
short-rest n front x behind s e = subst (Short n) e s

then-shorter : {text rest : List ℕ} {tokens : List Token} → TokensThen text tokens rest → length rest ≤ length text
then-shorter all_rest = omega arith
then-shorter (a_blank b d) = omega (arith, then-shorter d)
then-shorter (a_token {c = c} {text = text} {x = x} {behind = behind} b t d) =
    let less = short-rest (length text) (token_at c text) x behind (token_at-shorter c text) t in omega (arith, less, then-shorter d)

-- a text that is all tokens is made of them
then-all : {text rest : List ℕ} {tokens : List Token} → TokensThen text tokens rest → rest ≡ [] → tokens_of text ≡ Some tokens
then-all all_rest e = rw (e, tokens_of-nil) refl
then-all (a_blank {c = c} {text = text} b d) e = tokens_follow.blank c text b ∙ then-all d e
then-all (a_token {c = c} {text = text} {x = x} {behind = behind} b t d) e =
    tokens_follow.token c text x behind b t ∙ ap (λ r. option_map (λ tokens. x ∷ tokens) r) (then-all d e)

-- one token more
reached-next : (state : State) (tokens : List Token) (to next : State) (x : Token) → reached state tokens ≡ Some to → step to x ≡ Some next → reached state (tokens ++ x ∷ []) ≡ Some next
reached-next state [] to next x e f =
    let same : state ≡ to = cc in
    ap (λ s. option_and_then (λ u. reached u []) (step s x)) same ∙ ap (λ s. option_and_then (λ u. reached u []) s) f
reached-next state (y ∷ tokens) to next x e f =
    elim (step state y) as (λ r. option_and_then (λ u. reached u tokens) r ≡ Some to → option_and_then (λ u. reached u (tokens ++ x ∷ [])) r ≡ Some next) [
      | None ↦ λ g. cc
      | Some s ↦ λ g. reached-next s tokens to next x g f
    ] e

-- what the text is read to
module _ (formula next rest : List ℕ) (ahead : List Token) (state : State) (d : TokensThen formula ahead next) (e : reached start ahead ≡ Some state) (r : rest ≡ after_while is_blank next) where
  no_blank : begins_with_any is_blank rest ≡ false
  no_blank = ap (begins_with_any is_blank) r ∙ after_blanks-no_blank next

  nothing : (cs : List ℕ) → (length cs == 0) ≡ true → cs ≡ []
  nothing [] h = refl
  nothing (c ∷ cs) h = let none = eqb-true (length (c ∷ cs)) 0 h in absurd (omega (arith, none))

  -- at the end
  at-end : (length rest == 0) ≡ true → TokensThen formula ahead []
  at-end h = subst (λ cs. TokensThen formula ahead cs) (nothing rest h) (then-blanks formula next rest ahead d r)

  pub ends-whole : (length rest == 0) ≡ true → is_whole state.0 state.1 ≡ true → IsFormula (61 ∷ formula)
  ends-whole h w home find =
      let all = reached-whole ahead state e w home find in
      (all.0, ((ahead, (refl, then-all (at-end h) refl, all.1.0)), all.1.1))

  pub ends-early : (length rest == 0) ≡ true → is_whole state.0 state.1 ≡ false → GoesWrongBefore formula rest rest
  ends-early h w =
      subst (λ cs. GoesWrongBefore formula cs cs) (sym (nothing rest h)) (at_end (at-end h) (reached-front ahead state e) (not-whole state ahead e w))

  -- where no token begins
  stray-by : (cs : List ℕ) → rest ≡ cs → (length cs == 0) ≡ false → None ≡ front_of cs → GoesWrongBefore formula cs []
  stray-by [] g h f = absurd (cc)
  stray-by (c ∷ cs) g h f =
      at_no_token (subst (λ ds. TokensThen formula ahead ds) g (then-blanks formula next rest ahead d r)) (sym (ap (begins_with_any is_blank) g) ∙ no_blank) (sym f) (reached-front ahead state e)

  pub stray : (length rest == 0) ≡ false → None ≡ front_of rest → GoesWrongBefore formula rest []
  stray h f = stray-by rest refl h f

  -- at a token that isn't taken
  refused-by : (cs : List ℕ) (x : Token) (behind : List ℕ) → rest ≡ cs → Some (x, behind) ≡ front_of cs → None ≡ step state x → GoesWrongBefore formula cs behind
  refused-by [] x behind g f s = absurd (cc)
  refused-by (c ∷ cs) x behind g f s =
      at_token (subst (λ ds. TokensThen formula ahead ds) g (then-blanks formula next rest ahead d r)) (sym (ap (begins_with_any is_blank) g) ∙ no_blank) (sym f) (reached-front ahead state e)
      (not-taken state ahead x e (sym s))

  pub refused : (x : Token) (behind : List ℕ) → Some (x, behind) ≡ front_of rest → None ≡ step state x → GoesWrongBefore formula rest behind
  refused x behind f s = refused-by rest x behind refl f s

  -- behind a token that is taken
  taken-by : (cs : List ℕ) (x : Token) (behind : List ℕ) → rest ≡ cs → Some (x, behind) ≡ front_of cs → TokensThen formula (ahead ++ x ∷ []) behind × (length behind < length next)
  taken-by [] x behind g f = absurd (cc)
  taken-by (c ∷ cs) x behind g f =
      let less = short-rest (length cs) (token_at c cs) x behind (token_at-shorter c cs) (sym f) in
      let all = then-shorter (blanks-then next) in
      let same : length (after_while is_blank next) ≡ suc (length cs) = ap length (sym r ∙ g) in
      (then-append (subst (λ ds. TokensThen formula ahead ds) g (then-blanks formula next rest ahead d r)) (a_token (sym (ap (begins_with_any is_blank) g) ∙ no_blank) (sym f) all_rest), omega (arith, less, all, same))

  pub taken : (x : Token) (behind : List ℕ) (to : State) → Some (x, behind) ≡ front_of rest → Some to ≡ step state x
      → (tokens : List Token) × TokensThen formula tokens behind × (reached start tokens ≡ Some to)
  taken x behind to f s = (ahead ++ x ∷ [], (taken-by rest x behind refl f).0, reached-next start ahead state to x e (sym s))

  pub taken-shorter : (x : Token) (behind : List ℕ) → Some (x, behind) ≡ front_of rest → length behind < length next
  taken-shorter x behind f = (taken-by rest x behind refl f).1

-- the place is a part of the text
pub wrong-within : {formula rest behind : List ℕ} → GoesWrongBefore formula rest behind → (length rest ≤ length formula) × (length behind ≤ length rest)
wrong-within (at_token {c = c} {cs = cs} {x = x} {behind = behind} d b t f n) =
    let less = short-rest (length cs) (token_at c cs) x behind (token_at-shorter c cs) t in
    (then-shorter d, omega (arith, less))
wrong-within (at_no_token d b t f) = (then-shorter d, omega arith)
wrong-within (at_end d f n) = (then-shorter d, omega arith)

-- a text that begins with `=`
stripped-by : (b : Bool) (c : ℕ) (cs formula : List ℕ) → (c == 61) ≡ b → Some formula ≡ (if b then Some cs else None) → c ∷ cs ≡ 61 ∷ formula
stripped-by true c cs formula e f =
    let first : c ≡ 61 = eqb-true c 61 e in
    let same : formula ≡ cs = cc in
    rw (first, same) refl
stripped-by false c cs formula e f = absurd (cc)

pub stripped : (text formula : List ℕ) → Some formula ≡ strip_prefix 61 text → text ≡ 61 ∷ formula
stripped [] formula e = absurd (cc)
stripped (c ∷ cs) formula e = stripped-by (c == 61) c cs formula refl e

-- the place of the wrong token
pub wrong-there : (text formula rest behind : List ℕ) (span : TextSpan) → Some formula ≡ strip_prefix 61 text → GoesWrongBefore formula rest behind
    → span.at ≡ length text - length rest → span.length ≡ length rest - length behind → GoesWrongAt text span
wrong-there text formula rest behind span e w f g =
    let same = stripped text formula e in
    let more : length text ≡ suc (length formula) = ap length same in
    let within = wrong-within w in
    behind_equals same w (omega (arith, within, f, more)) (omega (arith, within, g))
