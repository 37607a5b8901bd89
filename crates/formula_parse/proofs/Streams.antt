-- The tokens that are read from a text, one step at a time, with no count of steps. Serves the lexer.
use Rattle.std.proofs.Common.{◌≡◌, ◌∙◌, sym, ap, refl, arith, subst, ℕ, zero, suc, ◌+◌, ◌<◌, ◌≤◌, Bool, true, false, cond, ◌==◌, List, [], ◌∷◌, length, drop, Option, Some, None, option_map}
use Rattle.std.specs.List.{prefix_len, take_while}
use Rattle.std.proofs.lemmas.Bool.{cond-true, cond-false, eqb-true}
use Rattle.formula_tree.specs.Token.{Token}
use Rattle.formula_tree.specs.Token as tok
use Rattle.formula_tree.specs.Run.{is_blank, begins_run, is_run_byte, begins_with_any, after_while, run_token}
use Rattle.formula_tree.specs.Tokens.{Front, token_at, and_tokens, tokens_of}
use Rattle.formula_tree.proofs.TokenSteps.{Short, token_at-shorter, tokens_of-nil, tokens_of-step}
use Rattle.formula_tree.proofs.FitTokens.{IsFit, FitFront, fit-token_at}
use Rattle.formula_parse.specs.internal.Front.{HasAddressInside, front_of}
use Rattle.formula_parse.specs.internal.Stream.{and_stream, stream_step, stream_in, stream}

-- two ways of reading on that agree on shorter texts
and_stream-agree : (n : ℕ) (front : Front) (f g : List ℕ → List Token) → Short n front → ((cs : List ℕ) → length cs ≤ n → f cs ≡ g cs) → and_stream front f ≡ and_stream front g
and_stream-agree n None f g s h = refl
and_stream-agree n (Some p) f g s h = ap (λ tokens. p.0 ∷ tokens) (h p.1 s)

stream_step-agree : (c : ℕ) (cs : List ℕ) (f g : List ℕ → List Token) → ((ds : List ℕ) → length ds ≤ length cs → f ds ≡ g ds) → stream_step f (c ∷ cs) ≡ stream_step g (c ∷ cs)
stream_step-agree c cs f g h =
    ap (λ x. cond (is_blank c) x (and_stream (token_at c cs) f)) (h cs (omega arith))
    ∙ ap (λ y. cond (is_blank c) (g cs) y) (and_stream-agree (length cs) (token_at c cs) f g (token_at-shorter c cs) h)

-- as many steps as the text has bytes, and one more, are enough
stream_in-enough : (n m : ℕ) (cs : List ℕ) → length cs < n → length cs < m → stream_in n cs ≡ stream_in m cs
unfolding stream_in
stream_in-enough zero m cs h g = absurd (omega arith)
stream_in-enough (suc n) zero cs h g = absurd (omega arith)
stream_in-enough (suc n) (suc m) [] h g = refl
stream_in-enough (suc n) (suc m) (c ∷ cs) h g =
    stream_step-agree c cs (stream_in n) (stream_in m) (λ ds k. stream_in-enough n m ds (omega arith) (omega arith))

pub stream-nil : stream [] ≡ []
unfolding stream_in
stream-nil = refl

-- the tokens of a text by its first byte
pub stream-step : (c : ℕ) (cs : List ℕ) → stream (c ∷ cs) ≡ stream_step stream (c ∷ cs)
unfolding stream_in
stream-step c cs =
    let e : length (c ∷ cs) + 1 ≡ suc (length (c ∷ cs)) = omega arith in
    ap (λ n. stream_in n (c ∷ cs)) e
    ∙ stream_step-agree c cs (stream_in (length (c ∷ cs))) stream (λ ds k. stream_in-enough (length (c ∷ cs)) (length ds + 1) ds (omega arith) (omega arith))

-- blanks mean nothing
blanks-by : (b : Bool) (c : ℕ) (cs : List ℕ) → is_blank c ≡ b → stream (after_while is_blank cs) ≡ stream cs → stream (drop (cond b (1 + prefix_len is_blank cs) 0) (c ∷ cs)) ≡ stream (c ∷ cs)
blanks-by true c cs e h =
    let more : 1 + prefix_len is_blank cs ≡ suc (prefix_len is_blank cs) = omega arith in
    rw more (h ∙ sym (stream-step c cs ∙ cond-true (is_blank c) _ _ e))
blanks-by false c cs e h = refl

pub stream-after_blanks : (cs : List ℕ) → stream (after_while is_blank cs) ≡ stream cs
stream-after_blanks [] = refl
stream-after_blanks (c ∷ cs) = blanks-by (is_blank c) c cs refl (stream-after_blanks cs)

-- and no blank follows them
no_blank-by : (b : Bool) (c : ℕ) (cs : List ℕ) → is_blank c ≡ b → begins_with_any is_blank (after_while is_blank cs) ≡ false → begins_with_any is_blank (drop (cond b (1 + prefix_len is_blank cs) 0) (c ∷ cs)) ≡ false
no_blank-by true c cs e h = let more : 1 + prefix_len is_blank cs ≡ suc (prefix_len is_blank cs) = omega arith in rw more h
no_blank-by false c cs e h = e

pub after_blanks-no_blank : (cs : List ℕ) → begins_with_any is_blank (after_while is_blank cs) ≡ false
after_blanks-no_blank [] = refl
after_blanks-no_blank (c ∷ cs) = no_blank-by (is_blank c) c cs refl (after_blanks-no_blank cs)

-- a text that doesn't begin with a blank begins with its first token, or with none
pub stream-not_blank : (c : ℕ) (cs : List ℕ) → is_blank c ≡ false → stream (c ∷ cs) ≡ and_stream (token_at c cs) stream
stream-not_blank c cs h = stream-step c cs ∙ cond-false (is_blank c) _ _ h

-- the first token of a text, by what follows its blanks
front-of : (cs : List ℕ) (front : Front) → begins_with_any is_blank cs ≡ false → (length cs == 0) ≡ false → front ≡ front_of cs → stream cs ≡ and_stream front stream
front-of [] front h some e = absurd (cc)
front-of (c ∷ cs) front h some e = stream-not_blank c cs h ∙ ap (λ f. and_stream f stream) (sym e)

pub stream-front : (text rest : List ℕ) (front : Front) → rest ≡ after_while is_blank text → (length rest == 0) ≡ false → front ≡ front_of rest → stream text ≡ and_stream front stream
stream-front text rest front r some e =
    sym (stream-after_blanks text) ∙ ap stream (sym r) ∙ front-of rest front (ap (begins_with_any is_blank) r ∙ after_blanks-no_blank text) some e

nil-of : (cs : List ℕ) → (length cs == 0) ≡ true → stream cs ≡ []
nil-of [] e = stream-nil
nil-of (c ∷ cs) e = let none = eqb-true (length (c ∷ cs)) 0 e in absurd (omega (arith, none))

pub stream-blank : (text rest : List ℕ) → rest ≡ after_while is_blank text → (length rest == 0) ≡ true → stream text ≡ []
stream-blank text rest r none = sym (stream-after_blanks text) ∙ ap stream (sym r) ∙ nil-of rest none

-- a text that begins with a run
pub front_of-run : (cs run rest : List ℕ) → begins_with_any begins_run cs ≡ true → run ≡ take_while is_run_byte cs → rest ≡ after_while is_run_byte cs → front_of cs ≡ Some (run_token run rest)
front_of-run [] run rest h e f = cc
front_of-run (c ∷ cs) run rest h e f = rw (h, e, f) refl

-- its address lies within the limits
abbrev FrontInside : Front → Type 0
FrontInside None = Unit {0}
FrontInside (Some p) = HasAddressInside p.0

fit-inside : (token : Token) → IsFit token → HasAddressInside token
fit-inside (tok.Corner a) f = f
fit-inside token f = tt

front-inside : (front : Front) → FitFront front → FrontInside front
front-inside None f = tt
front-inside (Some p) f = fit-inside p.0 f

pub front_of-inside : (cs : List ℕ) (token : Token) (rest : List ℕ) → Some (token, rest) ≡ front_of cs → HasAddressInside token
front_of-inside [] token rest e = absurd (cc)
front_of-inside (c ∷ cs) token rest e = subst FrontInside (sym e) (front-inside (token_at c cs) (fit-token_at c cs))

-- the token that stands for what begins none, which no production takes
abbrev pub has_other : List Token → Bool
has_other [] = false
has_other (tok.Other [] ∷ tokens) = true
has_other (token ∷ tokens) = has_other tokens

-- where the text is made of tokens, these are read; else one is read that no production takes
abbrev pub Streams : Option (List Token) → List Token → Type 0
Streams None read = has_other read ≡ true
Streams (Some tokens) read = read ≡ tokens

more-other : (token : Token) (tokens : List Token) → has_other tokens ≡ true → has_other (token ∷ tokens) ≡ true
more-other (tok.Number w) tokens h = h
more-other (tok.Text w) tokens h = h
more-other (tok.Truth b) tokens h = h
more-other (tok.Fault f) tokens h = h
more-other (tok.Sheet w) tokens h = h
more-other (tok.Corner a) tokens h = h
more-other (tok.Name w) tokens h = h
more-other (tok.Word w) tokens h = h
more-other (tok.Other []) tokens h = refl
more-other (tok.Other (c ∷ cs)) tokens h = h
more-other (tok.Operator o) tokens h = h
more-other tok.Percent tokens h = h
more-other tok.Colon tokens h = h
more-other tok.Comma tokens h = h
more-other tok.Open tokens h = h
more-other tok.Close tokens h = h

streams-next : (token : Token) (r : Option (List Token)) (read : List Token) → Streams r read → Streams (option_map (λ tokens. token ∷ tokens) r) (token ∷ read)
streams-next token None read s = more-other token read s
streams-next token (Some tokens) read s = ap (λ ts. token ∷ ts) s

streams-front : (n : ℕ) (front : Front) → Short n front → ((cs : List ℕ) → length cs ≤ n → Streams (tokens_of cs) (stream cs)) → Streams (and_tokens front tokens_of) (and_stream front stream)
streams-front n None s h = refl
streams-front n (Some p) s h = streams-next p.0 (tokens_of p.1) (stream p.1) (h p.1 s)

streams-cond : (b : Bool) (x y : Option (List Token)) (v w : List Token) → Streams x v → Streams y w → Streams (cond b x y) (cond b v w)
streams-cond true x y v w h g = h
streams-cond false x y v w h g = g

streams-in : (n : ℕ) (cs : List ℕ) → length cs ≤ n → Streams (tokens_of cs) (stream cs)
streams-in n [] h = rw (tokens_of-nil, stream-nil) refl
streams-in zero (c ∷ cs) h = absurd (omega arith)
streams-in (suc n) (c ∷ cs) h =
    rw (tokens_of-step c cs, stream-step c cs)
    (streams-cond (is_blank c) _ _ _ _ (streams-in n cs (omega arith)) (streams-front (length cs) (token_at c cs) (token_at-shorter c cs) (λ ds k. streams-in n ds (omega arith))))

pub text-streams : (cs : List ℕ) → Streams (tokens_of cs) (stream cs)
text-streams cs = streams-in (length cs) cs (omega arith)
