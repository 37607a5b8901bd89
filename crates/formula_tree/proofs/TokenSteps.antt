-- The tokens of a text, one step at a time, with no count of steps. Serves the lexer, and the law that a
-- text's tree is proper.
use Rattle.std.proofs.Common.{◌≡◌, ◌∙◌, ap, refl, arith, ℕ, zero, suc, ◌+◌, ◌<◌, ◌≤◌, Bool, true, false, ◌==◌, cond, if◌then◌else◌, List, [], ◌∷◌, length, take, drop, Option, Some, None, option_map, length-drop}
use Rattle.std.specs.Option.{option_and_then}
use Rattle.std.specs.List.{prefix_len, take_while, find}
use Rattle.std.proofs.lemmas.Bool.Decides.{nat_tests}
use Rattle.digits.specs.Digits.{is_digit}
use Rattle.cell_addr.specs.declared.place.TheConstants.{ROWS}
use Rattle.cell_addr.specs.Parts.{with_byte}
use Rattle.cell_value.specs.declared.fault.FaultKind.{FaultKind}
use Rattle.cell_value.specs.declared.fault.FaultKind.TheVariants as kinds
use Rattle.cell_value.specs.Fault.{fault_text, faults}
use Rattle.formula_tree.specs.declared.operator.Op.{Op}
use Rattle.formula_tree.specs.Token.{Token}
use Rattle.formula_tree.specs.Token as tok
use Rattle.formula_tree.specs.Laws.{TokensFollow}
use Rattle.formula_tree.specs.Run.{is_blank, begins_run, is_run_byte, begins_with, after_while, is_word, corner_by, lone_token, ends_sheet_name, is_sheet_run, run_token_by}
use Rattle.cell_addr.specs.Quoted.{quoted}
use Rattle.formula_tree.specs.Tokens.{Front, number_length, begins_number, text_token, sheet_token, begins_with_fault, fault_token, byte_token, pair_op, sign_token, token_by, token_at, and_tokens, tokens_step_by, tokens_in_by, tokens_by, tokens_of}

-- what follows a token is no longer than this
abbrev pub Short : ℕ → Front → Type 0
Short n None = Unit {0}
Short n (Some p) = length p.1 ≤ n

short-cond : (n : ℕ) (b : Bool) (x y : Front) → (b ≡ true → Short n x) → (b ≡ false → Short n y) → Short n (cond b x y)
short-cond n true x y h g = h refl
short-cond n false x y h g = g refl

pub run-goes_on : (c : ℕ) → begins_run c ≡ true → is_run_byte c ≡ true
run-goes_on c h = grind (arith, nat_tests)

after_while-shorter : (p : ℕ → Bool) (c : ℕ) (cs : List ℕ) → p c ≡ true → length (after_while p (c ∷ cs)) ≤ length cs
after_while-shorter p c cs h = rw h (omega (arith, length-drop (1 + prefix_len p cs) (c ∷ cs)))

-- the choices of a run's token
abbrev pub chosen : Bool → Bool → Bool → Token → Token → Token → Token → List ℕ → Token × List ℕ
chosen b d e sheet word other lone cs = if b then (sheet, drop 1 cs) else (if d then (if e then (word, cs) else (other, cs)) else (lone, cs))

chosen-shorter : (b d e : Bool) (sheet word other lone : Token) (cs : List ℕ) → length (chosen b d e sheet word other lone cs).1 ≤ length cs
chosen-shorter true d e sheet word other lone cs = omega (arith, length-drop 1 cs)
chosen-shorter false true true sheet word other lone cs = omega arith
chosen-shorter false true false sheet word other lone cs = omega arith
chosen-shorter false false e sheet word other lone cs = omega arith

run_token-shorter : (rows : ℕ) (w cs : List ℕ) → length (run_token_by rows w cs).1 ≤ length cs
run_token-shorter rows w cs =
    chosen-shorter (is_sheet_run w cs) (begins_with 40 (after_while is_blank cs)) (is_word w) (tok.Sheet w) (tok.Word w) (tok.Other w) (lone_token w (corner_by rows w)) cs

short-run : (rows c : ℕ) (cs : List ℕ) → begins_run c ≡ true → Short (length cs) (Some (run_token_by rows (take_while is_run_byte (c ∷ cs)) (after_while is_run_byte (c ∷ cs))))
short-run rows c cs h =
    let a = run_token-shorter rows (take_while is_run_byte (c ∷ cs)) (after_while is_run_byte (c ∷ cs)) in
    let b = after_while-shorter is_run_byte c cs (run-goes_on c h) in
    omega (arith, a, b)

pub number_length-by : (c : ℕ) (cs : List ℕ) (b d : Bool) → is_digit c ≡ b → (c == 46) ≡ d → begins_number (c ∷ cs) ≡ true → 1 ≤ number_length (c ∷ cs)
number_length-by c cs true d e f h = rw e (omega arith)
number_length-by c cs false true e f h = rw (e, f) (omega arith)
number_length-by c cs false false e f h = let k : begins_number (c ∷ cs) ≡ false = rw (e, f) refl in cc

short-number : (c : ℕ) (cs : List ℕ) (token : Token) → begins_number (c ∷ cs) ≡ true → Short (length cs) (Some (token, drop (number_length (c ∷ cs)) (c ∷ cs)))
short-number c cs token h =
    let some = number_length-by c cs (is_digit c) (c == 46) refl refl h in
    omega (arith, some, length-drop (number_length (c ∷ cs)) (c ∷ cs))

-- what follows quotes
abbrev ShortParts : ℕ → Option (List ℕ × List ℕ) → Type 0
ShortParts n None = Unit {0}
ShortParts n (Some p) = length p.1 ≤ n

parts-byte : (n m c : ℕ) (parts : Option (List ℕ × List ℕ)) → n ≤ m → ShortParts n parts → ShortParts m (with_byte c parts)
parts-byte n m c None h s = tt
parts-byte n m c (Some p) h s = omega arith

parts-cond : (n : ℕ) (b : Bool) (x y : Option (List ℕ × List ℕ)) → ShortParts n x → ShortParts n y → ShortParts n (cond b x y)
parts-cond n true x y h g = h
parts-cond n false x y h g = g

quoted-shorter : (q : ℕ) (cs : List ℕ) → ShortParts (length cs) (quoted q cs)
quoted-shorter q [] = tt
quoted-shorter q (c ∷ []) = parts-cond 1 (c == q) (Some ([], [])) None (omega arith) tt
quoted-shorter q (c ∷ d ∷ cs) =
    parts-cond (length (c ∷ d ∷ cs)) (c == q) _ _
    (parts-cond (length (c ∷ d ∷ cs)) (d == q) _ _ (parts-byte (length cs) (length (c ∷ d ∷ cs)) q (quoted q cs) (omega arith) (quoted-shorter q cs)) (omega arith))
    (parts-byte (length (d ∷ cs)) (length (c ∷ d ∷ cs)) c (quoted q (d ∷ cs)) (omega arith) (quoted-shorter q (d ∷ cs)))

short-text : (n : ℕ) (parts : Option (List ℕ × List ℕ)) → ShortParts n parts → Short n (option_map text_token parts)
short-text n None s = tt
short-text n (Some p) s = s

sheet_token-shorter : (n : ℕ) (b : Bool) (token : Token) (cs : List ℕ) → length cs ≤ n → Short n (if b then Some (token, drop 1 cs) else None)
sheet_token-shorter n true token cs h = omega (arith, length-drop 1 cs)
sheet_token-shorter n false token cs h = tt

short-sheet : (n : ℕ) (parts : Option (List ℕ × List ℕ)) → ShortParts n parts → Short n (option_and_then sheet_token parts)
short-sheet n None s = tt
short-sheet n (Some (content, cs)) s = sheet_token-shorter n (ends_sheet_name cs) _ cs s

pub fault_text-some : (f : FaultKind) → 1 ≤ length (fault_text f)
fault_text-some kinds.Div0 = omega arith
fault_text-some kinds.Name = omega arith
fault_text-some kinds.Value = omega arith
fault_text-some kinds.Num = omega arith
fault_text-some kinds.Na = omega arith
fault_text-some kinds.Cycle = omega arith
fault_text-some kinds.Ref = omega arith
fault_text-some kinds.Error = omega arith

short-fault : (c : ℕ) (cs : List ℕ) (r : Option FaultKind) → Short (length cs) (option_map (fault_token (c ∷ cs)) r)
short-fault c cs None = tt
short-fault c cs (Some f) = omega (arith, fault_text-some f, length-drop (length (fault_text f)) (c ∷ cs))

short-byte : (cs : List ℕ) (r : Option Token) → Short (length cs) (option_map (λ token. (token, cs)) r)
short-byte cs None = tt
short-byte cs (Some token) = omega arith

short-sign : (o : Option Op) (c : ℕ) (cs : List ℕ) → Short (length cs) (sign_token o c cs)
short-sign (Some o) c cs = omega (arith, length-drop 1 cs)
short-sign None c cs = short-byte cs (byte_token c)

-- a token takes a byte or more
pub token_by-shorter : (rows c : ℕ) (cs : List ℕ) → Short (length cs) (token_by rows c cs)
token_by-shorter rows c cs =
    short-cond (length cs) (begins_run c) _ _ (λ h. short-run rows c cs h) (λ _.
    short-cond (length cs) (begins_number (c ∷ cs)) _ _ (λ h. short-number c cs (tok.Number (take (number_length (c ∷ cs)) (c ∷ cs))) h) (λ _.
    short-cond (length cs) (c == 34) _ _ (λ _. short-text (length cs) (quoted 34 cs) (quoted-shorter 34 cs)) (λ _.
    short-cond (length cs) (c == 39) _ _ (λ _. short-sheet (length cs) (quoted 39 cs) (quoted-shorter 39 cs)) (λ _.
    short-cond (length cs) (c == 35) _ _ (λ _. short-fault c cs (find (begins_with_fault (c ∷ cs)) faults)) (λ _. short-sign (pair_op c cs) c cs)))))

pub token_at-shorter : (c : ℕ) (cs : List ℕ) → Short (length cs) (token_at c cs)
token_at-shorter c cs = token_by-shorter ROWS c cs

-- two ways of reading on that agree on shorter texts
and_tokens-agree : (n : ℕ) (front : Front) (f g : List ℕ → Option (List Token)) → Short n front → ((cs : List ℕ) → length cs ≤ n → f cs ≡ g cs) → and_tokens front f ≡ and_tokens front g
and_tokens-agree n None f g s h = refl
and_tokens-agree n (Some p) f g s h = ap (option_map (λ tokens. p.0 ∷ tokens)) (h p.1 s)

tokens_step-agree : (rows c : ℕ) (cs : List ℕ) (f g : List ℕ → Option (List Token)) → ((ds : List ℕ) → length ds ≤ length cs → f ds ≡ g ds)
    → tokens_step_by rows f (c ∷ cs) ≡ tokens_step_by rows g (c ∷ cs)
tokens_step-agree rows c cs f g h =
    ap (λ x. cond (is_blank c) x (and_tokens (token_by rows c cs) f)) (h cs (omega arith))
    ∙ ap (λ y. cond (is_blank c) (g cs) y) (and_tokens-agree (length cs) (token_by rows c cs) f g (token_by-shorter rows c cs) h)

-- as many steps as the text has bytes, and one more, are enough
tokens_in-enough : (rows n m : ℕ) (cs : List ℕ) → length cs < n → length cs < m → tokens_in_by rows n cs ≡ tokens_in_by rows m cs
unfolding tokens_in_by
tokens_in-enough rows zero m cs h g = absurd (omega arith)
tokens_in-enough rows (suc n) zero cs h g = absurd (omega arith)
tokens_in-enough rows (suc n) (suc m) [] h g = refl
tokens_in-enough rows (suc n) (suc m) (c ∷ cs) h g =
    tokens_step-agree rows c cs (tokens_in_by rows n) (tokens_in_by rows m) (λ ds k. tokens_in-enough rows n m ds (omega arith) (omega arith))

pub tokens_by-nil : (rows : ℕ) → tokens_by rows [] ≡ Some []
unfolding tokens_in_by
tokens_by-nil rows = refl

-- the tokens of a text by its first byte: a blank means nothing, and each other byte begins a token
pub tokens_by-step : (rows c : ℕ) (cs : List ℕ) → tokens_by rows (c ∷ cs) ≡ tokens_step_by rows (tokens_by rows) (c ∷ cs)
unfolding tokens_in_by
tokens_by-step rows c cs =
    let e : length (c ∷ cs) + 1 ≡ suc (length (c ∷ cs)) = omega arith in
    ap (λ n. tokens_in_by rows n (c ∷ cs)) e
    ∙ tokens_step-agree rows c cs (tokens_in_by rows (length (c ∷ cs))) (tokens_by rows)
    (λ ds k. tokens_in-enough rows (length (c ∷ cs)) (length ds + 1) ds (omega arith) (omega arith))

-- a blank means nothing
pub tokens_by-blank : (rows c : ℕ) (cs : List ℕ) → is_blank c ≡ true → tokens_by rows (c ∷ cs) ≡ tokens_by rows cs
tokens_by-blank rows c cs b = tokens_by-step rows c cs ∙ ap (λ x. cond x (tokens_by rows cs) (and_tokens (token_by rows c cs) (tokens_by rows))) b

-- each token stands in front of those of what follows it
pub tokens_by-token : (rows c : ℕ) (cs : List ℕ) (token : Token) (rest : List ℕ) → is_blank c ≡ false → token_by rows c cs ≡ Some (token, rest)
    → tokens_by rows (c ∷ cs) ≡ option_map (λ tokens. token ∷ tokens) (tokens_by rows rest)
tokens_by-token rows c cs token rest b e =
    tokens_by-step rows c cs ∙ ap (λ x. cond x (tokens_by rows cs) (and_tokens (token_by rows c cs) (tokens_by rows))) b
    ∙ ap (λ front. and_tokens front (tokens_by rows)) e

-- and where none begins there are no tokens
pub tokens_by-other : (rows c : ℕ) (cs : List ℕ) → is_blank c ≡ false → token_by rows c cs ≡ None → tokens_by rows (c ∷ cs) ≡ None
tokens_by-other rows c cs b e =
    tokens_by-step rows c cs ∙ ap (λ x. cond x (tokens_by rows cs) (and_tokens (token_by rows c cs) (tokens_by rows))) b
    ∙ ap (λ front. and_tokens front (tokens_by rows)) e

pub tokens_of-nil : tokens_of [] ≡ Some []
tokens_of-nil = tokens_by-nil ROWS

pub tokens_of-step : (c : ℕ) (cs : List ℕ) → tokens_of (c ∷ cs) ≡ tokens_step_by ROWS tokens_of (c ∷ cs)
tokens_of-step c cs = tokens_by-step ROWS c cs

pub tokens_follow : TokensFollow
tokens_follow = record {
  none = tokens_of-nil;
  blank = λ c cs b. tokens_by-blank ROWS c cs b;
  token = λ c cs token rest b e. tokens_by-token ROWS c cs token rest b e;
  other = λ c cs b e. tokens_by-other ROWS c cs b e;
}
