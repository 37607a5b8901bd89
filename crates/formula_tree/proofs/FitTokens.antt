-- What the tokens of a text hold: numbers without a sign, addresses within the limits, names and words of
-- their form. Serves the law that a text's tree is proper.
use Rattle.std.proofs.Common.{◌≡◌, subst, refl, arith, ℕ, zero, suc, ◌<◌, Bool, true, false, ◌&&◌, ◌||◌, ◌==◌, nat_lt, cond, if◌then◌else◌, List, [], ◌∷◌, take, drop, Option, Some, None, option_map}
use Rattle.std.specs.Option.{option_and_then}
use Rattle.std.specs.List.{take_while, find}
use Rattle.std.proofs.lemmas.Bool.{and_parts, ltb-true}
use Rattle.std.proofs.lemmas.Bool.Decides.{nat_tests}
use Rattle.digits.specs.Digits.{is_digit}
use Rattle.cell_addr.specs.declared.place.TheConstants.{ROWS, COLS}
use Rattle.cell_addr.specs.Address.{letters, after_letters, column_of, row_of}
use Rattle.std.specs.Option.{option_zip}
use Rattle.cell_value.specs.declared.fault.FaultKind.{FaultKind}
use Rattle.cell_value.specs.Fault.{faults}
use Rattle.fix_num.specs.Text.{has_minus}
use Rattle.formula_tree.specs.declared.operator.Op.{Op}
use Rattle.formula_tree.specs.declared.address.Address.{Address}
use Rattle.formula_tree.specs.Token.{Token}
use Rattle.formula_tree.specs.Token as tok
use Rattle.formula_tree.specs.Run.{is_blank, begins_run, is_run_byte, begins_with, begins_with_any, after_while, is_word, after_dollar, address_at, corner_of, truth_of, word_token, lone_token, ends_sheet_name, is_sheet_run, run_token}
use Rattle.cell_addr.specs.Quoted.{quoted}
use Rattle.formula_tree.specs.Tokens.{Front, number_length, begins_number, text_token, sheet_token, begins_with_fault, fault_token, byte_token, pair_op, sign_token, token_at, and_tokens, tokens_in, tokens_in_by}
use Rattle.formula_tree.specs.Proper.{IsName}
use Rattle.formula_tree.proofs.TokenSteps.{chosen}

-- what a token of a text holds
abbrev pub IsFit : Token → Type 0
IsFit (tok.Number w) = has_minus w ≡ false
IsFit (tok.Corner a) = (a.row < ROWS) × (a.col < COLS)
IsFit (tok.Name w) = IsName w
IsFit (tok.Word w) = is_word w ≡ true
IsFit token = Unit {0}

abbrev pub AreFit : List Token → Type 0
AreFit [] = Unit {0}
AreFit (token ∷ tokens) = IsFit token × AreFit tokens

abbrev pub FitFront : Front → Type 0
FitFront None = Unit {0}
FitFront (Some p) = IsFit p.0

abbrev FitAll : Option (List Token) → Type 0
FitAll None = Unit {0}
FitAll (Some tokens) = AreFit tokens

-- addresses lie within the limits
abbrev FitCorner : Option Address → Type 0
FitCorner None = Unit {0}
FitCorner (Some a) = (a.row < ROWS) × (a.col < COLS)

fit-limits : (b : Bool) (a : Address) → (b ≡ true → (a.row < ROWS) × (a.col < COLS)) → FitCorner (if b then Some a else None)
fit-limits true a h = h refl
fit-limits false a h = tt

fit-address : (f g : Bool) (row col : ℕ) → FitCorner (address_at f g (row, col))
fit-address f g row col =
    fit-limits (nat_lt row ROWS && nat_lt col COLS) (record { row = row; col = col; row_fixed = g; col_fixed = f })
    (λ h. let parts = and_parts (nat_lt row ROWS) (nat_lt col COLS) h in (ltb-true row ROWS parts.0, ltb-true col COLS parts.1))

fit-both : (f g : Bool) (r : Option (ℕ × ℕ)) → FitCorner (option_and_then (address_at f g) r)
fit-both f g None = tt
fit-both f g (Some p) = fit-address f g p.0 p.1

fit-corner_of : (w : List ℕ) → FitCorner (corner_of w)
fit-corner_of w =
    let rest = after_letters (after_dollar w) in
    fit-both (begins_with 36 w) (begins_with 36 rest) (option_zip (row_of (after_dollar rest)) (column_of (letters (after_dollar w))))

-- runs
fit-named : (b : Bool) (w : List ℕ) → is_word w ≡ b → corner_of w ≡ None → truth_of w ≡ None → IsFit (if b then tok.Name w else tok.Other w)
fit-named true w h e f = (h, e, f)
fit-named false w h e f = tt

fit-word : (w : List ℕ) (r : Option Bool) → corner_of w ≡ None → truth_of w ≡ r → IsFit (word_token w r)
fit-word w (Some b) e f = tt
fit-word w None e f = fit-named (is_word w) w refl e f

fit-lone : (w : List ℕ) (r : Option Address) → corner_of w ≡ r → FitCorner r → IsFit (lone_token w r)
fit-lone w (Some a) e h = h
fit-lone w None e h = fit-word w (truth_of w) e refl

fit-chosen : (b d e : Bool) (w cs : List ℕ) (lone : Token) → is_word w ≡ e → IsFit lone → IsFit (chosen b d e (tok.Sheet w) (tok.Word w) (tok.Other w) lone cs).0
fit-chosen true d e w cs lone h f = tt
fit-chosen false true true w cs lone h f = h
fit-chosen false true false w cs lone h f = tt
fit-chosen false false e w cs lone h f = f

fit-run : (w cs : List ℕ) → FitFront (Some (run_token w cs))
fit-run w cs =
    fit-chosen (is_sheet_run w cs) (begins_with 40 (after_while is_blank cs)) (is_word w) w cs (lone_token w (corner_of w)) refl (fit-lone w (corner_of w) refl (fit-corner_of w))

-- numbers have no sign
number-no_minus : (c : ℕ) (b : Bool) → (is_digit c || (c == 46 && b)) ≡ true → (c == 45) ≡ false
number-no_minus c b h = grind (arith, nat_tests)

fit-number : (c : ℕ) (cs : List ℕ) (n : ℕ) → begins_number (c ∷ cs) ≡ true → has_minus (take n (c ∷ cs)) ≡ false
fit-number c cs zero h = refl
fit-number c cs (suc n) h = number-no_minus c (begins_with_any is_digit cs) h

fit-text : (r : Option (List ℕ × List ℕ)) → FitFront (option_map text_token r)
fit-text None = tt
fit-text (Some p) = tt

fit-sheet_name : (b : Bool) (content cs : List ℕ) → FitFront (if b then Some (tok.Sheet content, cs) else None)
fit-sheet_name true content cs = tt
fit-sheet_name false content cs = tt

fit-sheet : (r : Option (List ℕ × List ℕ)) → FitFront (option_and_then sheet_token r)
fit-sheet None = tt
fit-sheet (Some (content, cs)) = fit-sheet_name (ends_sheet_name cs) content (drop 1 cs)

fit-fault : (cs : List ℕ) (r : Option FaultKind) → FitFront (option_map (fault_token cs) r)
fit-fault cs None = tt
fit-fault cs (Some f) = tt

abbrev FitByte : Option Token → Type 0
FitByte None = Unit {0}
FitByte (Some token) = IsFit token

fit-cond : (b : Bool) (x y : Option Token) → FitByte x → FitByte y → FitByte (cond b x y)
fit-cond true x y h g = h
fit-cond false x y h g = g

fit-byte_token : (c : ℕ) → FitByte (byte_token c)
fit-byte_token c =
    fit-cond (c == 61) _ _ tt (fit-cond (c == 60) _ _ tt (fit-cond (c == 62) _ _ tt (fit-cond (c == 38) _ _ tt (fit-cond (c == 43) _ _ tt
    (fit-cond (c == 45) _ _ tt (fit-cond (c == 42) _ _ tt (fit-cond (c == 47) _ _ tt (fit-cond (c == 94) _ _ tt (fit-cond (c == 37) _ _ tt
    (fit-cond (c == 58) _ _ tt (fit-cond (c == 44) _ _ tt (fit-cond (c == 40) _ _ tt (fit-cond (c == 41) _ _ tt tt)))))))))))))

fit-byte : (cs : List ℕ) (r : Option Token) → FitByte r → FitFront (option_map (λ token. (token, cs)) r)
fit-byte cs None h = tt
fit-byte cs (Some token) h = h

fit-sign : (o : Option Op) (c : ℕ) (cs : List ℕ) → FitFront (sign_token o c cs)
fit-sign (Some o) c cs = tt
fit-sign None c cs = fit-byte cs (byte_token c) (fit-byte_token c)

front-cond : (b : Bool) (x y : Front) → (b ≡ true → FitFront x) → FitFront y → FitFront (cond b x y)
front-cond true x y h g = h refl
front-cond false x y h g = g

pub fit-token_at : (c : ℕ) (cs : List ℕ) → FitFront (token_at c cs)
fit-token_at c cs =
    front-cond (begins_run c) _ _ (λ _. fit-run (take_while is_run_byte (c ∷ cs)) (after_while is_run_byte (c ∷ cs)))
    (front-cond (begins_number (c ∷ cs)) _ _ (λ h. fit-number c cs (number_length (c ∷ cs)) h)
    (front-cond (c == 34) _ _ (λ _. fit-text (quoted 34 cs))
    (front-cond (c == 39) _ _ (λ _. fit-sheet (quoted 39 cs))
    (front-cond (c == 35) _ _ (λ _. fit-fault (c ∷ cs) (find (begins_with_fault (c ∷ cs)) faults)) (fit-sign (pair_op c cs) c cs)))))

fit-next : (token : Token) (r : Option (List Token)) → IsFit token → FitAll r → FitAll (option_map (λ tokens. token ∷ tokens) r)
fit-next token None h g = tt
fit-next token (Some tokens) h g = (h, g)

fit-and_tokens : (front : Front) (rest : List ℕ → Option (List Token)) → FitFront front → ((cs : List ℕ) → FitAll (rest cs)) → FitAll (and_tokens front rest)
fit-and_tokens None rest h g = tt
fit-and_tokens (Some p) rest h g = fit-next p.0 (rest p.1) h (g p.1)

all-cond : (b : Bool) (x y : Option (List Token)) → FitAll x → FitAll y → FitAll (cond b x y)
all-cond true x y h g = h
all-cond false x y h g = g

fit-tokens_in : (n : ℕ) (cs : List ℕ) → FitAll (tokens_in n cs)
unfolding tokens_in_by
fit-tokens_in zero cs = tt
fit-tokens_in (suc n) [] = tt
fit-tokens_in (suc n) (c ∷ cs) =
    all-cond (is_blank c) (tokens_in n cs) (and_tokens (token_at c cs) (tokens_in n)) (fit-tokens_in n cs)
    (fit-and_tokens (token_at c cs) (tokens_in n) (fit-token_at c cs) (λ ds. fit-tokens_in n ds))

fit-of : (r : Option (List Token)) (tokens : List Token) → r ≡ Some tokens → FitAll r → AreFit tokens
fit-of r tokens e h = let f : FitAll (Some tokens) = subst FitAll e h in f

pub are-fit : (n : ℕ) (cs : List ℕ) (tokens : List Token) → tokens_in n cs ≡ Some tokens → AreFit tokens
are-fit n cs tokens e = fit-of (tokens_in n cs) tokens e (fit-tokens_in n cs)
