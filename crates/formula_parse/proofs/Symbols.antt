-- The symbol in front of a text is its first token, and no other token is one. Serves the lexer.
use Rattle.std.proofs.Common.{◌≡◌, ◌∙◌, sym, ap, refl, arith, subst, ℕ, Bool, true, false, ◌==◌, ◌||◌, ◌&&◌, cond, if◌then◌else◌, List, [], ◌∷◌, take, drop, Option, Some, None, option_map}
use Rattle.std.specs.Option.{option_and_then}
use Rattle.std.specs.List.{take_while, find}
use Rattle.std.proofs.lemmas.Bool.{eqb-true}
use Rattle.std.proofs.lemmas.Bool.Decides.{nat_tests}
use Rattle.digits.specs.Digits.{is_digit}
use Rattle.cell_addr.specs.Quoted.{quoted}
use Rattle.cell_value.specs.declared.fault.FaultKind.{FaultKind}
use Rattle.cell_value.specs.Fault.{faults}
use Rattle.formula_tree.specs.declared.address.Address.{Address}
use Rattle.formula_tree.specs.declared.operator.Op.{Op}
use Rattle.formula_tree.specs.Token.{Token, same_mark}
use Rattle.formula_tree.specs.Token as tok
use Rattle.formula_tree.specs.Run.{is_blank, begins_run, is_run_byte, begins_with, begins_with_any, after_while, is_word, corner_of, truth_of, word_token, lone_token, ends_sheet_name, is_sheet_run, run_token}
use Rattle.formula_tree.specs.Tokens.{Front, number_length, begins_number, text_token, sheet_token, begins_with_fault, fault_token, byte_token, pair_op, sign_token, token_at}
use Rattle.formula_tree.specs.Reader.{after}
use Rattle.formula_parse.specs.declared.token.Mark.{Mark}
use Rattle.formula_parse.specs.declared.token.Mark.TheVariants as marks
use Rattle.formula_parse.specs.internal.Front.{mark_token, symbol_of}
use Rattle.formula_parse.specs.internal.Stream.{and_stream, stream, is_symbol, symbol_front}
use Rattle.formula_parse.proofs.Streams.{stream-nil, stream-not_blank, stream-after_blanks, after_blanks-no_blank}

-- the token in front is no symbol
abbrev IsOther : Front → Type 0
IsOther None = Unit {0}
IsOther (Some p) = is_symbol p.0 ≡ false

-- the symbol in front, and the tokens after it
abbrev pub symbols : Front → Option (Token × List Token)
symbols front = option_map (λ p. (p.0, stream p.1)) front

other-word : (b : Bool) (w : List ℕ) → is_symbol (if b then tok.Name w else tok.Other w) ≡ false
other-word true w = refl
other-word false w = refl

other-truth : (w : List ℕ) (r : Option Bool) → is_symbol (word_token w r) ≡ false
other-truth w (Some b) = refl
other-truth w None = other-word (is_word w) w

other-lone : (w : List ℕ) (r : Option Address) → is_symbol (lone_token w r) ≡ false
other-lone w (Some a) = refl
other-lone w None = other-truth w (truth_of w)

other-chosen : (b d e : Bool) (w cs : List ℕ) (lone : Token) → is_symbol lone ≡ false
    → IsOther (Some (if b then (tok.Sheet w, drop 1 cs) else (if d then (if e then (tok.Word w, cs) else (tok.Other w, cs)) else (lone, cs))))
other-chosen true d e w cs lone h = refl
other-chosen false true true w cs lone h = refl
other-chosen false true false w cs lone h = refl
other-chosen false false e w cs lone h = h

other-run : (w cs : List ℕ) → IsOther (Some (run_token w cs))
other-run w cs =
    other-chosen (is_sheet_run w cs) (begins_with 40 (after_while is_blank cs)) (is_word w) w cs (lone_token w (corner_of w)) (other-lone w (corner_of w))

other-text : (parts : Option (List ℕ × List ℕ)) → IsOther (option_map text_token parts)
other-text None = tt
other-text (Some p) = refl

other-name : (b : Bool) (name cs : List ℕ) → IsOther (if b then Some (tok.Sheet name, cs) else None)
other-name true name cs = refl
other-name false name cs = tt

other-sheet : (parts : Option (List ℕ × List ℕ)) → IsOther (option_and_then sheet_token parts)
other-sheet None = tt
other-sheet (Some (name, cs)) = other-name (ends_sheet_name cs) name (drop 1 cs)

other-fault : (cs : List ℕ) (r : Option FaultKind) → IsOther (option_map (fault_token cs) r)
other-fault cs None = tt
other-fault cs (Some f) = refl

-- a byte that is no symbol, and begins none
abbrev NoByte : ℕ → Type 0
NoByte c = ((c == 60) ≡ false) × ((c == 62) ≡ false) × (byte_token c ≡ None)

other-byte : (c : ℕ) (cs : List ℕ) → NoByte c → sign_token (pair_op c cs) c cs ≡ None
other-byte c cs n = rw (n.0, n.1, n.2) refl

run-byte : (c : ℕ) → begins_run c ≡ true → NoByte c
run-byte c h = (grind (arith, nat_tests), grind (arith, nat_tests), grind (arith, nat_tests))

digit-byte : (c : ℕ) → (is_digit c || c == 46) ≡ true → NoByte c
digit-byte c h = (grind (arith, nat_tests), grind (arith, nat_tests), grind (arith, nat_tests))

number-by : (b d e : Bool) → (b || (d && e)) ≡ true → (b || d) ≡ true
number-by true d e h = refl
number-by false true e h = refl
number-by false false e h = h

number-byte : (c : ℕ) (cs : List ℕ) → begins_number (c ∷ cs) ≡ true → NoByte c
number-byte c cs h = digit-byte c (number-by (is_digit c) (c == 46) (begins_with_any is_digit cs) h)

same-byte : (c q : ℕ) → NoByte q → (c == q) ≡ true → NoByte c
same-byte c q n h = subst NoByte (sym (eqb-true c q h)) n

-- the first token of a text is a symbol exactly where the text begins with one
abbrev SymbolsAre : ℕ → List ℕ → Front → Type 0
SymbolsAre c cs front = symbol_front (and_stream front stream) ≡ symbols (sign_token (pair_op c cs) c cs)

none-by : (front : Front) → IsOther front → symbol_front (and_stream front stream) ≡ None
none-by None n = refl
none-by (Some p) n = rw n refl

no-symbol : (c : ℕ) (cs : List ℕ) (front : Front) → NoByte c → IsOther front → SymbolsAre c cs front
no-symbol c cs front b n = none-by front n ∙ ap symbols (sym (other-byte c cs b))

are-cond : (c : ℕ) (cs : List ℕ) (b : Bool) (x y : Front) → (b ≡ true → SymbolsAre c cs x) → SymbolsAre c cs y → SymbolsAre c cs (cond b x y)
are-cond c cs true x y h g = h refl
are-cond c cs false x y h g = g

-- the symbols are themselves
abbrev IsSigned : Option Token → Type 0
IsSigned None = Unit {0}
IsSigned (Some token) = is_symbol token ≡ true

signed-cond : (b : Bool) (x y : Option Token) → IsSigned x → IsSigned y → IsSigned (cond b x y)
signed-cond true x y h g = h
signed-cond false x y h g = g

byte-signed : (c : ℕ) → IsSigned (byte_token c)
byte-signed c =
    signed-cond (c == 61) _ _ refl (signed-cond (c == 60) _ _ refl (signed-cond (c == 62) _ _ refl (signed-cond (c == 38) _ _ refl (signed-cond (c == 43) _ _ refl
    (signed-cond (c == 45) _ _ refl (signed-cond (c == 42) _ _ refl (signed-cond (c == 47) _ _ refl (signed-cond (c == 94) _ _ refl (signed-cond (c == 37) _ _ refl
    (signed-cond (c == 58) _ _ refl (signed-cond (c == 44) _ _ refl (signed-cond (c == 40) _ _ refl (signed-cond (c == 41) _ _ refl tt)))))))))))))

symbol-itself : (cs : List ℕ) (r : Option Token) → IsSigned r → symbol_front (and_stream (option_map (λ token. (token, cs)) r) stream) ≡ symbols (option_map (λ token. (token, cs)) r)
symbol-itself cs None h = refl
symbol-itself cs (Some token) h = rw h refl

symbol-is : (c : ℕ) (cs : List ℕ) (o : Option Op) → symbol_front (and_stream (sign_token o c cs) stream) ≡ symbols (sign_token o c cs)
symbol-is c cs (Some o) = refl
symbol-is c cs None = symbol-itself cs (byte_token c) (byte-signed c)

symbols-are : (c : ℕ) (cs : List ℕ) → SymbolsAre c cs (token_at c cs)
symbols-are c cs =
    are-cond c cs (begins_run c) _ _ (λ h. no-symbol c cs (Some (run_token (take_while is_run_byte (c ∷ cs)) (after_while is_run_byte (c ∷ cs)))) (run-byte c h) (other-run (take_while is_run_byte (c ∷ cs)) (after_while is_run_byte (c ∷ cs))))
    (are-cond c cs (begins_number (c ∷ cs)) _ _ (λ h. no-symbol c cs (Some (tok.Number (take (number_length (c ∷ cs)) (c ∷ cs)), drop (number_length (c ∷ cs)) (c ∷ cs))) (number-byte c cs h) refl)
    (are-cond c cs (c == 34) _ _ (λ h. no-symbol c cs (option_map text_token (quoted 34 cs)) (same-byte c 34 (refl, refl, refl) h) (other-text (quoted 34 cs)))
    (are-cond c cs (c == 39) _ _ (λ h. no-symbol c cs (option_and_then sheet_token (quoted 39 cs)) (same-byte c 39 (refl, refl, refl) h) (other-sheet (quoted 39 cs)))
    (are-cond c cs (c == 35) _ _ (λ h. no-symbol c cs (option_map (fault_token (c ∷ cs)) (find (begins_with_fault (c ∷ cs)) faults)) (same-byte c 35 (refl, refl, refl) h) (other-fault (c ∷ cs) (find (begins_with_fault (c ∷ cs)) faults)))
    (symbol-is c cs (pair_op c cs))))))

symbol-not_blank : (cs : List ℕ) → begins_with_any is_blank cs ≡ false → symbol_front (stream cs) ≡ symbols (symbol_of cs)
symbol-not_blank [] h = ap symbol_front stream-nil
symbol-not_blank (c ∷ cs) h = ap symbol_front (stream-not_blank c cs h) ∙ symbols-are c cs

-- the symbol that is the first token of a text
pub stream-symbol : (cs : List ℕ) → symbol_front (stream cs) ≡ symbols (symbol_of (after_while is_blank cs))
stream-symbol cs = ap symbol_front (sym (stream-after_blanks cs)) ∙ symbol-not_blank (after_while is_blank cs) (after_blanks-no_blank cs)

-- a mark is a symbol
same-other : (m : Mark) (token : Token) → is_symbol token ≡ false → same_mark (mark_token m) token ≡ false
same-other marks.Colon tok.Colon h = h
same-other marks.Colon token h = refl
same-other marks.Comma tok.Comma h = h
same-other marks.Comma token h = refl
same-other marks.Open tok.Open h = h
same-other marks.Open token h = refl
same-other marks.Close tok.Close h = h
same-other marks.Close token h = refl

-- what follows a mark, by the symbol in front
abbrev pub after_symbol : Token → Option (Token × List Token) → Option (List Token)
after_symbol mark None = None
after_symbol mark (Some (token, rest)) = if same_mark mark token then Some rest else None

after-by : (m : Mark) (token : Token) (rest : List Token) (b : Bool) → is_symbol token ≡ b
    → (if same_mark (mark_token m) token then Some rest else None) ≡ after_symbol (mark_token m) (if b then Some (token, rest) else None)
after-by m token rest true h = refl
after-by m token rest false h = rw (same-other m token h) refl

pub after_by_symbol : (m : Mark) (tokens : List Token) → after (mark_token m) tokens ≡ after_symbol (mark_token m) (symbol_front tokens)
after_by_symbol m [] = refl
after_by_symbol m (token ∷ rest) = after-by m token rest (is_symbol token) refl
