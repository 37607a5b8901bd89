-- Texts and their tokens, one token at a time. Serves the law that the canonical text spells its tree.
use Rattle.std.proofs.Common.{◌≡◌, refl, arith, ℕ, zero, suc, ◌<◌, ◌≤◌, false, List, [], ◌∷◌, ◌++◌, length, Some}
use Rattle.digits.specs.Digits.{is_digit}
use Rattle.cell_value.specs.declared.fault.FaultKind.{FaultKind}
use Rattle.cell_value.specs.declared.fault.FaultKind.TheVariants as kinds
use Rattle.cell_value.specs.Fault.{fault_text}
use Rattle.formula_tree.specs.declared.operator.Op.{Op}
use Rattle.formula_tree.specs.declared.operator.Op.TheVariants as op
use Rattle.formula_tree.specs.declared.operator.Sign.{Sign}
use Rattle.formula_tree.specs.declared.operator.Sign.TheVariants as sign
use Rattle.formula_tree.specs.Token.{Token}
use Rattle.formula_tree.specs.Token as tok
use Rattle.formula_tree.specs.Level.{op_of}
use Rattle.formula_tree.specs.Run.{is_blank, is_run_byte, begins_with, begins_with_any, after_while}
use Rattle.formula_tree.specs.Tokens.{token_at, tokens_in, tokens_in_by}
use Rattle.formula_tree.specs.Canonical.{op_text, sign_text}

-- the text has these tokens, and each number of steps above its length finds them
abbrev pub Lexes : List ℕ → List Token → Type 0
Lexes cs tokens = (n : ℕ) → length cs < n → tokens_in n cs ≡ Some tokens

pub lexes-nil : Lexes [] []
unfolding tokens_in_by
lexes-nil zero h = absurd (omega arith)
lexes-nil (suc n) h = refl

-- one token more in front
pub lexes-token : (c : ℕ) (cs : List ℕ) (token : Token) (rest : List ℕ) (tokens : List Token) → is_blank c ≡ false → token_at c cs ≡ Some (token, rest)
    → length rest ≤ length cs → Lexes rest tokens → Lexes (c ∷ cs) (token ∷ tokens)
unfolding tokens_in_by
lexes-token c cs token rest tokens b e h l zero g = absurd (omega arith)
lexes-token c cs token rest tokens b e h l (suc n) g = let more : tokens_in n rest ≡ Some tokens = l n (omega arith) in rw (b, e, more) refl

-- nothing of what stands in front of the text goes on in it
pub record Stopped (cs : List ℕ) : Type 0 where
  pub no_run : begins_with_any is_run_byte cs ≡ false
  pub no_digit : begins_with_any is_digit cs ≡ false
  pub no_point : begins_with 46 cs ≡ false
  pub no_sheet : begins_with 33 cs ≡ false
  pub no_call : begins_with 40 (after_while is_blank cs) ≡ false
  pub no_quote : begins_with 34 cs ≡ false

pub stopped-nil : Stopped []
stopped-nil = record { no_run = refl; no_digit = refl; no_point = refl; no_sheet = refl; no_call = refl; no_quote = refl }

pub stopped-close : (cs : List ℕ) → Stopped (41 ∷ cs)
stopped-close cs = record { no_run = refl; no_digit = refl; no_point = refl; no_sheet = refl; no_call = refl; no_quote = refl }

pub stopped-comma : (cs : List ℕ) → Stopped (44 ∷ cs)
stopped-comma cs = record { no_run = refl; no_digit = refl; no_point = refl; no_sheet = refl; no_call = refl; no_quote = refl }

pub stopped-colon : (cs : List ℕ) → Stopped (58 ∷ cs)
stopped-colon cs = record { no_run = refl; no_digit = refl; no_point = refl; no_sheet = refl; no_call = refl; no_quote = refl }

pub stopped-percent : (cs : List ℕ) → Stopped (37 ∷ cs)
stopped-percent cs = record { no_run = refl; no_digit = refl; no_point = refl; no_sheet = refl; no_call = refl; no_quote = refl }

pub stopped-op : (o : Op) (cs : List ℕ) → Stopped (op_text o ++ cs)
stopped-op op.Add cs = record { no_run = refl; no_digit = refl; no_point = refl; no_sheet = refl; no_call = refl; no_quote = refl }
stopped-op op.Sub cs = record { no_run = refl; no_digit = refl; no_point = refl; no_sheet = refl; no_call = refl; no_quote = refl }
stopped-op op.Mul cs = record { no_run = refl; no_digit = refl; no_point = refl; no_sheet = refl; no_call = refl; no_quote = refl }
stopped-op op.Div cs = record { no_run = refl; no_digit = refl; no_point = refl; no_sheet = refl; no_call = refl; no_quote = refl }
stopped-op op.Power cs = record { no_run = refl; no_digit = refl; no_point = refl; no_sheet = refl; no_call = refl; no_quote = refl }
stopped-op op.Join cs = record { no_run = refl; no_digit = refl; no_point = refl; no_sheet = refl; no_call = refl; no_quote = refl }
stopped-op op.Equal cs = record { no_run = refl; no_digit = refl; no_point = refl; no_sheet = refl; no_call = refl; no_quote = refl }
stopped-op op.Unequal cs = record { no_run = refl; no_digit = refl; no_point = refl; no_sheet = refl; no_call = refl; no_quote = refl }
stopped-op op.Less cs = record { no_run = refl; no_digit = refl; no_point = refl; no_sheet = refl; no_call = refl; no_quote = refl }
stopped-op op.Greater cs = record { no_run = refl; no_digit = refl; no_point = refl; no_sheet = refl; no_call = refl; no_quote = refl }
stopped-op op.AtMost cs = record { no_run = refl; no_digit = refl; no_point = refl; no_sheet = refl; no_call = refl; no_quote = refl }
stopped-op op.AtLeast cs = record { no_run = refl; no_digit = refl; no_point = refl; no_sheet = refl; no_call = refl; no_quote = refl }

-- a byte that is a token by itself
pub lexes-open : (cs : List ℕ) (tokens : List Token) → Lexes cs tokens → Lexes (40 ∷ cs) (tok.Open ∷ tokens)
lexes-open cs tokens l = lexes-token 40 cs tok.Open cs tokens refl refl (omega arith) l

pub lexes-close : (cs : List ℕ) (tokens : List Token) → Lexes cs tokens → Lexes (41 ∷ cs) (tok.Close ∷ tokens)
lexes-close cs tokens l = lexes-token 41 cs tok.Close cs tokens refl refl (omega arith) l

pub lexes-comma : (cs : List ℕ) (tokens : List Token) → Lexes cs tokens → Lexes (44 ∷ cs) (tok.Comma ∷ tokens)
lexes-comma cs tokens l = lexes-token 44 cs tok.Comma cs tokens refl refl (omega arith) l

pub lexes-colon : (cs : List ℕ) (tokens : List Token) → Lexes cs tokens → Lexes (58 ∷ cs) (tok.Colon ∷ tokens)
lexes-colon cs tokens l = lexes-token 58 cs tok.Colon cs tokens refl refl (omega arith) l

pub lexes-percent : (cs : List ℕ) (tokens : List Token) → Lexes cs tokens → Lexes (37 ∷ cs) (tok.Percent ∷ tokens)
lexes-percent cs tokens l = lexes-token 37 cs tok.Percent cs tokens refl refl (omega arith) l

pub lexes-sign : (s : Sign) (cs : List ℕ) (tokens : List Token) → Lexes cs tokens → Lexes (sign_text s ++ cs) (tok.Operator (op_of s) ∷ tokens)
lexes-sign sign.Plus cs tokens l = lexes-token 43 cs (tok.Operator op.Add) cs tokens refl refl (omega arith) l
lexes-sign sign.Minus cs tokens l = lexes-token 45 cs (tok.Operator op.Sub) cs tokens refl refl (omega arith) l

-- the text doesn't begin with `=` or `>`, which would go on after `<` and `>`
abbrev pub IsApart : List ℕ → Type 0
IsApart cs = (begins_with 61 cs ≡ false) × (begins_with 62 cs ≡ false)

less-apart : (cs : List ℕ) → IsApart cs → token_at 60 cs ≡ Some (tok.Operator op.Less, cs)
less-apart cs a = rw (a.0, a.1) refl

greater-apart : (cs : List ℕ) → IsApart cs → token_at 62 cs ≡ Some (tok.Operator op.Greater, cs)
greater-apart cs a = rw a.0 refl

pub lexes-op : (o : Op) (cs : List ℕ) (tokens : List Token) → IsApart cs → Lexes cs tokens → Lexes (op_text o ++ cs) (tok.Operator o ∷ tokens)
lexes-op op.Add cs tokens a l = lexes-token 43 cs (tok.Operator op.Add) cs tokens refl refl (omega arith) l
lexes-op op.Sub cs tokens a l = lexes-token 45 cs (tok.Operator op.Sub) cs tokens refl refl (omega arith) l
lexes-op op.Mul cs tokens a l = lexes-token 42 cs (tok.Operator op.Mul) cs tokens refl refl (omega arith) l
lexes-op op.Div cs tokens a l = lexes-token 47 cs (tok.Operator op.Div) cs tokens refl refl (omega arith) l
lexes-op op.Power cs tokens a l = lexes-token 94 cs (tok.Operator op.Power) cs tokens refl refl (omega arith) l
lexes-op op.Join cs tokens a l = lexes-token 38 cs (tok.Operator op.Join) cs tokens refl refl (omega arith) l
lexes-op op.Equal cs tokens a l = lexes-token 61 cs (tok.Operator op.Equal) cs tokens refl refl (omega arith) l
lexes-op op.Unequal cs tokens a l = lexes-token 60 (62 ∷ cs) (tok.Operator op.Unequal) cs tokens refl refl (omega arith) l
lexes-op op.Less cs tokens a l = lexes-token 60 cs (tok.Operator op.Less) cs tokens refl (less-apart cs a) (omega arith) l
lexes-op op.Greater cs tokens a l = lexes-token 62 cs (tok.Operator op.Greater) cs tokens refl (greater-apart cs a) (omega arith) l
lexes-op op.AtMost cs tokens a l = lexes-token 60 (61 ∷ cs) (tok.Operator op.AtMost) cs tokens refl refl (omega arith) l
lexes-op op.AtLeast cs tokens a l = lexes-token 62 (61 ∷ cs) (tok.Operator op.AtLeast) cs tokens refl refl (omega arith) l

pub lexes-fault : (f : FaultKind) (cs : List ℕ) (tokens : List Token) → Lexes cs tokens → Lexes (fault_text f ++ cs) (tok.Fault f ∷ tokens)
lexes-fault kinds.Div0 cs tokens l = lexes-token 35 (68 ∷ 73 ∷ 86 ∷ 47 ∷ 48 ∷ 33 ∷ cs) (tok.Fault kinds.Div0) cs tokens refl refl (omega arith) l
lexes-fault kinds.Name cs tokens l = lexes-token 35 (78 ∷ 65 ∷ 77 ∷ 69 ∷ 63 ∷ cs) (tok.Fault kinds.Name) cs tokens refl refl (omega arith) l
lexes-fault kinds.Value cs tokens l = lexes-token 35 (86 ∷ 65 ∷ 76 ∷ 85 ∷ 69 ∷ 33 ∷ cs) (tok.Fault kinds.Value) cs tokens refl refl (omega arith) l
lexes-fault kinds.Num cs tokens l = lexes-token 35 (78 ∷ 85 ∷ 77 ∷ 33 ∷ cs) (tok.Fault kinds.Num) cs tokens refl refl (omega arith) l
lexes-fault kinds.Na cs tokens l = lexes-token 35 (78 ∷ 47 ∷ 65 ∷ cs) (tok.Fault kinds.Na) cs tokens refl refl (omega arith) l
lexes-fault kinds.Cycle cs tokens l = lexes-token 35 (67 ∷ 89 ∷ 67 ∷ 76 ∷ 69 ∷ 33 ∷ cs) (tok.Fault kinds.Cycle) cs tokens refl refl (omega arith) l
lexes-fault kinds.Ref cs tokens l = lexes-token 35 (82 ∷ 69 ∷ 70 ∷ 33 ∷ cs) (tok.Fault kinds.Ref) cs tokens refl refl (omega arith) l
lexes-fault kinds.Error cs tokens l = lexes-token 35 (69 ∷ 82 ∷ 82 ∷ 79 ∷ 82 ∷ 33 ∷ cs) (tok.Fault kinds.Error) cs tokens refl refl (omega arith) l
