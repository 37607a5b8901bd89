-- The tokens of a formula's text. Source: this project's own.
use Rattle.std.specs.Prelude.{ℕ, zero, suc, ◌+◌, Bool, ◌&&◌, ◌||◌, if◌then◌else◌, ◌==◌, List, [], ◌∷◌, length, take, drop, Option, Some, None, option_and_then}
use Rattle.std.specs.List.{prefix_len, take_while, find}
use Rattle.std.specs.Option.{option_map}
use Rattle.digits.specs.Digits.{is_digit}
use Rattle.cell_addr.specs.declared.place.TheConstants.{ROWS}
use Rattle.cell_addr.specs.Quoted.{quoted}
use Rattle.cell_value.specs.declared.fault.FaultKind.{FaultKind}
use Rattle.cell_value.specs.Fault.{fault_text, faults, spells}
use Rattle.formula_tree.specs.declared.operator.Op.{Op}
use Rattle.formula_tree.specs.declared.operator.Op.TheVariants as op
use Rattle.formula_tree.specs.Token.{Token}
use Rattle.formula_tree.specs.Token as tok
use Rattle.formula_tree.specs.Run.{is_blank, begins_run, is_run_byte, begins_with, begins_with_any, after_while, ends_sheet_name, run_token_by}

-- a token, and what follows it; nothing where the text begins with no token
abbrev pub Front : Type 0
Front = Option (Token × List ℕ)

-- how many bytes the point and the digits after it are, and all of a number
abbrev pub decimals_length : List ℕ → ℕ
decimals_length cs = if begins_with 46 cs then 1 + prefix_len is_digit (drop 1 cs) else 0

abbrev pub number_length : List ℕ → ℕ
number_length cs = prefix_len is_digit cs + decimals_length (after_while is_digit cs)

-- a number begins with a digit, or with a point and a digit
abbrev pub begins_number : List ℕ → Bool
begins_number cs = begins_with_any is_digit cs || (begins_with 46 cs && begins_with_any is_digit (drop 1 cs))

-- the text between double quotes
abbrev pub text_token : List ℕ × List ℕ → Token × List ℕ
text_token (content, cs) = (tok.Text content, cs)

-- the sheet's name between apostrophes, where `!` follows it at once, and no blank that
abbrev pub sheet_token : List ℕ × List ℕ → Front
sheet_token (content, cs) = if ends_sheet_name cs then Some (tok.Sheet content, drop 1 cs) else None

-- the text begins with the spelling of this fault, in letters of any case
abbrev pub begins_with_fault : List ℕ → FaultKind → Bool
begins_with_fault cs fault = spells (take (length (fault_text fault)) cs) (fault_text fault)

abbrev pub fault_token : List ℕ → FaultKind → Token × List ℕ
fault_token cs fault = (tok.Fault fault, drop (length (fault_text fault)) cs)

-- the token that a byte is by itself, where it is one
abbrev pub byte_token : ℕ → Option Token
byte_token c = if c == 61 then Some (tok.Operator op.Equal)
    else if c == 60 then Some (tok.Operator op.Less)
    else if c == 62 then Some (tok.Operator op.Greater)
    else if c == 38 then Some (tok.Operator op.Join)
    else if c == 43 then Some (tok.Operator op.Add)
    else if c == 45 then Some (tok.Operator op.Sub)
    else if c == 42 then Some (tok.Operator op.Mul)
    else if c == 47 then Some (tok.Operator op.Div)
    else if c == 94 then Some (tok.Operator op.Power)
    else if c == 37 then Some tok.Percent
    else if c == 58 then Some tok.Colon
    else if c == 44 then Some tok.Comma
    else if c == 40 then Some tok.Open
    else if c == 41 then Some tok.Close
    else None

-- the operator of two bytes, where they are one
abbrev pub pair_op : ℕ → List ℕ → Option Op
pair_op c cs = if c == 60 && begins_with 62 cs then Some op.Unequal
    else if c == 60 && begins_with 61 cs then Some op.AtMost
    else if c == 62 && begins_with 61 cs then Some op.AtLeast
    else None

-- the longest operator is taken
abbrev pub sign_token : Option Op → ℕ → List ℕ → Front
sign_token (Some o) c cs = Some (tok.Operator o, drop 1 cs)
sign_token None c cs = option_map (λ token. (token, cs)) (byte_token c)

-- the token that a text begins with, by its first byte; of a sheet of so many rows
abbrev pub token_by : ℕ → ℕ → List ℕ → Front
token_by rows c cs = if begins_run c then Some (run_token_by rows (take_while is_run_byte (c ∷ cs)) (after_while is_run_byte (c ∷ cs)))
    else if begins_number (c ∷ cs) then Some (tok.Number (take (number_length (c ∷ cs)) (c ∷ cs)), drop (number_length (c ∷ cs)) (c ∷ cs))
    else if c == 34 then option_map text_token (quoted 34 cs)
    else if c == 39 then option_and_then sheet_token (quoted 39 cs)
    else if c == 35 then option_map (fault_token (c ∷ cs)) (find (begins_with_fault (c ∷ cs)) faults)
    else sign_token (pair_op c cs) c cs

-- the token in front, and those after it
abbrev pub and_tokens : Front → (List ℕ → Option (List Token)) → Option (List Token)
and_tokens None rest = None
and_tokens (Some front) rest = option_map (λ tokens. front.0 ∷ tokens) (rest front.1)

-- one step: a blank means nothing, and each other byte begins a token
abbrev pub tokens_step_by : ℕ → (List ℕ → Option (List Token)) → List ℕ → Option (List Token)
tokens_step_by rows rest [] = Some []
tokens_step_by rows rest (c ∷ cs) = if is_blank c then rest cs else and_tokens (token_by rows c cs) rest

-- the tokens of a text, in so many steps; nothing where the text isn't made of tokens
unfoldable pub tokens_in_by : ℕ → ℕ → List ℕ → Option (List Token)
tokens_in_by rows zero cs = None
tokens_in_by rows (suc steps) cs = tokens_step_by rows (tokens_in_by rows steps) cs

-- the tokens of a text: each step takes a byte or more
abbrev pub tokens_by : ℕ → List ℕ → Option (List Token)
tokens_by rows cs = tokens_in_by rows (length cs + 1) cs

-- the same of a sheet as it is
abbrev pub token_at : ℕ → List ℕ → Front
token_at c cs = token_by ROWS c cs

abbrev pub tokens_in : ℕ → List ℕ → Option (List Token)
tokens_in steps cs = tokens_in_by ROWS steps cs

abbrev pub tokens_of : List ℕ → Option (List Token)
tokens_of cs = tokens_by ROWS cs
