-- The tokens of a text as they are read from it one at a time, without knowing whether the whole text is
-- made of tokens: where no token begins stands one that no production takes, and nothing follows it.
use Rattle.std.specs.Prelude.{ℕ, zero, suc, ◌+◌, Bool, true, false, if◌then◌else◌, List, [], ◌∷◌, length, Option, Some, None}
use Rattle.formula_tree.specs.Token.{Token}
use Rattle.formula_tree.specs.Token as tok
use Rattle.formula_tree.specs.Run.{is_blank}
use Rattle.formula_tree.specs.Tokens.{Front, token_at}

abbrev pub and_stream : Front → (List ℕ → List Token) → List Token
and_stream None next = tok.Other [] ∷ []
and_stream (Some front) next = front.0 ∷ next front.1

abbrev pub stream_step : (List ℕ → List Token) → List ℕ → List Token
stream_step next [] = []
stream_step next (c ∷ cs) = if is_blank c then next cs else and_stream (token_at c cs) next

-- in so many steps; each takes a byte or more
unfoldable pub stream_in : ℕ → List ℕ → List Token
stream_in zero cs = []
stream_in (suc steps) cs = stream_step (stream_in steps) cs

abbrev pub stream : List ℕ → List Token
stream cs = stream_in (length cs + 1) cs

-- an operator, or one of `%`, `:`, `,`, `(` and `)`
abbrev pub is_symbol : Token → Bool
is_symbol (tok.Operator o) = true
is_symbol tok.Percent = true
is_symbol tok.Colon = true
is_symbol tok.Comma = true
is_symbol tok.Open = true
is_symbol tok.Close = true
is_symbol token = false

-- the symbol in front, and the tokens after it
abbrev pub symbol_front : List Token → Option (Token × List Token)
symbol_front [] = None
symbol_front (token ∷ rest) = if is_symbol token then Some (token, rest) else None
