-- The token that a text begins with, and the tokens that the program's own stand for.
use Rattle.std.specs.Prelude.{ℕ, ◌<◌, List, [], ◌∷◌, take, drop, Option, Some, None}
use Rattle.std.specs.Option.{option_map}
use Rattle.cell_addr.specs.Quoted.{quoted}
use Rattle.cell_addr.specs.declared.place.TheConstants.{ROWS, COLS}
use Rattle.cell_addr.specs.Axis.{limit_of}
use Rattle.formula_tree.specs.declared.address.Address.{Address}
use Rattle.formula_tree.specs.declared.address.End.{End}
use Rattle.formula_tree.specs.Token.{Token}
use Rattle.formula_tree.specs.Token as tok
use Rattle.formula_tree.specs.Tokens.{Front, number_length, pair_op, sign_token, token_at}
use Rattle.formula_parse.specs.declared.token.Mark.{Mark}
use Rattle.formula_parse.specs.declared.token.Mark.TheVariants as marks
use Rattle.formula_parse.specs.declared.token.Symbol.{Symbol}
use Rattle.formula_parse.specs.declared.token.Symbol.TheVariants as symbols
use Rattle.formula_parse.specs.declared.token.Token as program
use Rattle.formula_parse.specs.declared.token.Token.TheVariants as pieces

-- the token that a mark or another symbol is
abbrev pub mark_token : Mark → Token
mark_token marks.Colon = tok.Colon
mark_token marks.Comma = tok.Comma
mark_token marks.Open = tok.Open
mark_token marks.Close = tok.Close

abbrev pub symbol_token : Symbol → Token
symbol_token (symbols.Operator o) = tok.Operator o
symbol_token symbols.Percent = tok.Percent
symbol_token (symbols.Mark m) = mark_token m

-- the content between quotes, by what follows the opening one; nothing where none closes it
abbrev pub content_after : ℕ → List ℕ → Option (List ℕ)
content_after quote cs = option_map (λ p. p.0) (quoted quote cs)

-- a text, or a sheet's name, by that content; a token that no production takes where there is none
abbrev pub text_of : Option (List ℕ) → Token
text_of None = tok.Other []
text_of (Some content) = tok.Text content

abbrev pub sheet_of : Option (List ℕ) → Token
sheet_of None = tok.Other []
sheet_of (Some name) = tok.Sheet name

-- the token that the program's own stands for
abbrev pub token_of : program.Token → Token
token_of (pieces.Number digits) = tok.Number digits.now
token_of (pieces.Text after_quote) = text_of (content_after 34 after_quote.now)
token_of (pieces.Truth b) = tok.Truth b
token_of (pieces.Fault f) = tok.Fault f
token_of (pieces.Sheet name) = tok.Sheet name.now
token_of (pieces.QuotedSheet after_quote) = sheet_of (content_after 39 after_quote.now)
token_of (pieces.Corner a) = tok.Corner a
token_of (pieces.Name name) = tok.Name name.now
token_of (pieces.Word word) = tok.Word word.now
token_of (pieces.Other run) = tok.Other run.now
token_of pieces.Stray = tok.Other []
token_of (pieces.Symbol s) = symbol_token s

-- the token that a text begins with, and what follows it
abbrev pub front_of : List ℕ → Front
front_of [] = None
front_of (c ∷ cs) = token_at c cs

-- the symbol that a text begins with, and what follows it
abbrev pub symbol_of : List ℕ → Front
symbol_of [] = None
symbol_of (c ∷ cs) = sign_token (pair_op c cs) c cs

-- the number that a text begins with, and what follows it
abbrev pub number_front : List ℕ → Front
number_front cs = Some (tok.Number (take (number_length cs) cs), drop (number_length cs) cs)

-- an address lies within the limits of a sheet
abbrev pub IsAddressInside : Address → Type 0
IsAddressInside a = (a.row < ROWS) × (a.col < COLS)

-- an end of a whole range lies within them
abbrev pub IsEndInside : End → Type 0
IsEndInside a = a.line < limit_of a.axis

abbrev pub HasAddressInside : Token → Type 0
HasAddressInside (tok.Corner a) = IsAddressInside a
HasAddressInside token = Unit {0}
