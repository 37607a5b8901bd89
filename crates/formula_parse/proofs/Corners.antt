-- Tokens that are no address, and no end of a whole range: those whose kind rests on what they hold. Serves the lexer.
use Rattle.std.proofs.Common.{◌≡◌, refl, ℕ, List, ◌∷◌, Option, Some, None}
use Rattle.cell_addr.specs.declared.place.TheConstants.{ROWS}
use Rattle.formula_tree.specs.Token.{Token}
use Rattle.formula_tree.specs.Grammar.{end_of}
use Rattle.formula_tree.specs.Reader.{corner_front}
use Rattle.formula_parse.specs.declared.token.Mark.TheVariants as marks
use Rattle.formula_parse.specs.declared.token.Symbol.{Symbol}
use Rattle.formula_parse.specs.declared.token.Symbol.TheVariants as symbols
use Rattle.formula_parse.specs.internal.Front.{symbol_token, text_of, sheet_of}

pub text_no_corner : (content : Option (List ℕ)) (rest : List Token) → corner_front (text_of content ∷ rest) ≡ None
text_no_corner None rest = refl
text_no_corner (Some content) rest = refl

pub sheet_no_corner : (name : Option (List ℕ)) (rest : List Token) → corner_front (sheet_of name ∷ rest) ≡ None
sheet_no_corner None rest = refl
sheet_no_corner (Some name) rest = refl

pub symbol_no_corner : (s : Symbol) (rest : List Token) → corner_front (symbol_token s ∷ rest) ≡ None
symbol_no_corner (symbols.Operator o) rest = refl
symbol_no_corner symbols.Percent rest = refl
symbol_no_corner (symbols.Mark marks.Colon) rest = refl
symbol_no_corner (symbols.Mark marks.Comma) rest = refl
symbol_no_corner (symbols.Mark marks.Open) rest = refl
symbol_no_corner (symbols.Mark marks.Close) rest = refl

pub ruleset corner_rules = (text_no_corner, sheet_no_corner, symbol_no_corner)

pub text_no_end : (content : Option (List ℕ)) → end_of ROWS (text_of content) ≡ None
text_no_end None = refl
text_no_end (Some content) = refl

pub sheet_no_end : (name : Option (List ℕ)) → end_of ROWS (sheet_of name) ≡ None
sheet_no_end None = refl
sheet_no_end (Some name) = refl

pub symbol_no_end : (s : Symbol) → end_of ROWS (symbol_token s) ≡ None
symbol_no_end (symbols.Operator o) = refl
symbol_no_end symbols.Percent = refl
symbol_no_end (symbols.Mark marks.Colon) = refl
symbol_no_end (symbols.Mark marks.Comma) = refl
symbol_no_end (symbols.Mark marks.Open) = refl
symbol_no_end (symbols.Mark marks.Close) = refl

pub ruleset end_rules = (text_no_end, sheet_no_end, symbol_no_end)
