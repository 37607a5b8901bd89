-- How a list of tokens is read: by operator precedence, level by level. That it reads exactly what the
-- grammar spells is a law. A reader R reads a tree of a level at the front of a list.
use Rattle.std.specs.Prelude.{ℕ, zero, suc, ℤ, if◌then◌else◌, nat_lt, nat_le, ◌==◌, List, [], ◌∷◌, ◌++◌, length, Option, Some, None, option_and_then, Result, Ok, Err}
use Rattle.std.specs.Option.{option_map}
use Rattle.cell_addr.specs.declared.place.TheConstants.{ROWS}
use Rattle.cell_addr.specs.Axis.{same_axis}
use Rattle.cell_addr.specs.Text.{capitals}
use Rattle.fix_num.specs.declared.error.NumError.{NumError}
use Rattle.fix_num.specs.Text.{number_of}
use Rattle.formula_tree.specs.declared.operator.TheConstants.{MAX_LEVELS}
use Rattle.formula_tree.specs.declared.reference.Corner.{Corner}
use Rattle.formula_tree.specs.declared.operator.Sign.{Sign}
use Rattle.formula_tree.specs.declared.address.Address.{Address}
use Rattle.formula_tree.specs.declared.address.End.{End}
use Rattle.formula_tree.specs.Token.{Token, same_mark}
use Rattle.formula_tree.specs.Token as tok
use Rattle.formula_tree.specs.Term.{Term, number, text, truth, fault, name, prefix, percent, binary, call, paren, no_terms, terms_of, depth_of}
use Rattle.formula_tree.specs.Level.{level_of, percent_level, sign_level, sign_of}
use Rattle.formula_tree.specs.Grammar.{cell_on, area_on, end_of, whole_on}
use Rattle.formula_tree.specs.Tokens.{tokens_of}

-- a tree that was read, and the tokens after it; nothing where none was
abbrev pub Read : Type 0
Read = Option (Term Corner × List Token)

-- what reads on after a tree that was read
abbrev pub and_then : {X : Type 0} → Read → (Term Corner → List Token → Option X) → Option X
and_then None next = None
and_then (Some read) next = next read.0 read.1

-- the tokens after this mark, where the list begins with it
abbrev pub after : Token → List Token → Option (List Token)
after mark [] = None
after mark (token ∷ rest) = if same_mark mark token then Some rest else None

-- the address in front, and the tokens after it
abbrev pub corner_front : List Token → Option (Address × List Token)
corner_front (tok.Corner a ∷ rest) = Some (a, rest)
corner_front tokens = None

-- a number within the range
abbrev pub number_then : Result ℤ NumError → List Token → Read
number_then (Ok m) rest = Some (number m, rest)
number_then (Err e) rest = None

-- the second corner of a block whose first one and sheet are known
abbrev pub area_then : Option ℕ → Address → Address × List Token → Read
area_then sheet a (b, rest) = Some (area_on sheet a b, rest)

-- a reference, or a block where a colon follows
abbrev pub colon_then : Option ℕ → Address → List Token → Option (List Token) → Read
colon_then sheet a tokens None = Some (cell_on sheet a, tokens)
colon_then sheet a tokens (Some rest) = option_and_then (area_then sheet a) (corner_front rest)

abbrev pub reference : Option ℕ → Address × List Token → Read
reference sheet (a, rest) = colon_then sheet a rest (after tok.Colon rest)

-- the end of a whole range in front, and the tokens after it
abbrev pub end_front : List Token → Option (End × List Token)
end_front [] = None
end_front (token ∷ rest) = option_map (λ e. (e, rest)) (end_of ROWS token)

-- the last end of a whole range whose first one and sheet are known, of the same axis
abbrev pub end_then : Option ℕ → End → End × List Token → Read
end_then sheet a (b, rest) = if same_axis a.axis b.axis then Some (whole_on sheet a b, rest) else None

-- a whole range, by what its first token is and the tokens after the colon
abbrev pub whole_range : Option ℕ → Option End → List Token → Read
whole_range sheet None tokens = None
whole_range sheet (Some a) tokens = option_and_then (end_then sheet a) (end_front tokens)

-- a whole range where a colon follows, and else another tree
abbrev pub range_or : Read → Option ℕ → Option End → Option (List Token) → Read
range_or other sheet first None = other
range_or other sheet first (Some rest) = whole_range sheet first rest

-- a whole range behind a sheet's name
abbrev pub sheet_range : Option ℕ → Option (End × List Token) → Read
sheet_range sheet None = None
sheet_range sheet (Some (a, rest)) = range_or None sheet (Some a) (after tok.Colon rest)

-- what stands behind a sheet's name: a reference or a block, or a whole range
abbrev pub behind_sheet : Option ℕ → List Token → Option (Address × List Token) → Read
behind_sheet sheet tokens (Some front) = reference sheet front
behind_sheet sheet tokens None = sheet_range sheet (end_front tokens)

abbrev pub on_sheet : Option ℕ → List Token → Read
on_sheet sheet tokens = behind_sheet sheet tokens (corner_front tokens)

-- a sign's operand
abbrev pub signed : (ℕ → List Token → Read) → Option Sign → List Token → Read
signed R None rest = None
signed R (Some s) rest = and_then (R sign_level rest) (λ t after_t. Some (prefix s t, after_t))

-- a closing parenthesis after a tree
abbrev pub closed : Term Corner → List Token → Read
closed t tokens = option_map (λ rest. (paren t, rest)) (after tok.Close tokens)

-- what follows an argument: a comma and more arguments, or the closing parenthesis
abbrev pub argument_then : (List (Term Corner) → List Token → Read) → List ℕ → List (Term Corner) → Option (List Token) → Option (List Token) → Read
argument_then next word done (Some rest) closing = next done rest
argument_then next word done None (Some rest) = Some (call (capitals word) (terms_of done), rest)
argument_then next word done None None = None

abbrev pub arguments_step : (ℕ → List Token → Read) → (List (Term Corner) → List Token → Read) → List ℕ → List (Term Corner) → List Token → Read
arguments_step R next word done tokens =
    and_then (R 0 tokens) (λ t rest. argument_then next word (done ++ t ∷ []) (after tok.Comma rest) (after tok.Close rest))

-- the arguments of a call after those done, so many at most
unfoldable pub arguments : (ℕ → List Token → Read) → List ℕ → ℕ → List (Term Corner) → List Token → Read
arguments R word zero done tokens = None
arguments R word (suc most) done tokens = arguments_step R (arguments R word most) word done tokens

-- a call without arguments, or with some
abbrev pub call_then : (ℕ → List Token → Read) → List ℕ → List Token → Option (List Token) → Read
call_then R word tokens (Some rest) = Some (call (capitals word) no_terms, rest)
call_then R word tokens None = arguments R word (length tokens) [] tokens

abbrev pub call_front : (ℕ → List Token → Read) → List ℕ → List Token → Read
call_front R word tokens = option_and_then (λ rest. call_then R word rest (after tok.Close rest)) (after tok.Open tokens)

-- a tree that no operator follows yet: an atom, or a sign and its operand; home is the formula's sheet
abbrev pub first_at : ℕ → (List ℕ → Option ℕ) → (ℕ → List Token → Read) → Token → List Token → Read
first_at home find R (tok.Number w) rest = range_or (number_then (number_of w) rest) (Some home) (end_of ROWS (tok.Number w)) (after tok.Colon rest)
first_at home find R (tok.Text w) rest = Some (text w, rest)
first_at home find R (tok.Truth b) rest = Some (truth b, rest)
first_at home find R (tok.Fault f) rest = Some (fault f, rest)
first_at home find R (tok.Sheet s) rest = on_sheet (find s) rest
first_at home find R (tok.Corner a) rest = reference (Some home) (a, rest)
first_at home find R (tok.Name w) rest = range_or (Some (name w, rest)) (Some home) (end_of ROWS (tok.Name w)) (after tok.Colon rest)
first_at home find R (tok.Other w) rest = range_or None (Some home) (end_of ROWS (tok.Other w)) (after tok.Colon rest)
first_at home find R (tok.Word w) rest = call_front R w rest
first_at home find R (tok.Operator o) rest = signed R (sign_of o) rest
first_at home find R tok.Open rest = and_then (R 0 rest) closed
first_at home find R token rest = None

abbrev pub first : ℕ → (List ℕ → Option ℕ) → (ℕ → List Token → Read) → List Token → Read
first home find R [] = None
first home find R (token ∷ rest) = first_at home find R token rest

-- operators of level k or higher after a tree: each takes the tree as its left operand
abbrev pub climb_at : (ℕ → List Token → Read) → (Term Corner → List Token → Read) → ℕ → Term Corner → Token → List Token → Read
climb_at R next k left (tok.Operator o) rest = if nat_lt (level_of o) k
    then Some (left, tok.Operator o ∷ rest)
    else and_then (R (suc (level_of o)) rest) (λ right after_right. next (binary o left right) after_right)
climb_at R next k left tok.Percent rest = if nat_lt percent_level k then Some (left, tok.Percent ∷ rest) else next (percent left) rest
climb_at R next k left token rest = Some (left, token ∷ rest)

abbrev pub climb_step : (ℕ → List Token → Read) → (Term Corner → List Token → Read) → ℕ → Term Corner → List Token → Read
climb_step R next k left [] = Some (left, [])
climb_step R next k left (token ∷ rest) = climb_at R next k left token rest

-- at most so many operators, less one
unfoldable pub climb : (ℕ → List Token → Read) → ℕ → ℕ → Term Corner → List Token → Read
climb R zero k left tokens = None
climb R (suc most) k left tokens = climb_step R (climb R most k) k left tokens

-- a tree of level k in front, of at most so many levels
unfoldable pub read : ℕ → (List ℕ → Option ℕ) → ℕ → ℕ → List Token → Read
read home find zero k tokens = None
read home find (suc levels) k tokens = and_then (first home find (read home find levels) tokens) (climb (read home find levels) (suc levels) k)

-- how many levels a formula's tree may have
abbrev pub max_levels : ℕ
max_levels = MAX_LEVELS

-- nothing follows the tree, and it has no more levels than it may
abbrev pub whole_then : Term Corner → List Token → Option (Term Corner)
whole_then t [] = if nat_le (depth_of t) max_levels then Some t else None
whole_then t (token ∷ rest) = None

abbrev pub tree_of : ℕ → (List ℕ → Option ℕ) → List Token → Option (Term Corner)
tree_of home find tokens = and_then (read home find max_levels 0 tokens) whole_then

-- the tree of a text that begins with `=`
abbrev pub tree_of_text : ℕ → (List ℕ → Option ℕ) → List ℕ → Option (Term Corner)
tree_of_text home find [] = None
tree_of_text home find (c ∷ cs) = if c == 61 then option_and_then (tree_of home find) (tokens_of cs) else None
