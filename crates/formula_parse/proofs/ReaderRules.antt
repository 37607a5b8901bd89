-- The reader's steps by what the program asks of a text, and the terms of nodes. Serves the reader.
use Rattle.std.proofs.Common.{◌≡◌, refl, ℕ, suc, List, [], ◌∷◌, Option, Some, None}
use Rattle.std.specs.Prelude.{nat_lt, if◌then◌else◌}
use Rattle.formula_tree.specs.declared.reference.Corner.{Corner}
use Rattle.formula_tree.specs.Term.{Term, binary, percent}
use Rattle.formula_tree.specs.Token.{Token}
use Rattle.formula_tree.specs.Token as tok
use Rattle.formula_tree.specs.Level.{level_of, percent_level}
use Rattle.formula_tree.specs.Reader.{Read, and_then, after, range_or, first_at, climb_step}
use Rattle.formula_tree.proofs.ReaderSteps.{read_none, read_more, climb_none, climb_more, arguments_none, arguments_more}
use Rattle.formula_tree.proofs.RelativeNodes.{relative-Call, relative_list-trees}
use Rattle.formula_parse.specs.declared.token.Mark.{Mark}
use Rattle.formula_parse.specs.declared.token.Mark.TheVariants as marks
use Rattle.formula_parse.specs.internal.Front.{mark_token, text_of, sheet_of}
use Rattle.formula_parse.specs.internal.Stream.{symbol_front}
use Rattle.formula_parse.specs.internal.Tree.{text_then, sheet_then}

-- what begins no token, and whatever follows it
no_range : (sheet : Option ℕ) (rest : Option (List Token)) → range_or None sheet None rest ≡ None
no_range sheet None = refl
no_range sheet (Some rest) = refl

pub first_stray : (home : ℕ) (find : List ℕ → Option ℕ) (R : ℕ → List Token → Read) (rest : List Token) → first_at home find R (tok.Other []) rest ≡ None
first_stray home find R rest = no_range (Some home) (after tok.Colon rest)

-- texts and sheets' names between quotes
pub first_quoted : (home : ℕ) (find : List ℕ → Option ℕ) (R : ℕ → List Token → Read) (content : Option (List ℕ)) (rest : List Token)
    → first_at home find R (text_of content) rest ≡ text_then content rest
first_quoted home find R None rest = first_stray home find R rest
first_quoted home find R (Some p) rest = refl

pub first_quoted_sheet : (home : ℕ) (find : List ℕ → Option ℕ) (R : ℕ → List Token → Read) (content : Option (List ℕ)) (rest : List Token)
    → first_at home find R (sheet_of content) rest ≡ sheet_then find content rest
first_quoted_sheet home find R None rest = first_stray home find R rest
first_quoted_sheet home find R (Some p) rest = refl

-- operators after a tree, by the symbol in front of what follows it
abbrev pub climb_symbol : (ℕ → List Token → Read) → (Term Corner → List Token → Read) → ℕ → Term Corner → List Token → Option (Token × List Token) → Read
climb_symbol R next k left tokens (Some (tok.Operator o, rest)) = if nat_lt (level_of o) k
    then Some (left, tokens)
    else and_then (R (suc (level_of o)) rest) (λ right after. next (binary o left right) after)
climb_symbol R next k left tokens (Some (tok.Percent, rest)) = if nat_lt percent_level k then Some (left, tokens) else next (percent left) rest
climb_symbol R next k left tokens symbol = Some (left, tokens)

pub climb_by_symbol : (R : ℕ → List Token → Read) (next : Term Corner → List Token → Read) (k : ℕ) (left : Term Corner) (tokens : List Token)
    → climb_step R next k left tokens ≡ climb_symbol R next k left tokens (symbol_front tokens)
climb_by_symbol R next k left [] = refl
climb_by_symbol R next k left (tok.Operator o ∷ rest) = refl
climb_by_symbol R next k left (tok.Percent ∷ rest) = refl
climb_by_symbol R next k left (token ∷ rest) = refl

pub climb_mark : (R : ℕ → List Token → Read) (next : Term Corner → List Token → Read) (k : ℕ) (left : Term Corner) (tokens : List Token) (m : Mark) (rest : List Token)
    → climb_symbol R next k left tokens (Some (mark_token m, rest)) ≡ Some (left, tokens)
climb_mark R next k left tokens marks.Colon rest = refl
climb_mark R next k left tokens marks.Comma rest = refl
climb_mark R next k left tokens marks.Open rest = refl
climb_mark R next k left tokens marks.Close rest = refl

pub ruleset reader_rules =
    (read_none, read_more, climb_none, climb_more, arguments_none, arguments_more, first_stray, first_quoted, first_quoted_sheet, climb_by_symbol, climb_mark, relative-Call, relative_list-trees)
