-- TRIM. Source: OpenFormula, of which the space U+0020 alone counts.
use Rattle.std.specs.Prelude.{ℕ, ◌==◌, Bool, true, false, not, ◌&&◌, if◌then◌else◌, List, [], ◌∷◌, chars}
use Rattle.std.specs.List.{list_any}
use Rattle.cell_value.specs.declared.argument.Arg.{Arg}
use Rattle.cell_value.specs.declared.scalar.Scalar.{Scalar}
use Rattle.func_args.specs.Answers.{then_value}
use Rattle.func_text.specs.Arguments.{made, one_text}
use Rattle.func_text.specs.declared.trim.TheConstants.{SPACE}

-- some character is no space
abbrev pub has_word : List ℕ → Bool
has_word cs = list_any (λ c. not (c == SPACE)) cs

-- the characters that stay, after a character that is a space or is none: a space stays where it follows
-- a character that is none and one that is none comes after it
abbrev pub kept : Bool → List ℕ → List ℕ
kept after_word [] = []
kept after_word (c ∷ cs) =
    if c == SPACE then (if after_word && has_word cs then SPACE ∷ kept false cs else kept false cs)
    else c ∷ kept true cs

-- the characters without spaces at their ends, and with one between words
abbrev pub trimmed : List ℕ → List ℕ
trimmed cs = kept false cs

-- TRIM(T)
abbrev pub trim_value : List Arg → Scalar
trim_value args = then_value (one_text args) (λ t. made (trimmed (chars t)))
