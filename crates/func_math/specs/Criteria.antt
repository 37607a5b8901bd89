-- Criteria, as COUNTIF and SUMIF take. Source: OpenFormula's criteria; that the texts of numbers are
-- read as numbers everywhere, and that `<>` matches no fault, is this project's own.
use Rattle.std.specs.Prelude.{ℕ, ℤ, pos, Bool, true, false, not, ◌&&◌, ◌||◌, if◌then◌else◌, nat_eq, List, [], ◌∷◌, length, drop, Result, Ok, Err, codes}
use Rattle.std.specs.List.{starts_with}
use Rattle.std.specs.declared.cmp.Ordering.{Ordering}
use Rattle.std.specs.Ordering.{is_some_and, is_eq, is_lt, is_gt, is_le, is_ge}
use Rattle.fix_num.specs.declared.error.NumError.{NumError}
use Rattle.fix_num.specs.Text.{number_of}
use Rattle.cell_value.specs.declared.scalar.Scalar.{Scalar}
use Rattle.cell_value.specs.declared.scalar.Scalar.TheVariants.{Empty, Number, Text, Fault}
use Rattle.cell_value.specs.Scalar.{is_empty}
use Rattle.func_args.specs.Kinds.{order_in_kind}
use Rattle.func_math.specs.declared.criterion.Comparison.{Comparison}
use Rattle.func_math.specs.declared.criterion.Comparison.TheVariants.{Equal, Unequal, Less, Greater, AtMost, AtLeast}
use Rattle.func_math.specs.declared.criterion.Criterion.{Criterion}

-- the comparisons that a text may begin with, the longer ones first
abbrev pub comparisons : List (List ℕ × Comparison)
comparisons = (codes "<=", AtMost) ∷ (codes ">=", AtLeast) ∷ (codes "<>", Unequal) ∷ (codes "=", Equal) ∷ (codes "<", Less) ∷ (codes ">", Greater) ∷ []

-- the first comparison of these that the text begins with, and the text that follows it; where it
-- begins with none it is compared by `=`
abbrev pub split_by : List (List ℕ × Comparison) → List ℕ → Comparison × List ℕ
split_by [] text = (Equal, text)
split_by (c ∷ rest) text = if starts_with nat_eq text c.0 then (c.1, drop (length c.0) text) else split_by rest text

abbrev pub split : List ℕ → Comparison × List ℕ
split text = split_by comparisons text

-- a number where the text can be read as one, else the text
abbrev pub number_or_text : Result ℤ NumError → List ℕ → Scalar
number_or_text (Ok number) text = Number number
number_or_text (Err error) text = Text text

abbrev pub operand_of : List ℕ → Scalar
operand_of text = number_or_text (number_of text) text

-- the criterion of a value: nothing is 0, a text may begin with a comparison, and any other value is
-- compared by `=`
abbrev pub criterion_of : Scalar → Criterion
criterion_of Empty = record { comparison = Equal; operand = Number (pos 0) }
criterion_of (Text text) = record { comparison = (split text).0; operand = operand_of (split text).1 }
criterion_of x = record { comparison = Equal; operand = x }

-- the value is a fault
abbrev pub is_fault : Scalar → Bool
is_fault (Fault _) = true
is_fault _ = false

-- the text of no characters
abbrev pub is_blank : Scalar → Bool
is_blank (Text []) = true
is_blank _ = false

-- the value is of the operand's kind and compares so
abbrev pub compares : (Ordering → Bool) → Scalar → Scalar → Bool
compares test operand x = is_some_and test (order_in_kind x operand)

-- the value equals the operand, or is empty where that is the text of no characters
abbrev pub is_equal : Scalar → Scalar → Bool
is_equal operand x = compares is_eq operand x || (is_empty x && is_blank operand)

-- the value matches such an operand
abbrev pub matches_by : Comparison → Scalar → Scalar → Bool
matches_by Equal operand x = is_equal operand x
matches_by Unequal operand x = not (is_equal operand x) && not (is_fault x)
matches_by Less operand x = compares is_lt operand x
matches_by Greater operand x = compares is_gt operand x
matches_by AtMost operand x = compares is_le operand x
matches_by AtLeast operand x = compares is_ge operand x

-- the value matches the criterion
abbrev pub matches : Criterion → Scalar → Bool
matches criterion x = matches_by criterion.comparison criterion.operand x
