-- The values of cells: how a value of one kind becomes another kind, what a person sees of it, and
-- the order of all values. Source: OpenFormula's conversions and comparisons; that texts fold ASCII
-- letters alone, and that numbers stand before texts before truth values, is this project's own.
use Rattle.std.specs.Prelude.{ℕ, ◌==◌, nat_le, length, ℤ, pos, Bool, true, false, not, if◌then◌else◌, List, [], Result, Ok, Err, codes, bytes_eq}
use Rattle.std.specs.declared.cmp.Ordering.{Ordering}
use Rattle.std.specs.Bool.{beq}
use Rattle.std.specs.Ordering.{nat_cmp, int_cmp, int_eq, bool_cmp}
use Rattle.std.specs.Cmp.Lexicographic.{slice_cmp}
use Rattle.cell_addr.specs.Text.{folded}
use Rattle.fix_num.specs.declared.error.NumError.{NumError}
use Rattle.fix_num.specs.Text.{number_of, text_of}
use Rattle.fix_num.specs.declared.number.TheConstants.{ONE}
use Rattle.cell_value.specs.declared.fault.FaultKind.{FaultKind}
use Rattle.cell_value.specs.declared.fault.FaultKind.TheVariants as fault
use Rattle.cell_value.specs.declared.scalar.Scalar.{Scalar}
use Rattle.cell_value.specs.declared.scalar.TheConstants.{MAX_MADE_TEXT}
use Rattle.cell_value.specs.declared.scalar.Scalar.TheVariants.{Empty, Number, Text, Truth, Fault}
use Rattle.cell_value.specs.Fault.{fault_of_error, fault_text, spells}

-- the value is that of a cell without content
abbrev pub is_empty : Scalar → Bool
is_empty Empty = true
is_empty _ = false

-- TRUE as a number is 1 and FALSE 0, in millionths
abbrev pub truth_number : Bool → ℤ
truth_number true = pos ONE
truth_number false = pos 0

-- the value of a calculation: its number, or the fault that it failed by
abbrev pub scalar_of : Result ℤ NumError → Scalar
scalar_of (Ok number) = Number number
scalar_of (Err error) = Fault (fault_of_error error)

-- what was read as a number, or #VALUE! where it is no number within the limits
abbrev pub read_number : Result ℤ NumError → Result ℤ FaultKind
read_number (Ok number) = Ok number
read_number (Err _) = Err fault.Value

-- a value as a number, in millionths
abbrev pub to_number : Scalar → Result ℤ FaultKind
to_number Empty = Ok (pos 0)
to_number (Number number) = Ok number
to_number (Text text) = read_number (number_of text)
to_number (Truth truth) = Ok (truth_number truth)
to_number (Fault fault) = Err fault

-- how a truth value is spelled
abbrev pub truth_text : Bool → List ℕ
truth_text true = codes "TRUE"
truth_text false = codes "FALSE"

-- the truth value that a text spells, with letters in any case
abbrev pub read_truth : List ℕ → Result Bool FaultKind
read_truth text =
    if spells text (truth_text true) then Ok true
    else if spells text (truth_text false) then Ok false
    else Err fault.Value

-- a value as a truth value: any number but 0 is TRUE
abbrev pub to_truth : Scalar → Result Bool FaultKind
to_truth Empty = Ok false
to_truth (Number number) = Ok (not (int_eq number (pos 0)))
to_truth (Text text) = read_truth text
to_truth (Truth truth) = Ok truth
to_truth (Fault fault) = Err fault

-- what a person sees of a value
abbrev pub shown_text : Scalar → List ℕ
shown_text Empty = []
shown_text (Number number) = text_of number
shown_text (Text text) = text
shown_text (Truth truth) = truth_text truth
shown_text (Fault fault) = fault_text fault

-- a value as a text: what a person sees of it, but a fault stays that fault
abbrev pub to_text : Scalar → Scalar
to_text (Fault fault) = Fault fault
to_text x = Text (shown_text x)

-- a text that a formula made, as a value: a longer one is #VALUE!
abbrev pub made_text : List ℕ → Scalar
made_text text = if nat_le (length text) MAX_MADE_TEXT then Text text else Fault fault.Value

-- what a value counts as beside another: nothing is 0, beside a text the text of no characters, and
-- beside a truth value FALSE
abbrev pub beside : Scalar → Scalar → Scalar
beside Empty (Text _) = Text []
beside Empty (Truth _) = Truth false
beside Empty _ = Number (pos 0)
beside x _ = x

-- the place of each kind in the order: numbers, then texts, then truth values. Nothing and faults
-- stand at its ends, where no comparison meets them: beside a value nothing counts as one of its
-- kind, and a fault decides before
abbrev pub kind_rank : Scalar → ℕ
kind_rank Empty = 0
kind_rank (Number _) = 1
kind_rank (Text _) = 2
kind_rank (Truth _) = 3
kind_rank (Fault _) = 4

-- the two values are of one kind
abbrev pub same_kind : Scalar → Scalar → Bool
same_kind a b = kind_rank a == kind_rank b

-- the order of texts: by their bytes, with ASCII capitals made small
abbrev pub text_order : List ℕ → List ℕ → Ordering
text_order a b = slice_cmp nat_cmp (folded a) (folded b)

-- the order of values: numbers by size, texts by their letters, FALSE before TRUE, and values of two
-- kinds by their kinds
abbrev pub value_order : Scalar → Scalar → Ordering
value_order (Number a) (Number b) = int_cmp a b
value_order (Text a) (Text b) = text_order a b
value_order (Truth a) (Truth b) = bool_cmp a b
value_order a b = nat_cmp (kind_rank a) (kind_rank b)

-- the order of two values as they count beside each other
abbrev pub counted_order : Scalar → Scalar → Ordering
counted_order a b = value_order (beside a b) (beside b a)

-- how the first value compares with the second, or the fault that decides, the first one's before
-- the second one's
abbrev pub order_of : Scalar → Scalar → Result Ordering FaultKind
order_of (Fault fault) _ = Err fault
order_of _ (Fault fault) = Err fault
order_of a b = Ok (counted_order a b)

-- whether two values are the same: of one kind, and the same number, the same bytes, the same truth
-- value or the same fault
abbrev pub same_value : Scalar → Scalar → Bool
same_value Empty Empty = true
same_value (Number a) (Number b) = int_eq a b
same_value (Text a) (Text b) = bytes_eq a b
same_value (Truth a) (Truth b) = beq a b
same_value (Fault a) (Fault b) = bytes_eq (fault_text a) (fault_text b)
same_value _ _ = false
