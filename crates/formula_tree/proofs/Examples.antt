-- What the definitions say of single texts, by computation alone: the expected trees are OpenFormula's for
-- the operators, and this project's own for the rest.
use Rattle.std.proofs.Common.{◌≡◌, refl, ℕ, pos, ◌*◌, Bool, true, false, List, [], ◌∷◌, Option, Some, None}
use Rattle.std.specs.Prelude.{codes}
use Rattle.std.specs.Fmt.{digits}
use Rattle.cell_addr.specs.declared.axis.Axis.TheVariants.{Rows, Cols}
use Rattle.cell_addr.specs.Sheets.{id_in, name_in}
use Rattle.cell_value.specs.declared.fault.FaultKind.TheVariants as kinds
use Rattle.fix_num.specs.Text.{decimals_of}
use Rattle.formula_tree.specs.declared.reference.Corner.{Corner}
use Rattle.formula_tree.specs.declared.operator.Op.TheVariants as op
use Rattle.formula_tree.specs.declared.operator.Sign.TheVariants as sign
use Rattle.formula_tree.specs.Term.{Term, number, truth, fault, cell, area, name, prefix, percent, binary, call, no_terms, term}
use Rattle.formula_tree.specs.Reader.{climb, arguments, read, tree_of_text}
use Rattle.formula_tree.specs.Tokens.{tokens_in_by}
use Rattle.formula_tree.specs.Whole.{whole_term}
use Rattle.formula_tree.specs.Canonical.{formula_text}

-- two sheets, of which the home is the first
abbrev sheets : List (ℕ × List ℕ)
sheets = (0, codes "Sheet1") ∷ (1, codes "My Plan") ∷ []

abbrev Reads : List ℕ → Option (Term Corner) → Type 0
Reads text tree = tree_of_text 0 (id_in sheets) text ≡ tree

abbrev Prints : Term Corner → List ℕ → Type 0
Prints tree text = formula_text 0 (name_in sheets) tree ≡ text

abbrev units : ℕ → Term Corner
units n = number (pos (n * 1000000))

abbrev corner : ℕ → ℕ → ℕ → Bool → Bool → Corner
corner sheet row col row_fixed col_fixed = record { at = record { sheet = sheet; row = row; col = col }; row_fixed = row_fixed; col_fixed = col_fixed }

product_first : Reads (codes "=1+2*3") (Some (binary op.Add (units 1) (binary op.Mul (units 2) (units 3))))
unfolding tokens_in_by climb arguments read
product_first = refl

leftward : Reads (codes "=2^3^2") (Some (binary op.Power (binary op.Power (units 2) (units 3)) (units 2)))
unfolding tokens_in_by climb arguments read
leftward = refl

sign_first : Reads (codes "=-2^-1%") (Some (binary op.Power (prefix sign.Minus (units 2)) (percent (prefix sign.Minus (units 1)))))
unfolding tokens_in_by climb arguments read
sign_first = refl

comparisons_last : Reads (codes "=1&2=3<>4") (Some (binary op.Unequal (binary op.Equal (binary op.Join (units 1) (units 2)) (units 3)) (units 4)))
unfolding tokens_in_by climb arguments read
comparisons_last = refl

word_before_address : Reads (codes "=a1 (1)") (Some (call (codes "A1") (term (units 1) no_terms)))
unfolding tokens_in_by climb arguments read
word_before_address = refl

address_within_limits : Reads (codes "=A1048576+A1048577") (Some (binary op.Add (cell (corner 0 1048575 0 false false)) (name (codes "A1048577"))))
unfolding tokens_in_by climb arguments read
address_within_limits = refl

corners_in_order : Reads (codes "=B$1:$A2") (Some (area (corner 0 0 0 true true) (corner 0 1 1 false false)))
unfolding tokens_in_by climb arguments read
corners_in_order = refl

quoted_sheet : Reads (codes "='my plan'!a1") (Some (cell (corner 1 0 0 false false)))
unfolding tokens_in_by climb arguments read
quoted_sheet = refl

unknown_sheet : Reads (codes "=Nope!A1:B2") (Some (fault kinds.Ref))
unfolding tokens_in_by climb arguments read
unknown_sheet = refl

blank_at_sheet : Reads (codes "=Sheet1! A1") None
unfolding tokens_in_by climb arguments read
blank_at_sheet = refl

no_exponent : Reads (codes "=1e3") None
unfolding tokens_in_by climb arguments read
no_exponent = refl

out_of_range : Reads (codes "=1000000000000") None
unfolding tokens_in_by climb arguments read
out_of_range = refl

name_at_colon : Reads (codes "=A1:RATE") None
unfolding tokens_in_by climb arguments read
name_at_colon = refl

columns : Reads (codes "=c:$A") (Some (whole_term (record { sheet = 0; axis = Cols; first = 0; last = 2 }) true false))
unfolding tokens_in_by climb arguments read
columns = refl

equal_ends : Reads (codes "=$A:A") (Some (whole_term (record { sheet = 0; axis = Cols; first = 0; last = 0 }) true false))
unfolding tokens_in_by climb arguments read
equal_ends = refl

blank_at_rows : Reads (codes "=Sum('my plan'! 2:5)") None
unfolding tokens_in_by climb arguments read
blank_at_rows = refl

rows : Reads (codes "=SUM('my plan'!5 : $2)") (Some (call (codes "SUM") (term (whole_term (record { sheet = 1; axis = Rows; first = 1; last = 4 }) true false) no_terms)))
unfolding tokens_in_by climb arguments read
rows = refl

unknown_whole : Reads (codes "=Nope!A:B") (Some (fault kinds.Ref))
unfolding tokens_in_by climb arguments read
unknown_whole = refl

column_beside_row : Reads (codes "=A:1") None
unfolding tokens_in_by climb arguments read
column_beside_row = refl

column_beside_corner : Reads (codes "=A:B2") None
unfolding tokens_in_by climb arguments read
column_beside_corner = refl

corner_beside_column : Reads (codes "=A1:B") None
unfolding tokens_in_by climb arguments read
corner_beside_column = refl

row_with_zero : Reads (codes "=02:3") None
unfolding tokens_in_by climb arguments read
row_with_zero = refl

row_with_point : Reads (codes "=2.:3") None
unfolding tokens_in_by climb arguments read
row_with_point = refl

row_past_limit : Reads (codes "=1:1048577") None
unfolding tokens_in_by climb arguments read
row_past_limit = refl

four_letters : Reads (codes "=ABCD:A") None
unfolding tokens_in_by climb arguments read
four_letters = refl

call_beside_colon : Reads (codes "=A:B(1)") None
unfolding tokens_in_by climb arguments read
call_beside_colon = refl

sheet_twice : Reads (codes "=Sheet1!A:Sheet1!B") None
unfolding tokens_in_by climb arguments read
sheet_twice = refl

column_alone : Reads (codes "=A+$A") None
unfolding tokens_in_by climb arguments read
column_alone = refl

letter_is_a_name : Reads (codes "=A") (Some (name (codes "A")))
unfolding tokens_in_by climb arguments read
letter_is_a_name = refl

no_tree : Reads (codes "=") None
unfolding tokens_in_by climb arguments read
no_tree = refl

prints_sheet : Prints (binary op.Add (cell (corner 1 4 27 true false)) (number (pos 500000))) (codes "='My Plan'!AB$5+0.5")
unfolding decimals_of digits
prints_sheet = refl

prints_block : Prints (call (codes "SUM") (term (area (corner 0 0 0 true true) (corner 0 1 1 false false)) (term (truth true) no_terms))) (codes "=SUM($A$1:B2,TRUE)")
unfolding decimals_of digits
prints_block = refl

prints_whole : Prints (whole_term (record { sheet = 1; axis = Cols; first = 0; last = 27 }) true false) (codes "='My Plan'!$A:AB")
unfolding decimals_of digits
prints_whole = refl

prints_rows : Prints (whole_term (record { sheet = 0; axis = Rows; first = 1; last = 4 }) false true) (codes "=2:$5")
unfolding decimals_of digits
prints_rows = refl
