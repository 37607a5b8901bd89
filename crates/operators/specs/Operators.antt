-- What operators make of values. Source: OpenFormula's operators and conversions; the texts that are numbers, and
-- the limit on joined texts, are this project's own.
use Rattle.std.specs.Prelude.{ℤ, pos, ◌+ℤ◌, ◌-ℤ◌, ◌*◌, Bool, ◌++◌, Result, Ok, Err}
use Rattle.std.specs.declared.cmp.Ordering.{Ordering}
use Rattle.std.specs.Ordering.{is_eq, is_ne, is_lt, is_gt, is_le, is_ge}
use Rattle.fix_num.specs.declared.error.NumError.{NumError}
use Rattle.fix_num.specs.Number.{within, product, quotient, power_of}
use Rattle.cell_value.specs.declared.scalar.Scalar.{Scalar}
use Rattle.cell_value.specs.declared.scalar.Scalar.TheVariants as scalar
use Rattle.cell_value.specs.declared.fault.FaultKind.{FaultKind}
use Rattle.cell_value.specs.Scalar.{to_number, shown_text, order_of, scalar_of, made_text}
use Rattle.fix_num.specs.declared.number.TheConstants.{ONE}
use Rattle.formula_tree.specs.declared.operator.Op.{Op}
use Rattle.formula_tree.specs.declared.operator.Op.TheVariants.{Add, Sub, Mul, Div, Power, Join, Equal, Unequal, Less, Greater, AtMost, AtLeast}
use Rattle.formula_tree.specs.declared.operator.Sign.{Sign}
use Rattle.formula_tree.specs.declared.operator.Sign.TheVariants.{Plus, Minus}

-- a calculation with one number; a value that is no number gives its fault
abbrev pub computed : (ℤ → Result ℤ NumError) → Result ℤ FaultKind → Scalar
computed calculate (Ok m) = scalar_of (calculate m)
computed calculate (Err k) = scalar.Fault k

-- a calculation with two numbers; the fault of the left one comes first
abbrev pub computed_both : (ℤ → ℤ → Result ℤ NumError) → Result ℤ FaultKind → Result ℤ FaultKind → Scalar
computed_both calculate (Ok m) right = computed (calculate m) right
computed_both calculate (Err k) right = scalar.Fault k

-- the texts of two values, one after the other; the fault of the left one comes first
abbrev pub joined : Scalar → Scalar → Scalar
joined (scalar.Fault k) b = scalar.Fault k
joined a (scalar.Fault k) = scalar.Fault k
joined a b = made_text (shown_text a ++ shown_text b)

-- the answer of a comparison as a value; a fault stays
abbrev pub truth_or_fault : Result Bool FaultKind → Scalar
truth_or_fault (Ok answer) = scalar.Truth answer
truth_or_fault (Err k) = scalar.Fault k

-- whether two values compare so; the fault that decides comes first
abbrev pub compared : (Ordering → Bool) → Result Ordering FaultKind → Scalar
compared test (Ok order) = scalar.Truth (test order)
compared test (Err k) = scalar.Fault k

-- what an operator makes of two values
abbrev pub combined : Op → Scalar → Scalar → Scalar
combined Add a b = computed_both (λ m n. within (m +ℤ n)) (to_number a) (to_number b)
combined Sub a b = computed_both (λ m n. within (m -ℤ n)) (to_number a) (to_number b)
combined Mul a b = computed_both product (to_number a) (to_number b)
combined Div a b = computed_both quotient (to_number a) (to_number b)
combined Power a b = computed_both power_of (to_number a) (to_number b)
combined Join a b = joined a b
combined Equal a b = compared is_eq (order_of a b)
combined Unequal a b = compared is_ne (order_of a b)
combined Less a b = compared is_lt (order_of a b)
combined Greater a b = compared is_gt (order_of a b)
combined AtMost a b = compared is_le (order_of a b)
combined AtLeast a b = compared is_ge (order_of a b)

-- a sign: plus leaves its operand as it is, minus takes it from 0
abbrev pub signed_value : Sign → Scalar → Scalar
signed_value Plus a = a
signed_value Minus a = computed (λ m. within (pos 0 -ℤ m)) (to_number a)

-- a percent sign divides by 100
abbrev pub hundredth : Scalar → Scalar
hundredth a = computed (λ m. quotient m (pos (100 * ONE))) (to_number a)
