-- The levels of the grammar: how strongly operators bind. Source: OpenFormula.
use Rattle.std.specs.Prelude.{ℕ, Option, Some, None}
use Rattle.formula_tree.specs.declared.operator.TheConstants.{PERCENT_LEVEL, SIGN_LEVEL}
use Rattle.formula_tree.specs.declared.operator.Op.{Op}
use Rattle.formula_tree.specs.declared.operator.Op.TheVariants.{Add, Sub, Mul, Div, Power, Join, Equal, Unequal, Less, Greater, AtMost, AtLeast}
use Rattle.formula_tree.specs.declared.operator.Sign.{Sign}
use Rattle.formula_tree.specs.declared.operator.Sign.TheVariants.{Plus, Minus}
use Rattle.formula_tree.specs.Term.{Term, prefix, percent, binary}

-- the level of an operator between two operands: comparisons bind least, and ^ most
abbrev pub level_of : Op → ℕ
level_of Equal = 0
level_of Unequal = 0
level_of Less = 0
level_of Greater = 0
level_of AtMost = 0
level_of AtLeast = 0
level_of Join = 1
level_of Add = 2
level_of Sub = 2
level_of Mul = 3
level_of Div = 3
level_of Power = 4

-- `%` binds more strongly than these, signs more strongly than `%`, and atoms are whole
abbrev pub percent_level : ℕ
percent_level = PERCENT_LEVEL

abbrev pub sign_level : ℕ
sign_level = SIGN_LEVEL

abbrev pub atom_level : ℕ
atom_level = 7

-- the level of a tree: that of its outermost operator
abbrev pub level : {R : Type 0} → Term R → ℕ
level (binary o l r) = level_of o
level (percent t) = percent_level
level (prefix s t) = sign_level
level t = atom_level

-- the operator that is written like a sign
abbrev pub op_of : Sign → Op
op_of Plus = Add
op_of Minus = Sub

-- the sign that is written like an operator, where there is one
abbrev pub sign_of : Op → Option Sign
sign_of Add = Some Plus
sign_of Sub = Some Minus
sign_of o = None
