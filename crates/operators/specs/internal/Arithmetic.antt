-- Which operators compute with two numbers.
use Rattle.std.specs.Prelude.{⊤}
use Rattle.formula_tree.specs.declared.operator.Op.{Op}
use Rattle.formula_tree.specs.declared.operator.Op.TheVariants.{Add, Sub, Mul, Div, Power}

-- the operator is one of arithmetic
abbrev pub IsArithmetic : Op → Type 0
IsArithmetic Add = ⊤
IsArithmetic Sub = ⊤
IsArithmetic Mul = ⊤
IsArithmetic Div = ⊤
IsArithmetic Power = ⊤
IsArithmetic _ = ⊥
