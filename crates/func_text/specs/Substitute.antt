-- SUBSTITUTE. Source: OpenFormula.
use Rattle.std.specs.Prelude.{ℕ, zero, suc, ◌+◌, ◌-◌, ◌==◌, if◌then◌else◌, ℤ, pos, unsigned_abs, int_lt, List, [], ◌∷◌, ◌++◌, Option, Some, None, chars, length}
use Rattle.cell_value.specs.declared.argument.Arg.{Arg}
use Rattle.cell_value.specs.declared.fault.FaultKind.TheVariants.{Na, Value}
use Rattle.cell_value.specs.declared.scalar.Scalar.{Scalar}
use Rattle.cell_value.specs.declared.scalar.Scalar.TheVariants.{Fault}
use Rattle.func_args.specs.Arguments.{whole}
use Rattle.func_args.specs.Answers.{then_value}
use Rattle.func_text.specs.Arguments.{made, text}
use Rattle.func_text.specs.Find.{begins}

-- what stands for the occurrence of this number, from 1: the new text where that occurrence is meant, or
-- each, and else the old text
abbrev pub stands_for : Option ℕ → List ℕ → List ℕ → ℕ → List ℕ
stands_for (Some meant) old new number = if meant == number then new else old
stands_for None old new number = new

-- the characters with what stands for each occurrence of the old ones, from the left, where the next
-- occurrence has this number and so many characters belong to the one before it
unfoldable pub replaced : Option ℕ → List ℕ → List ℕ → ℕ → ℕ → List ℕ → List ℕ
replaced which old new number covered [] = []
replaced which old new number (suc covered) (c ∷ cs) = replaced which old new number covered cs
replaced which old new number zero (c ∷ cs) =
    if begins old (c ∷ cs) then stands_for which old new number ++ replaced which old new (number + 1) (length old - 1) cs
    else c ∷ replaced which old new number zero cs

-- a text of no characters occurs nowhere
abbrev pub replaced_all : Option ℕ → List ℕ → List ℕ → List ℕ → List ℕ
replaced_all which [] new cs = cs
replaced_all which old new cs = replaced which old new 1 0 cs

-- the text with each occurrence of the old one replaced, or the one of this number alone
abbrev pub substituted : List ℕ → List ℕ → List ℕ → Option ℤ → Scalar
substituted t old new None = made (replaced_all None (chars old) (chars new) (chars t))
substituted t old new (Some n) = if int_lt n (pos 1) then Fault Value else made (replaced_all (Some (unsigned_abs n)) (chars old) (chars new) (chars t))

-- SUBSTITUTE(T, T, T [, N])
abbrev pub substitute_value : List Arg → Scalar
substitute_value (a ∷ b ∷ c ∷ []) =
    then_value (text a) (λ t. then_value (text b) (λ old. then_value (text c) (λ new. substituted t old new None)))
substitute_value (a ∷ b ∷ c ∷ d ∷ []) =
    then_value (text a) (λ t. then_value (text b) (λ old. then_value (text c) (λ new. then_value (whole d) (λ n. substituted t old new (Some n)))))
substitute_value _ = Fault Na
