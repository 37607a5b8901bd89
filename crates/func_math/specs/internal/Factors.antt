-- Products as they are worked out, one factor after another.
use Rattle.std.specs.Prelude.{ℤ, pos, List, [], ◌∷◌, Option, Some, None, Result, Ok, Err}
use Rattle.fix_num.specs.Number.{product}
use Rattle.fix_num.specs.declared.number.TheConstants.{ONE}
use Rattle.cell_value.specs.declared.fault.FaultKind.{FaultKind}
use Rattle.cell_value.specs.declared.scalar.Scalar.{Scalar}
use Rattle.cell_value.specs.declared.scalar.Scalar.TheVariants.{Number, Fault}
use Rattle.func_args.specs.Answers.{and_then, calculated}

-- the product of both; a product that failed stays so
abbrev pub multiplied : Result ℤ FaultKind → ℤ → Result ℤ FaultKind
multiplied p factor = and_then p (λ m. calculated (product m factor))

-- a product, if there is any yet, with one factor more
abbrev pub with_factor : Option (Result ℤ FaultKind) → ℤ → Option (Result ℤ FaultKind)
with_factor None factor = Some (multiplied (Ok (pos ONE)) factor)
with_factor (Some p) factor = Some (multiplied p factor)

-- a product with the numbers among further values, or their first fault
abbrev pub with_factors : Option (Result ℤ FaultKind) → List Scalar → Result (Option (Result ℤ FaultKind)) FaultKind
with_factors p [] = Ok p
with_factors p (Number n ∷ xs) = with_factors (with_factor p n) xs
with_factors p (Fault fault ∷ xs) = Err fault
with_factors p (_ ∷ xs) = with_factors p xs
