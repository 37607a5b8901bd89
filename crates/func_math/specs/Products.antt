-- PRODUCT. Source: OpenFormula; that each product is rounded and tested for range is this project's own.
use Rattle.std.specs.Prelude.{ℤ, pos, List, [], ◌∷◌, Result, Ok, Err}
use Rattle.fix_num.specs.Number.{product}
use Rattle.fix_num.specs.declared.number.TheConstants.{ONE}
use Rattle.cell_value.specs.declared.argument.Arg.{Arg}
use Rattle.cell_value.specs.declared.fault.FaultKind.{FaultKind}
use Rattle.cell_value.specs.declared.scalar.Scalar.{Scalar}
use Rattle.cell_value.specs.declared.scalar.Scalar.TheVariants.{Number, Fault}
use Rattle.func_args.specs.Answers.{and_then, calculated}
use Rattle.func_args.specs.Lists.{list_values}

-- the numbers among values, or their first fault
abbrev pub numbers_in : List Scalar → Result (List ℤ) FaultKind
numbers_in [] = Ok []
numbers_in (Number n ∷ xs) = and_then (numbers_in xs) (λ ns. Ok (n ∷ ns))
numbers_in (Fault fault ∷ xs) = Err fault
numbers_in (_ ∷ xs) = numbers_in xs

-- a product times further numbers, one after another; out of range it stays so
abbrev pub multiplied_by : Result ℤ FaultKind → List ℤ → Result ℤ FaultKind
multiplied_by p [] = p
multiplied_by p (n ∷ ns) = multiplied_by (and_then p (λ m. calculated (product m n))) ns

-- from 1, multiplied in order; of no numbers 0
abbrev pub product_of : List ℤ → Result ℤ FaultKind
product_of [] = Ok (pos 0)
product_of (n ∷ ns) = multiplied_by (Ok (pos ONE)) (n ∷ ns)

-- PRODUCT(L, ..): a fault among the values decides before any product is tested
abbrev pub product_value : List Arg → Result ℤ FaultKind
product_value args = and_then (list_values args) (λ xs. and_then (numbers_in xs) product_of)
