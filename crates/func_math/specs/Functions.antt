-- The functions of numbers and their words. Source: OpenFormula.
use Rattle.std.specs.Prelude.{ℕ, ◌==◌, Bool, true, false, not, List, [], ◌∷◌, Option, codes, bytes_eq}
use Rattle.std.specs.List.{find}
use Rattle.func_math.specs.declared.function.MathFn.{MathFn}
use Rattle.func_math.specs.declared.function.MathFn.TheVariants.{Sum, Average, Min, Max, Count, CountA, CountBlank, Product, SumIf, CountIf, Abs, Sign, Int, Trunc, Round, RoundUp, RoundDown, Mod, Quotient, Power, IsEven, IsOdd}

-- the word of each function
abbrev pub function_word : MathFn → List ℕ
function_word Sum = codes "SUM"
function_word Average = codes "AVERAGE"
function_word Min = codes "MIN"
function_word Max = codes "MAX"
function_word Count = codes "COUNT"
function_word CountA = codes "COUNTA"
function_word CountBlank = codes "COUNTBLANK"
function_word Product = codes "PRODUCT"
function_word SumIf = codes "SUMIF"
function_word CountIf = codes "COUNTIF"
function_word Abs = codes "ABS"
function_word Sign = codes "SIGN"
function_word Int = codes "INT"
function_word Trunc = codes "TRUNC"
function_word Round = codes "ROUND"
function_word RoundUp = codes "ROUNDUP"
function_word RoundDown = codes "ROUNDDOWN"
function_word Mod = codes "MOD"
function_word Quotient = codes "QUOTIENT"
function_word Power = codes "POWER"
function_word IsEven = codes "ISEVEN"
function_word IsOdd = codes "ISODD"

-- all functions of numbers
abbrev pub functions : List MathFn
functions = Sum ∷ Average ∷ Min ∷ Max ∷ Count ∷ CountA ∷ CountBlank ∷ Product ∷ SumIf ∷ CountIf ∷ Abs ∷ Sign ∷ Int ∷ Trunc ∷ Round ∷ RoundUp ∷ RoundDown ∷ Mod ∷ Quotient ∷ Power ∷ IsEven ∷ IsOdd ∷ []

-- the function that a word names
abbrev pub function_named : List ℕ → Option MathFn
function_named text = find (λ function. bytes_eq (function_word function) text) functions

-- the argument at this place, from 0, is a list or a block
abbrev pub takes_block : MathFn → ℕ → Bool
takes_block Sum at = true
takes_block Average at = true
takes_block Min at = true
takes_block Max at = true
takes_block Count at = true
takes_block CountA at = true
takes_block CountBlank at = true
takes_block Product at = true
takes_block SumIf at = not (at == 1)
takes_block CountIf at = not (at == 1)
takes_block _ at = false

-- the summary of what its arguments list says the function's value
abbrev pub of_summary : MathFn → Bool
of_summary Sum = true
of_summary Average = true
of_summary Min = true
of_summary Max = true
of_summary Count = true
of_summary _ = false
