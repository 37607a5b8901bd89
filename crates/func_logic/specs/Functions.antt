-- The functions of logic and their words. Source: OpenFormula.
use Rattle.std.specs.Prelude.{ℕ, Bool, true, false, List, [], ◌∷◌, Option, codes, bytes_eq}
use Rattle.std.specs.List.{find}
use Rattle.func_logic.specs.declared.function.LogicFn.{LogicFn}
use Rattle.func_logic.specs.declared.function.LogicFn.TheVariants.{And, Or, Xor, Not, True, False, Na, IsError, IsErr, IsNa, IsNumber, IsText, IsLogical, IsBlank}

-- the word of each function
abbrev pub function_word : LogicFn → List ℕ
function_word And = codes "AND"
function_word Or = codes "OR"
function_word Xor = codes "XOR"
function_word Not = codes "NOT"
function_word True = codes "TRUE"
function_word False = codes "FALSE"
function_word Na = codes "NA"
function_word IsError = codes "ISERROR"
function_word IsErr = codes "ISERR"
function_word IsNa = codes "ISNA"
function_word IsNumber = codes "ISNUMBER"
function_word IsText = codes "ISTEXT"
function_word IsLogical = codes "ISLOGICAL"
function_word IsBlank = codes "ISBLANK"

-- all functions of logic
abbrev pub functions : List LogicFn
functions = And ∷ Or ∷ Xor ∷ Not ∷ True ∷ False ∷ Na ∷ IsError ∷ IsErr ∷ IsNa ∷ IsNumber ∷ IsText ∷ IsLogical ∷ IsBlank ∷ []

-- the function that a word names
abbrev pub function_named : List ℕ → Option LogicFn
function_named text = find (λ function. bytes_eq (function_word function) text) functions

-- the argument at this place, from 0, is a list
abbrev pub takes_block : LogicFn → ℕ → Bool
takes_block And at = true
takes_block Or at = true
takes_block Xor at = true
takes_block _ at = false
