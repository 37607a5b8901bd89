-- The functions of texts and their words. Source: OpenFormula.
use Rattle.std.specs.Prelude.{ℕ, Bool, false, List, [], ◌∷◌, Option, codes, bytes_eq}
use Rattle.std.specs.List.{find}
use Rattle.func_text.specs.declared.function.TextFn.{TextFn}
use Rattle.func_text.specs.declared.function.TextFn.TheVariants.{Len, Left, Right, Mid, Concatenate, Trim, Rept, Exact, Find, Substitute, Value}

-- the word of each function
abbrev pub function_word : TextFn → List ℕ
function_word Len = codes "LEN"
function_word Left = codes "LEFT"
function_word Right = codes "RIGHT"
function_word Mid = codes "MID"
function_word Concatenate = codes "CONCATENATE"
function_word Trim = codes "TRIM"
function_word Rept = codes "REPT"
function_word Exact = codes "EXACT"
function_word Find = codes "FIND"
function_word Substitute = codes "SUBSTITUTE"
function_word Value = codes "VALUE"

-- all functions of texts
abbrev pub functions : List TextFn
functions = Len ∷ Left ∷ Right ∷ Mid ∷ Concatenate ∷ Trim ∷ Rept ∷ Exact ∷ Find ∷ Substitute ∷ Value ∷ []

-- the function that a word names
abbrev pub function_named : List ℕ → Option TextFn
function_named text = find (λ function. bytes_eq (function_word function) text) functions

-- the argument at this place, from 0, is a list or a block: none is
abbrev pub takes_block : TextFn → ℕ → Bool
takes_block function at = false
