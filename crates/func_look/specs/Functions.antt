-- The look-ups and their words. Source: OpenFormula.
use Rattle.std.specs.Prelude.{ℕ, ◌==◌, Bool, false, List, [], ◌∷◌, Option, codes, bytes_eq}
use Rattle.std.specs.List.{find}
use Rattle.func_look.specs.declared.function.LookFn.{LookFn}
use Rattle.func_look.specs.declared.function.LookFn.TheVariants.{Match, VLookup, HLookup, Index, Choose}

-- the word of each function
abbrev pub function_word : LookFn → List ℕ
function_word Match = codes "MATCH"
function_word VLookup = codes "VLOOKUP"
function_word HLookup = codes "HLOOKUP"
function_word Index = codes "INDEX"
function_word Choose = codes "CHOOSE"

-- all look-ups
abbrev pub functions : List LookFn
functions = Match ∷ VLookup ∷ HLookup ∷ Index ∷ Choose ∷ []

-- the function that a word names
abbrev pub function_named : List ℕ → Option LookFn
function_named text = find (λ function. bytes_eq (function_word function) text) functions

-- the argument at this place, from 0, is a block
abbrev pub takes_block : LookFn → ℕ → Bool
takes_block Match at = at == 1
takes_block VLookup at = at == 1
takes_block HLookup at = at == 1
takes_block Index at = at == 0
takes_block Choose at = false
