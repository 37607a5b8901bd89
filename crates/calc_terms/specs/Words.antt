-- Which function a word in capitals names. Source: OpenFormula.
use Rattle.std.specs.Prelude.{ℕ, Bool, List, [], ◌∷◌, Option, None, codes, bytes_eq}
use Rattle.std.specs.List.{find}
use Rattle.std.specs.Option.{option_map, option_or}
use Rattle.func_math.specs.Functions as math
use Rattle.func_text.specs.Functions as texts
use Rattle.func_look.specs.Functions as look
use Rattle.func_date.specs.Dates as dates
use Rattle.func_logic.specs.Functions as logic
use Rattle.calc_terms.specs.declared.function.ChoiceFn.{ChoiceFn}
use Rattle.calc_terms.specs.declared.function.ChoiceFn.TheVariants.{If, IfError, IfNa, Choose}
use Rattle.calc_terms.specs.declared.function.PlaceFn.{PlaceFn}
use Rattle.calc_terms.specs.declared.function.PlaceFn.TheVariants.{Row, Column, Rows, Columns}
use Rattle.calc_terms.specs.declared.function.DataFn.{DataFn}
use Rattle.calc_terms.specs.declared.function.DataFn.TheVariants as kind
use Rattle.calc_terms.specs.declared.function.Function.{Function}
use Rattle.calc_terms.specs.declared.function.Function.TheVariants as function

-- the words of the functions that choose
abbrev pub choice_word : ChoiceFn → List ℕ
choice_word If = codes "IF"
choice_word IfError = codes "IFERROR"
choice_word IfNa = codes "IFNA"
choice_word Choose = codes "CHOOSE"

abbrev pub choices : List ChoiceFn
choices = If ∷ IfError ∷ IfNa ∷ Choose ∷ []

abbrev pub choice_named : List ℕ → Option ChoiceFn
choice_named text = find (λ f. bytes_eq (choice_word f) text) choices

-- the words of the functions that ask where a reference is
abbrev pub place_word : PlaceFn → List ℕ
place_word Row = codes "ROW"
place_word Column = codes "COLUMN"
place_word Rows = codes "ROWS"
place_word Columns = codes "COLUMNS"

abbrev pub places : List PlaceFn
places = Row ∷ Column ∷ Rows ∷ Columns ∷ []

abbrev pub place_named : List ℕ → Option PlaceFn
place_named text = find (λ f. bytes_eq (place_word f) text) places

-- the first of some answers that there are
abbrev pub first_of : List (Option DataFn) → Option DataFn
first_of [] = None
first_of (answer ∷ rest) = option_or answer (first_of rest)

-- the function of data by this word
abbrev pub data_named : List ℕ → Option DataFn
data_named word = first_of (
    option_map kind.Math (math.function_named word)
    ∷ option_map kind.Logic (logic.function_named word)
    ∷ option_map kind.Text (texts.function_named word)
    ∷ option_map kind.Look (look.function_named word)
    ∷ option_map kind.Date (dates.function_named word)
    ∷ [])

-- the function that every workbook has by this word
unfoldable pub function_named : List ℕ → Option Function
function_named word =
    option_or (option_map function.Choice (choice_named word)) (
    option_or (option_map function.Place (place_named word)) (
    option_map function.Data (data_named word)))

-- the word of a function
abbrev pub word_of : Function → List ℕ
word_of (function.Choice f) = choice_word f
word_of (function.Place f) = place_word f
word_of (function.Data (kind.Math f)) = math.function_word f
word_of (function.Data (kind.Logic f)) = logic.function_word f
word_of (function.Data (kind.Text f)) = texts.function_word f
word_of (function.Data (kind.Look f)) = look.function_word f
word_of (function.Data (kind.Date f)) = dates.function_word f

-- the argument at this place, from 0, is a list or a block
abbrev pub takes_block : DataFn → ℕ → Bool
takes_block (kind.Math f) at = math.takes_block f at
takes_block (kind.Logic f) at = logic.takes_block f at
takes_block (kind.Text f) at = texts.takes_block f at
takes_block (kind.Look f) at = look.takes_block f at
takes_block (kind.Date f) at = dates.takes_block f at
