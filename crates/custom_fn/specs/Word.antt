-- The words of the functions that every workbook has. Source: this project's own.
use Rattle.std.specs.Prelude.{ℕ, Bool, List}
use Rattle.std.specs.List.{list_any}
use Rattle.cell_addr.specs.Sheets.{same_name}
use Rattle.custom_fn.specs.declared.words.TheConstants.{FUNCTION_WORDS}

-- the name is the word of a function that every workbook has, in some case of its letters
unfoldable pub is_function_word : List ℕ → Bool
is_function_word name = list_any (λ word. same_name word.now name) FUNCTION_WORDS
