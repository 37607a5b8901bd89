-- Laws of lists of words. Source: this project's own.
use Rattle.std.specs.Prelude.{◌≡◌, ◌↔◌, ℕ, List, Some, slice_get}
use Rattle.cell_addr.specs.Text.{folded}
use Rattle.name_table.specs.Words.{AreWords, number_in}

-- a text's number is the place of the text in small letters
abbrev pub WordsAreNumbered : Type 0
WordsAreNumbered = (words : List (List ℕ)) (text : List ℕ) (number : ℕ) → AreWords words → (number_in words text ≡ Some number) ↔ (slice_get words number ≡ Some (folded text))
