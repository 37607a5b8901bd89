-- Lists of words: texts in small letters, each numbered by its place. Source: this project's own.
use Rattle.std.specs.Prelude.{◌≡◌, ◌≢◌, ℕ, if◌then◌else◌, List, [], ◌∷◌, ◌++◌, Option, is_some, position, All, AllPairs}
use Rattle.cell_addr.specs.Sheets.{same_name}
use Rattle.cell_addr.specs.Text.{folded}

-- the number of a text's word: the place of the word that is the text but for the case of ASCII letters
abbrev pub number_in : List (List ℕ) → List ℕ → Option ℕ
number_in words text = position (same_name text) words

-- the list with the word of a text, which goes to the end where it is new
abbrev pub with_word : List ℕ → List (List ℕ) → List (List ℕ)
with_word text words = if is_some (number_in words text) then words else words ++ folded text ∷ []

-- a proper list of words: each is in small letters, and none stands twice
abbrev pub AreWords : List (List ℕ) → Type 0
AreWords words = All (λ w. folded w ≡ w) words × AllPairs (λ v w. v ≢ w) words
