-- Lists of sheets: what number and name belong together. Source: this project's own; names are compared
-- with ASCII letters folded.
use Rattle.std.specs.Prelude.{◌≢◌, ℕ, Bool, if◌then◌else◌, ◌==◌, List, [], ◌∷◌, Option, Some, None, bytes_eq, All, AllPairs}
use Rattle.cell_addr.specs.Text.{folded}
use Rattle.cell_addr.specs.declared.place.TheConstants.{NO_SHEET}

-- the names are the same but for the case of ASCII letters
abbrev pub same_name : List ℕ → List ℕ → Bool
same_name a b = bytes_eq (folded a) (folded b)

-- the number of the sheet of this name
abbrev pub id_in : List (ℕ × List ℕ) → List ℕ → Option ℕ
id_in [] name = None
id_in (sheet ∷ rest) name = if same_name sheet.1 name then Some sheet.0 else id_in rest name

-- the name of the sheet of this number
abbrev pub name_in : List (ℕ × List ℕ) → ℕ → Option (List ℕ)
name_in [] id = None
name_in (sheet ∷ rest) id = if sheet.0 == id then Some sheet.1 else name_in rest id

-- no number and no folded name stands twice in the list
abbrev pub AreApart : List (ℕ × List ℕ) → Type 0
AreApart sheets = AllPairs (λ s t. (s.0 ≢ t.0) × (folded s.1 ≢ folded t.1)) sheets

-- a proper list of sheets: none stands twice, and none has the number that is no sheet's
abbrev pub AreSheets : List (ℕ × List ℕ) → Type 0
AreSheets sheets = AreApart sheets × All (λ s. s.0 ≢ NO_SHEET) sheets
