-- Lists of sheets by number and name: what can join them, and what changes make of them. Source: this project's own.
use Rattle.std.specs.Prelude.{◌≡◌, ◌≢◌, ◌⊎◌, ℕ, ◌==◌, not, if◌then◌else◌, List, Option, position, filter, map, All}
use Rattle.cell_addr.specs.Text.{folded}
use Rattle.cell_addr.specs.declared.place.TheConstants.{NO_SHEET}

-- a sheet of this number and name can join the list: it is no sheet's number, and neither stands in the list
abbrev pub CanJoin : ℕ → List ℕ → List (ℕ × List ℕ) → Type 0
CanJoin id name sheets = (id ≢ NO_SHEET) × All (λ s. (s.0 ≢ id) × (folded s.1 ≢ folded name)) sheets

-- no other sheet has the name
abbrev pub IsFree : ℕ → List ℕ → List (ℕ × List ℕ) → Type 0
IsFree id name sheets = All (λ s. (s.0 ≡ id) ⊎ (folded s.1 ≢ folded name)) sheets

-- the list where the sheet of this number has this name
abbrev pub renamed_in : ℕ → List ℕ → List (ℕ × List ℕ) → List (ℕ × List ℕ)
renamed_in id name sheets = map (λ s. if s.0 == id then (id, name) else s) sheets

-- the list without the sheet of this number
abbrev pub left_in : ℕ → List (ℕ × List ℕ) → List (ℕ × List ℕ)
left_in id sheets = filter (λ s. not (s.0 == id)) sheets

-- where the sheet of this number stands in the list
abbrev pub index_in : ℕ → List (ℕ × List ℕ) → Option ℕ
index_in id sheets = position (λ k. id == k) (map (λ s. s.0) sheets)
