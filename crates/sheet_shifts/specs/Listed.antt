-- The operations of a run by the sheets that they meet. Source: this project's own.
use Rattle.std.specs.Prelude.{◌≡◌, ℕ, ◌+◌, List, [], ◌∷◌, ◌++◌, Option, Vec}
use Rattle.std.specs.BTreeMap as tree
use Rattle.std.specs.BTreeMap.{BTreeMap}
use Rattle.std.specs.Global.{Global}
use Rattle.std.specs.Option.{option_map_or}
use Rattle.std.specs.Ordering.{nat_cmp}
use Rattle.shift_core.specs.declared.shift.Shift.{Shift}
use Rattle.sheet_shifts.specs.Met.{col_edit, other, row_edit}
use Rattle.sheet_shifts.specs.declared.entry.Entry.{Entry}
use Rattle.sheet_shifts.specs.declared.lists.Lists.{Lists}

-- what is picked from the operations of the run, in order, where its first operation has this index
abbrev pub listed : {X : Type 0} → (Shift → Option X) → ℕ → List Shift → List (Entry X)
listed pick i [] = []
listed pick i (s ∷ run) = option_map_or (λ x. record { index = i; what = x } ∷ listed pick (i + 1) run) (pick s) (listed pick (i + 1) run)

-- the list with what is picked from one more operation
abbrev pub longer : {X : Type 0} → List (Entry X) → ℕ → Option X → List (Entry X)
longer list i picked = option_map_or (λ x. list ++ record { index = i; what = x } ∷ []) picked list

-- the list of a sheet; empty where there is none
abbrev pub list_in : {X : Type 0} → BTreeMap ℕ (Vec (Entry X) Global) → ℕ → List (Entry X)
list_in lists sheet = option_map_or (λ l. l.items) (tree.get nat_cmp lists sheet) []

-- each sheet's list has what is picked for it from the run
abbrev pub ArePicked : {X : Type 0} → (ℕ → Shift → Option X) → List Shift → BTreeMap ℕ (Vec (Entry X) Global) → Type 0
ArePicked pick run lists = (sheet : ℕ) → list_in lists sheet ≡ listed (pick sheet) 0 run

-- the edits of each sheet's rows, those of its columns, and the other operations that meet it
abbrev pub AreListed : List Shift → Lists → Type 0
AreListed run lists = ArePicked row_edit run lists.rows × ArePicked col_edit run lists.cols × ArePicked other run lists.others
