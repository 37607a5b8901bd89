-- A row of numbers, and of sums of the slots before them, as a network. Source: this project's own.
use Rattle.std.specs.Prelude.{◌+◌, ◌%◌, ◌^◌, ◌&&◌, ◌||◌, ℕ, Bool, false, List, map, length, nat_eq, nat_lt, slice_index_or, if◌then◌else◌}
use Rattle.std.specs.List.{range_with_len}
use Rattle.value_network.specs.declared.row.Slot.{Slot}
use Rattle.value_network.specs.declared.row.Slot.TheVariants.{Number, Sum}
use Rattle.value_network.specs.Network.{Network, value}

-- what a slot adds to a sum: its number where it stands before the sum, else 0
abbrev pub number_before : (ℕ → ℕ) → ℕ → ℕ → ℕ
number_before shown home place = if nat_lt place home then shown place else 0

-- what a slot at the place home works out
abbrev pub number_of : (ℕ → ℕ) → ℕ → Slot → ℕ
number_of shown home (Number n) = n
number_of shown home (Sum left right) = (number_before shown home left + number_before shown home right) % 2 ^ 32

-- the slot at the place home is a sum over the place, which stands before it
abbrev pub mentions : ℕ → Slot → ℕ → Bool
mentions home (Number n) place = false
mentions home (Sum left right) place = nat_lt place home && (nat_eq place left || nat_eq place right)

-- the slot at a place; the number 0 past the end
abbrev pub slot_at : List Slot → ℕ → Slot
slot_at row place = slice_index_or row place (Number 0)

-- a row's places, each with its slot
abbrev pub row_network : List Slot → Network ℕ ℕ
row_network row = record { formulas = range_with_len 0 (length row); same = nat_eq; needs = λ home place. mentions home (slot_at row home) place; own = λ shown home. number_of shown home (slot_at row home); cycle = 0 }

-- what the slot at a place shows
abbrev pub row_value : List Slot → ℕ → ℕ
row_value row = value (row_network row) (λ _. false)

-- what the slots of a row show, in order
abbrev pub row_values : List Slot → List ℕ
row_values row = map (row_value row) (range_with_len 0 (length row))
