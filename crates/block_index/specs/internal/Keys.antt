-- Keys of slots, and where they stand among those that have a list.
use Rattle.std.specs.Prelude.{◌≡◌, ◌<◌, ◌==◌, ◌&&◌, ℕ, Bool, true, List, length, slice_index_or}
use Rattle.std.specs.List.{list_any, position_or_len}
use Rattle.block_slots.specs.Slots.{has_cell, slot_at}
use Rattle.block_slots.specs.declared.slot.Size.{Size}
use Rattle.block_slots.specs.declared.slot.Slot.{Slot}
use Rattle.block_index.specs.declared.key.SlotKey.{SlotKey}

-- the key of a slot of a sheet, and of the slot of a size at a cell
abbrev pub key_of : ℕ → Slot → SlotKey
key_of sheet slot = record { sheet = sheet; row_level = slot.rows.level; row_index = slot.rows.index; col_level = slot.cols.level; col_index = slot.cols.index }

abbrev pub key_at : ℕ → ℕ → ℕ → Size → SlotKey
key_at sheet row col size = key_of sheet (slot_at size row col)

-- the size of the slot of a key
abbrev pub key_size : SlotKey → Size
key_size k = record { row_level = k.row_level; col_level = k.col_level }

-- tests whether two keys are the same
abbrev pub same_key : SlotKey → SlotKey → Bool
same_key a b = a.sheet == b.sheet && (a.col_level == b.col_level && (a.col_index == b.col_index && (a.row_level == b.row_level && a.row_index == b.row_index)))

-- where a key stands; past the last where it isn't
abbrev pub place_of : List SlotKey → SlotKey → ℕ
place_of keys k = position_or_len (same_key k) keys

-- the size is one of the list
abbrev pub has_size : Size → List Size → Bool
has_size z sizes = list_any (λ y. y.row_level == z.row_level && y.col_level == z.col_level) sizes

-- the size of each slot that has a list is in use
abbrev pub AreSized : List SlotKey → List Size → Type 0
AreSized keys sizes = (i : ℕ) (d : SlotKey) → i < length keys → has_size (key_size (slice_index_or keys i d)) sizes ≡ true

-- the cell lies in the slot of the sheet
abbrev pub in_slot : ℕ → Slot → ℕ → ℕ → ℕ → Bool
in_slot sheet slot s r c = s == sheet && has_cell slot r c
