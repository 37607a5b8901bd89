-- Which numbers the cell of a row and a column finds: those that are filed under the slots that hold it. Source: this project's own.
use Rattle.std.specs.Prelude.{◌≡◌, ◌==◌, ◌&&◌, ◌⊎◌, ℕ, Bool, true, List, [], position, length, slice_index_or}
use Rattle.std.specs.List.{filter_map, list_any}
use Rattle.std.specs.declared.ops.Range.{Range}
use Rattle.block_slots.specs.Slots.{in_block}
use Rattle.needs_order.specs.Needs.{has, lists_of}
use Rattle.block_index.specs.declared.index.BlockIndex.{BlockIndex}
use Rattle.block_index.specs.internal.Keys.{key_at, same_key}

-- how many slots have a list; they are the numbers below
abbrev pub slot_count : BlockIndex → ℕ
slot_count x = length x.slots.keys

-- the slots that hold a cell of a sheet, of those that have a list
abbrev pub slots_of : BlockIndex → ℕ → ℕ → ℕ → List ℕ
slots_of x sheet row col = filter_map (λ z. position (same_key (key_at sheet row col z)) x.slots.keys) x.sizes.items

-- the numbers that are filed under a slot; none past the last
abbrev pub filed_in : BlockIndex → ℕ → List ℕ
filed_in x s = slice_index_or (lists_of x.lists.items) s []

-- the cell finds the number: it is filed under one of the cell's slots
abbrev pub finds : BlockIndex → ℕ → ℕ → ℕ → ℕ → Bool
finds x sheet row col n = list_any (λ s. has n (filed_in x s)) (slots_of x sheet row col)

-- the cell is one of the rows by the columns of a sheet
abbrev pub in_cells : ℕ → Range ℕ → Range ℕ → ℕ → ℕ → ℕ → Bool
in_cells sheet rows cols s r c = s == sheet && in_block rows cols r c

-- each cell finds what it found
abbrev pub FindsAlike : BlockIndex → BlockIndex → Type 0
FindsAlike old new = (sheet row col n : ℕ) → finds new sheet row col n ≡ finds old sheet row col n

-- what was found is found still, and besides only this number, only by cells that pass the test
pub record Files (test : ℕ → ℕ → ℕ → Bool) (number : ℕ) (old new : BlockIndex) : Type 0 where
  pub grows : (sheet row col n : ℕ) → finds old sheet row col n ≡ true → finds new sheet row col n ≡ true
  pub only : (sheet row col n : ℕ) → finds new sheet row col n ≡ true → (finds old sheet row col n ≡ true) ⊎ ((test sheet row col ≡ true) × (n ≡ number))
