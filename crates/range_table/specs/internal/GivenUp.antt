-- Summaries that are given up because a cell of their block changes.
use Rattle.std.specs.Prelude.{◌≡◌, ◌⊎◌, ℕ, Bool, true, false, Option, Some, None}
use Rattle.cell_addr.specs.Place.{covers}
use Rattle.cell_addr.specs.declared.place.Block.{Block}
use Rattle.cell_addr.specs.declared.place.Place.{Place}
use Rattle.cell_value.specs.declared.summary.Summary.{Summary}
use Rattle.range_table.specs.declared.state.State.TheVariants.{Found, Kept}
use Rattle.range_table.specs.declared.table.Table.{Table}
use Rattle.range_table.specs.internal.States.{block_under}
use Rattle.range_table.specs.internal.Tables.{known}

-- the block, where there is one, holds the place
abbrev pub holds_place : Option Block → Place → Bool
holds_place (Some b) p = covers b p
holds_place None p = false

-- so does the block of a number
abbrev pub holds_at : Table → ℕ → Place → Bool
holds_at t n p = holds_place (block_under t.lines t.keys.keys n) p

-- of blocks that hold the place summaries are given up, of those of these numbers all; all else is as it was
pub record GivesUp (p : Place) (among : ℕ → Type 0) (old new : Table) : Type 0 where
  pub lines : new.lines ≡ old.lines
  pub keys : new.keys.keys ≡ old.keys.keys
  pub states : (n : ℕ) → (known new n ≡ known old n) ⊎ ((known new n ≡ Found) × (holds_at old n p ≡ true) × ((x : Summary) × (known old n ≡ Kept x)))
  pub given : (n : ℕ) (x : Summary) → among n → known new n ≡ Kept x → holds_at old n p ≡ false
