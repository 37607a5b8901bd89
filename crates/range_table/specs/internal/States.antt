-- Areas under numbers, and what is known of their blocks.
use Rattle.std.specs.Prelude.{◌≢◌, ◌==◌, ◌&&◌, ℕ, Bool, true, false, List, Option, Some, None, slice_get, slice_index_or}
use Rattle.std.specs.List.{AllPairs}
use Rattle.std.specs.Option.{option_and_then}
use Rattle.cell_addr.specs.declared.place.Block.{Block}
use Rattle.cell_value.specs.declared.summary.Summary.{Summary}
use Rattle.place_lines.specs.Spots.{block_at}
use Rattle.place_lines.specs.declared.area.LineArea.{LineArea}
use Rattle.place_lines.specs.declared.lines.PlaceLines.{PlaceLines}
use Rattle.range_table.specs.declared.state.State.{State}
use Rattle.range_table.specs.declared.state.State.TheVariants.{Found, Kept, Left}

-- the summary that is kept in a state
abbrev pub summary_in : State → Option Summary
summary_in (Kept x) = Some x
summary_in Found = None
summary_in Left = None

-- cells and operations find a block in this state
abbrev pub is_found : State → Bool
is_found (Kept x) = true
is_found Found = true
is_found Left = false

-- what is known of the block of a number; nothing past the last one
abbrev pub state_at : List State → ℕ → State
state_at states n = slice_index_or states n Left

-- tests whether two areas are the same, as the derived test compares them
abbrev pub same_area : LineArea → LineArea → Bool
same_area a b = a.sheet == b.sheet && (a.top == b.top && (a.left == b.left && (a.bottom == b.bottom && a.right == b.right)))

-- no area stands twice
abbrev pub AreOnce : List LineArea → Type 0
AreOnce keys = AllPairs (λ a b. a ≢ b) keys

-- the block of a number; none past the last, and where one of its lines stands nowhere
abbrev pub block_under : PlaceLines → List LineArea → ℕ → Option Block
block_under lines keys n = option_and_then (block_at lines) (slice_get keys n)
