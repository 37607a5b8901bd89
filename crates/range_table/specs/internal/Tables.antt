-- What is kept for blocks under numbers.
use Rattle.std.specs.Prelude.{◌≡◌, ◌++◌, ℕ, zero, suc, true, List, [], Option, Some, None, IsSome, length, slice_get, unwrap_or, if◌then◌else◌}
use Rattle.std.specs.BTreeMap as tree
use Rattle.std.specs.FinMap as fin
use Rattle.std.specs.Option.{option_to_list}
use Rattle.std.specs.Ordering.{nat_cmp}
use Rattle.cell_addr.specs.declared.place.Block.{Block}
use Rattle.cell_value.specs.Summary.{IsBounded}
use Rattle.cell_value.specs.declared.summary.Summary.{Summary}
use Rattle.needs_order.specs.Needs.{has}
use Rattle.place_lines.specs.Spots.{area_of}
use Rattle.place_lines.specs.declared.area.LineArea.{LineArea}
use Rattle.range_table.specs.Blocks.{BlockMap}
use Rattle.range_table.specs.declared.changes.Changes.{Changes}
use Rattle.range_table.specs.declared.state.State.{State}
use Rattle.range_table.specs.declared.state.State.TheVariants.{Kept, Left}
use Rattle.range_table.specs.declared.table.Table.{Table}
use Rattle.range_table.specs.internal.States.{block_under, is_found, state_at, summary_in}

-- what is known of the block of a number
abbrev pub known : Table → ℕ → State
known t n = state_at t.states.items n

-- the block has the number
abbrev pub IsUnder : Table → ℕ → Block → Type 0
IsUnder t n b = slice_get t.keys.keys n ≡ Some (area_of t.lines b)

-- the summary is kept for the block under the number
abbrev pub KeepsUnder : Table → ℕ → Block → Summary → Type 0
KeepsUnder t n b x = IsUnder t n b × (known t n ≡ Kept x)

-- the block and the summary, where there are both
abbrev pub paired : Option Block → Option Summary → Option (Block × Summary)
paired (Some b) (Some x) = Some (b, x)
paired (Some b) None = None
paired None x = None

-- the block of a number and the summary that is kept for it
abbrev pub kept_under : Table → ℕ → Option (Block × Summary)
kept_under t n = paired (block_under t.lines t.keys.keys n) (summary_in (known t n))

-- what is kept under the numbers below one
unfoldable pub kept_below : Table → ℕ → List (Block × Summary)
kept_below t zero = []
kept_below t (suc n) = option_to_list (kept_under t n) ++ kept_below t n

-- the map of the blocks for which summaries are kept
abbrev pub map_in : Table → BlockMap Summary
map_in t = fin.from_entries (kept_below t (length t.keys.keys))

-- each kept summary is bounded
abbrev pub AreBounded : Table → Type 0
AreBounded t = (n : ℕ) (x : Summary) → known t n ≡ Kept x → IsBounded x

-- where something is known of a number, its block stands somewhere
abbrev pub AllStand : Table → Type 0
AllStand t = (n : ℕ) → is_found (known t n) ≡ true → IsSome (block_under t.lines t.keys.keys n)

-- numbers were added, and all that was known is known still
pub record Grows (old new : Table) : Type 0 where
  pub lines : new.lines ≡ old.lines
  pub keys : (n : ℕ) (a : LineArea) → slice_get old.keys.keys n ≡ Some a → slice_get new.keys.keys n ≡ Some a
  pub states : (n : ℕ) → known new n ≡ known old n

-- what is known of a number after changes
abbrev pub state_then : Changes → Table → ℕ → State
state_then c t n = unwrap_or (tree.get nat_cmp c.arrived n) (if has n c.left.items then Left else known t n)
