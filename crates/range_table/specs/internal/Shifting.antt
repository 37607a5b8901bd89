-- What operations make of kept summaries under numbers.
use Rattle.std.specs.BTreeMap as tree
use Rattle.std.specs.Prelude.{◌≡◌, ◌⊎◌, ℕ, true, List, Some, IsSome, slice_get}
use Rattle.std.specs.Ordering.{nat_cmp}
use Rattle.cell_addr.specs.Place.{IsBlockInside}
use Rattle.cell_addr.specs.declared.place.Block.{Block}
use Rattle.cell_value.specs.declared.summary.Summary.{Summary}
use Rattle.needs_order.specs.Needs.{has}
use Rattle.place_lines.specs.Spots.{area_of}
use Rattle.place_lines.specs.declared.lines.PlaceLines.{PlaceLines}
use Rattle.shift_core.specs.declared.shift.Shift.{Shift}
use Rattle.range_table.specs.Shifted.{GivesUpBlock, KeepsBlock}
use Rattle.range_table.specs.declared.changes.Changes.{Changes}
use Rattle.range_table.specs.declared.fate.Fate.{Fate}
use Rattle.range_table.specs.declared.fate.Fate.TheVariants.{Ends, Moves, Stays}
use Rattle.range_table.specs.declared.kept.KeptSummaries.{KeptSummaries}
use Rattle.range_table.specs.declared.state.State.{State}
use Rattle.range_table.specs.declared.state.State.TheVariants as state
use Rattle.range_table.specs.declared.table.Table.{Table}
use Rattle.range_table.specs.internal.Files.{Finds, IsTouched}
use Rattle.range_table.specs.internal.States.{is_found}
use Rattle.range_table.specs.internal.Tables.{IsUnder, KeepsUnder, known}

-- what becomes of the summary of a block: it stays under its number, it is kept on for another block, or it is given up
abbrev pub IsFate : Shift → Block → Fate → Type 0
IsFate s b Stays = ¬ IsTouched s b
IsFate s b (Moves after) = KeepsBlock s b after × IsBlockInside after
IsFate s b Ends = GivesUpBlock s b

-- the number is that of the block by these lines
abbrev pub IsNumberBy : PlaceLines → Table → ℕ → Block → Type 0
IsNumberBy lines t n b = slice_get t.keys.keys n ≡ Some (area_of lines b)

-- where the summary of the block under the number is kept on, the number of the block after it gets one
abbrev pub IsTaken : Shift → PlaceLines → Table → Changes → ℕ → Block → Type 0
IsTaken s lines t c n b =
    (after : Block) (x : Summary) → known t n ≡ state.Kept x → KeepsBlock s b after → (m : ℕ) × IsNumberBy lines t m after × IsSome (tree.get nat_cmp c.arrived m)

-- the state is that of a summary that was kept for a block, and is kept on for the one of the number
abbrev pub Arrives : Shift → PlaceLines → KeptSummaries → ℕ → State → Type 0
Arrives s lines k m st =
    (n : ℕ) × (b : Block) × (after : Block) × (x : Summary) × (st ≡ state.Kept x) × KeepsUnder k.table n b x × KeepsBlock s b after
    × IsNumberBy lines k.table m after × IsBlockInside after × Finds k.files lines after m

-- the block of the number isn't touched, or the number leaves it, and its summary is taken along where it is kept on
abbrev pub IsDone : Shift → PlaceLines → Table → Changes → ℕ → Type 0
IsDone s lines t c n =
    (b : Block) → IsUnder t n b → IsBlockInside b → is_found (known t n) ≡ true → (¬ IsTouched s b) ⊎ ((has n c.left.items ≡ true) × IsTaken s lines t c n b)

-- what leaves is taken along where it is kept on
abbrev pub AreTaken : Shift → PlaceLines → Table → Changes → Type 0
AreTaken s lines t c = (n : ℕ) (b : Block) → has n c.left.items ≡ true → IsUnder t n b → IsTaken s lines t c n b

-- the numbers gone by are done, and what arrives was kept
pub record AreChanges (s : Shift) (lines : PlaceLines) (k : KeptSummaries) (gone : List ℕ) (c : Changes) : Type 0 where
  pub done : (n : ℕ) → has n gone ≡ true → IsDone s lines k.table c n
  pub taken : AreTaken s lines k.table c
  pub arrived : (m : ℕ) (st : State) → tree.get nat_cmp c.arrived m ≡ Some st → Arrives s lines k m st

-- what is kept under the number, if anything, comes to the number of the block
pub record TakesTo (lines : PlaceLines) (number : ℕ) (after : Block) (k : KeptSummaries) (old new : Changes) : Type 0 where
  pub some : (x : Summary) → known k.table number ≡ state.Kept x → (m : ℕ) × IsNumberBy lines k.table m after × IsSome (tree.get nat_cmp new.arrived m)
  pub still : (m : ℕ) → IsSome (tree.get nat_cmp old.arrived m) → IsSome (tree.get nat_cmp new.arrived m)
  pub only : (m : ℕ) (st : State) → tree.get nat_cmp new.arrived m ≡ Some st → (tree.get nat_cmp old.arrived m ≡ Some st)
      ⊎ ((x : Summary) × (st ≡ state.Kept x) × (known k.table number ≡ state.Kept x) × IsNumberBy lines k.table m after × Finds k.files lines after m)
