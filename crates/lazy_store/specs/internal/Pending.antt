-- Operations of a line that formulas are to be taken over.
use Rattle.std.specs.Prelude.{ℕ, ◌+◌, ◌≤◌, List, length, drop}
use Rattle.shift_core.specs.declared.shift.Shift.{Shift}
use Rattle.shift_line.specs.Track.{IsRun, Track}
use Rattle.lazy_store.specs.declared.pending.Listed.{Listed}
use Rattle.lazy_store.specs.declared.pending.Pending as pendings
use Rattle.lazy_store.specs.declared.pending.Pending.TheVariants as ways

-- the list has operations of the line from its first position on, up to another one at most
pub record IsListed (line : Track) (to : ℕ) (l : Listed) : Type 0 where
  pub run : IsRun line l.first l.lists.run.items
  pub within : l.first + length l.lists.run.items ≤ to

-- the operations of a way
abbrev pub shifts_of : pendings.Pending → List Shift
shifts_of (ways.Listed way) = drop way.from way.lists.now.run.items
shifts_of (ways.Plain way) = way.run.now
