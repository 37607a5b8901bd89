use Rattle.std.proofs.Common.{ℕ, List, length}
use Rattle.shift_core.specs.declared.edit.Edit.{Edit}
use Rattle.sheet_shifts.specs.declared.entry.Entry.{Entry}
use Rattle.sheet_shifts.specs.internal.Going.{AreSoundEdits, TakesLine, Walks}
use Rattle.sheet_shifts.proofs.left.line_over.Given as goal

-- from here it walks on as from the beginning
abbrev pub invariant-edits : goal.invariant-edits
invariant-edits l = record {
  sound : AreSoundEdits l.limit l.left;
  walks : (to : ℕ) (rest : List (Entry Edit)) → Walks (TakesLine l.limit) l.to l.left l.at to rest → Walks (TakesLine l.limit) l.to l.edits l.line to rest;
}

abbrev pub decreases-edits : goal.decreases-edits
decreases-edits l = length l.left
