use Rattle.std.proofs.Common.{ℕ, List, length, true}
use Rattle.cell_addr.specs.declared.axis.Span.{Span}
use Rattle.shift_core.specs.declared.edit.Edit.{Edit}
use Rattle.sheet_shifts.specs.declared.entry.Entry.{Entry}
use Rattle.sheet_shifts.specs.internal.Going.{CarriesEnds, Walks}
use Rattle.sheet_shifts.proofs.left.behind_all.Given as goal

-- from here it walks on as from the beginning
abbrev pub invariant-edits : goal.invariant-edits
invariant-edits l = (limit : ℕ) (span : Span) (rest : List (Entry Edit)) → Walks (CarriesEnds true limit) l.to l.left span span rest → Walks (CarriesEnds true limit) l.to l.edits span span rest

abbrev pub decreases-edits : goal.decreases-edits
decreases-edits l = length l.left
