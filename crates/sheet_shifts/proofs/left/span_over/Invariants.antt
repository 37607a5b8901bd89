use Rattle.std.proofs.Common.{◌<◌, ◌≤◌, List, length}
use Rattle.cell_addr.specs.declared.axis.Span.{Span}
use Rattle.shift_core.specs.declared.edit.Edit.{Edit}
use Rattle.sheet_shifts.specs.declared.entry.Entry.{Entry}
use Rattle.sheet_shifts.specs.internal.Going.{AreSoundEdits, CarriesSpan, Walks}
use Rattle.sheet_shifts.proofs.left.span_over.Given as goal

-- the ends stand in order on the sheet, and from here it walks on as from the beginning
abbrev pub invariant-edits : goal.invariant-edits
invariant-edits l = record {
  order : l.at.first ≤ l.at.last;
  within : l.at.last < l.limit;
  sound : AreSoundEdits l.limit l.left;
  walks : (to : Span) (rest : List (Entry Edit)) → Walks (CarriesSpan l.limit) l.to l.left l.at to rest → Walks (CarriesSpan l.limit) l.to l.edits l.fn.span to rest;
}

abbrev pub decreases-edits : goal.decreases-edits
decreases-edits l = length l.left
