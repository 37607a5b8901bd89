use Rattle.std.proofs.Common.{◌≡◌, drop, map}
use Rattle.name_table.specs.Drafts.{sheets_drafted}
use Rattle.name_table.specs.Listed.{listed}
use Rattle.kept_book.specs.Change.{sheets_with}
use Rattle.kept_book.specs.Kept.{sheet_change}
use Rattle.kept_book.specs.internal.Stepping.{of_side}
use Rattle.kept_book.proofs.renaming.put_sheets.Given as goal

abbrev pub invariant-loop-index : goal.invariant-loop-index
invariant-loop-index l =
    (sheets_drafted l.draft (listed l.names) ≡ sheets_with (of_side l.side) (map sheet_change (drop l.index l.changes)) (sheets_drafted l.fn.draft (listed l.names)))
    × (l.draft.names ≡ l.fn.draft.names)
