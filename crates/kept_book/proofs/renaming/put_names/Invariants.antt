use Rattle.std.proofs.Common.{◌≡◌, drop, map}
use Rattle.name_table.specs.Drafts.{HasKnownWords, names_drafted}
use Rattle.name_table.specs.Scopes.{NameMap}
use Rattle.kept_book.specs.Change.{AreKnown, names_with}
use Rattle.kept_book.specs.Frame.{Words}
use Rattle.kept_book.specs.Kept.{name_change}
use Rattle.kept_book.specs.internal.Stepping.{of_side}
use Rattle.kept_book.proofs.renaming.put_names.Given as goal

abbrev pub invariant-loop-index : goal.invariant-loop-index
invariant-loop-index l = record {
  names : (m : NameMap) → names_drafted l.draft m ≡ names_with (of_side l.side) (map name_change (drop l.index l.changes)) (names_drafted l.fn.draft m);
  known : (words : Words) → AreKnown words (map name_change l.changes) → HasKnownWords words l.fn.draft → HasKnownWords words l.draft;
  sheets : l.draft.sheets ≡ l.fn.draft.sheets;
}
