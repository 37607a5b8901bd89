use Rattle.std.proofs.Common.{◌≡◌, drop}
use Rattle.name_table.specs.Drafts.{HasKnownWords, names_drafted, sheets_drafted}
use Rattle.name_table.specs.Listed.{listed}
use Rattle.name_table.specs.Named.{names_of, words_of}
use Rattle.kept_book.specs.Kept.{changes_of}
use Rattle.kept_book.specs.internal.Stepping.{CanRepeat, names_forth, sheets_forth}
use Rattle.kept_book.proofs.renaming.drafted_forth.Given as goal

abbrev pub invariant-loop-part : goal.invariant-loop-part
invariant-loop-part l = record {
  sheets : sheets_forth (changes_of (drop l.part-index l.parts)) (sheets_drafted l.draft (listed l.names)) ≡ sheets_forth (changes_of l.parts) (listed l.names);
  names : names_forth (changes_of (drop l.part-index l.parts)) (names_drafted l.draft (names_of l.names)) ≡ names_forth (changes_of l.parts) (names_of l.names);
  known : HasKnownWords (words_of l.names) l.draft;
  can : CanRepeat (words_of l.names) (changes_of (drop l.part-index l.parts)) (sheets_drafted l.draft (listed l.names));
}
