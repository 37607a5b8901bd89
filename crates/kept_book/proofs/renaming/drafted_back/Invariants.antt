use Rattle.std.proofs.Common.{◌≡◌, drop}
use Rattle.name_table.specs.Drafts.{HasKnownWords, names_drafted, sheets_drafted}
use Rattle.name_table.specs.Listed.{listed}
use Rattle.name_table.specs.Named.{names_of, words_of}
use Rattle.kept_book.specs.Kept.{changes_of}
use Rattle.kept_book.specs.internal.Stepping.{names_back, sheets_back}
use Rattle.kept_book.proofs.renaming.drafted_back.Given as goal

abbrev pub invariant-loop-index : goal.invariant-loop-index
invariant-loop-index l = record {
  sheets : sheets_drafted l.draft (listed l.names) ≡ sheets_back (changes_of (drop l.index l.parts)) (listed l.names);
  names : names_drafted l.draft (names_of l.names) ≡ names_back (changes_of (drop l.index l.parts)) (names_of l.names);
  known : HasKnownWords (words_of l.names) l.draft;
}
