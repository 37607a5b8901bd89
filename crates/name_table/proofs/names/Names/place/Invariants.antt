use Rattle.std.proofs.Common.{◌≡◌, length}
use Rattle.name_table.specs.Drafts.{with_changes}
use Rattle.name_table.specs.Listed.{listed}
use Rattle.name_table.specs.Named.{names_of, words_of}
use Rattle.name_table.specs.internal.Fresh.{AddsNone}
use Rattle.name_table.proofs.names.Names.place.Given as goal

-- the changes gone by are made, and the others add no name
abbrev pub invariant-names : goal.invariant-names
invariant-names l = record {
  made : with_changes l.changes.entries (names_of l.self) ≡ with_changes l.fn.changes.entries (names_of l.fn.self);
  room : AddsNone l.changes (names_of l.self);
  words : words_of l.self ≡ words_of l.fn.self;
  sheets : listed l.self ≡ listed l.fn.self;
}

abbrev pub decreases-names : goal.decreases-names
decreases-names l = length l.changes.entries
