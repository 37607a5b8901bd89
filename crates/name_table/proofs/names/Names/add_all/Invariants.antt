use Rattle.std.proofs.Common.{◌≡◌, drop}
use Rattle.name_table.specs.Listed.{listed}
use Rattle.name_table.specs.Named.{names_of, words_of}
use Rattle.name_table.specs.internal.Fresh.{KeepsOthers, with_added}
use Rattle.name_table.proofs.names.Names.add_all.Given as goal

-- the names gone by are added, and no others
abbrev pub invariant-names : goal.invariant-names
invariant-names l = record {
  added : with_added (drop l.key-index l.list) (names_of l.self) ≡ with_added l.list (names_of l.fn.self);
  others : KeepsOthers l.list (names_of l.fn.self) (names_of l.self);
  words : words_of l.self ≡ words_of l.fn.self;
  sheets : listed l.self ≡ listed l.fn.self;
}
