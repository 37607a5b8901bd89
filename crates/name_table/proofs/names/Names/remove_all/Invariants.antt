use Rattle.std.proofs.Common.{◌≡◌, drop}
use Rattle.name_table.specs.Drafts.{without}
use Rattle.name_table.specs.Listed.{listed}
use Rattle.name_table.specs.Named.{names_of, words_of}
use Rattle.name_table.proofs.names.Names.remove_all.Given as goal

-- the names gone by are taken away
abbrev pub invariant-names : goal.invariant-names
invariant-names l = record {
  left : without (drop l.key-index l.list) (names_of l.self) ≡ without l.list (names_of l.fn.self);
  words : words_of l.self ≡ words_of l.fn.self;
  sheets : listed l.self ≡ listed l.fn.self;
}
