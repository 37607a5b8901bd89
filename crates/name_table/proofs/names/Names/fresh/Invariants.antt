use Rattle.std.proofs.Common.{◌≡◌, ◌++◌}
use Rattle.name_table.specs.Named.{names_of}
use Rattle.name_table.specs.internal.Fresh.{fresh_of}
use Rattle.name_table.proofs.names.Names.fresh.Given as goal

-- the names gone by that get a holder are in the list
abbrev pub invariant-names : goal.invariant-names
invariant-names l = l.fresh.items ++ fresh_of (names_of l.self) l.key-iterator ≡ fresh_of (names_of l.self) l.draft.names.entries
