use Rattle.std.proofs.Common.{◌≡◌, ◌++◌}
use Rattle.std.specs.BTreeMap.{IsOrdered}
use Rattle.name_table.specs.Scopes.{key_cmp}
use Rattle.name_table.proofs.names.Names.all.Given as goal

-- the names gone by are in the list
abbrev pub invariant-names : goal.invariant-names
invariant-names l = record { parts : l.list.items ++ l.key-iterator ≡ l.self.holders.entries; ordered : IsOrdered key_cmp l.self.holders }
