use Rattle.std.proofs.Common.{◌≡◌, ◌++◌}
use Rattle.std.specs.BTreeMap.{IsOrdered}
use Rattle.name_table.specs.Scopes.{key_cmp}
use Rattle.name_table.proofs.copy.copied_holders.Given as goal

-- the names gone by are in the copy
abbrev pub invariant-names : goal.invariant-names
invariant-names l = record { parts : l.copy.entries ++ l.key-iterator ≡ l.holders.entries; ordered : IsOrdered key_cmp l.holders }
