use Rattle.std.proofs.Common.{◌≡◌, ◌++◌, filter, map}
use Rattle.std.specs.BTreeMap.{IsOrdered}
use Rattle.name_table.specs.Named.{items_of}
use Rattle.name_table.specs.Scopes.{key_cmp}
use Rattle.name_table.proofs.Holders.{RiseFrom, is_of}
use Rattle.name_table.proofs.names.Names.listed.Given as goal

-- the scope's names gone by are in the list, and what is left rises from the scope's first key
abbrev pub invariant-names : goal.invariant-names
invariant-names l = record {
  parts : items_of l.list ++ map (λ e. (e.0.word, e.1)) (filter (is_of l.scope) l.key-iterator) ≡ map (λ e. (e.0.word, e.1)) (filter (is_of l.scope) l.self.holders.entries);
  rising : RiseFrom l.scope l.key-iterator;
  ordered : IsOrdered key_cmp l.self.holders;
}
