-- The text as it is meant today spells the tree that the old one spelt, with its names migrated.
use Rattle.std.proofs.Common.{◌≡◌, sym, subst, rules}
use Rattle.formula_parse.specs.Migrated.{SpellsMigrated, migrated}
use Rattle.formula_parse.proofs.MigratedTrees.{copy-spells, migrated-spells}
use Rattle.formula_parse.proofs.migration.migrated.Goals as goal

pub returns-in-Some-2-clause-tree : goal.returns-in-Some-2-clause-tree
returns-in-Some-2-clause-tree c =
    let is : c.new.result ≡ migrated c.args.text.now = search rules in
    subst (λ x. SpellsMigrated c.args.text.now x) (sym is) (migrated-spells c.args.text.now)

pub returns-in-None-clause-tree : goal.returns-in-None-clause-tree
returns-in-None-clause-tree c =
    let same : migrated c.args.text.now ≡ c.args.text.now = search rules in
    copy-spells c.from_str-in-None.result c.args.text.now same c.from_str-in-None.ensures
