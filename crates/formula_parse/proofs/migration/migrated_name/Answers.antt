-- Two names migrate alike only where they are one.
use Rattle.std.proofs.Common.{◌≡◌, rules}
use Rattle.formula_parse.specs.Migrated.{migrated_name}
use Rattle.formula_parse.proofs.Capitals.{name-from_one}
use Rattle.formula_parse.proofs.migration.migrated_name.Goals as goal

pub returns-clause-apart : goal.returns-clause-apart
returns-clause-apart c =
    let is : c.new.result ≡ migrated_name c.args.name.now = search rules in
    name-from_one c.args.name.now c.new.result is
