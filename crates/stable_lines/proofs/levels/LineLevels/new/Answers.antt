use Rattle.stable_lines.proofs.Reading.{joined_leads}
use Rattle.stable_lines.proofs.levels.LineLevels.new.Goals as goal

pub returns-clause-read : goal.returns-clause-read
returns-clause-read c = λ x. joined_leads c.args.near c.args.far.value.items x
