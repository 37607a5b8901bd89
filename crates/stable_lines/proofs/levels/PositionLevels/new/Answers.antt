use Rattle.stable_lines.proofs.Reading.{joined_back_leads}
use Rattle.stable_lines.proofs.levels.PositionLevels.new.Goals as goal

pub returns-clause-read : goal.returns-clause-read
returns-clause-read c = λ x. joined_back_leads c.args.near c.args.far.value.items x
