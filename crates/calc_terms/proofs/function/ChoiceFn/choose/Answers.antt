use Rattle.std.proofs.Common.{sym, subst}
use Rattle.calc_terms.specs.Choices.{Decides, IsAmong}
use Rattle.calc_terms.proofs.Choosing.{among, decides}
use Rattle.calc_terms.proofs.function.ChoiceFn.choose.Goals as goal

pub returns-clause-decides : goal.returns-clause-decides
returns-clause-decides c = subst (Decides c.args.self c.args.first c.args.count) (sym c.chosen.ensures) (decides c.args.self c.args.first c.args.count)

pub returns-clause-among : goal.returns-clause-among
returns-clause-among c = subst (IsAmong c.args.count) (sym c.chosen.ensures) (among c.args.self c.args.first c.args.count)
