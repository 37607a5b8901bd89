use Rattle.std.proofs.Common.{sym}
use Rattle.calc_eval.proofs.Data.{summarized_value}
use Rattle.calc_eval.proofs.call.summary_value.Goals as goal

pub returns-clause-means : goal.returns-clause-means
returns-clause-means g c =
    summarized_value (g.V.View.world c.args.view.now) c.args.f c.args.args.now c.in_ok-summary.summary c.summarized.result c.requires (sym c.if-is_empty.ensures) c.in_ok-summary.ensures.means c.summarized.ensures
