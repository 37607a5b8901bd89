use Rattle.std.proofs.Common.{◌≡◌, sym, subst}
use Rattle.cell_value.specs.Summary.{summary_of}
use Rattle.calc_terms.specs.References.{reference_cells}
use Rattle.calc_eval.proofs.Data.{cell_summary}
use Rattle.calc_eval.proofs.call.reference_summary.Goals as goal

pub returns-in-Cell-clause-means : goal.returns-in-Cell-clause-means
returns-in-Cell-clause-means g c =
    subst (λ r. c.of.result ≡ summary_of (reference_cells (g.V.View.world c.args.view.now) r).values) (sym c.in-Cell.is)
    (cell_summary (g.V.View.world c.args.view.now) c.in-Cell.at c.scalar.result.now c.of.result c.of.ensures.alone c.scalar.ensures)
