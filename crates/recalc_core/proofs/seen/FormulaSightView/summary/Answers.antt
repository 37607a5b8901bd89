use Rattle.range_table.specs.Ranges.{table_of}
use Rattle.calc_eval.proofs.BlockFilling.{fits_ends}
use Rattle.calc_terms.specs.Cells.{filled_in}
use Rattle.range_table.proofs.Staying.{few_are_merged}
use Rattle.recalc_core.specs.internal.KeptValues.{kept_by}
use Rattle.recalc_core.specs.internal.Seen.{shown_at}
use Rattle.recalc_core.proofs.ListedValues.{most_steps}
use Rattle.recalc_core.proofs.seen.FormulaSightView.summary.Goals as goal

pub returns-clause-most : goal.returns-clause-most
unfolding filled_in
returns-clause-most g c =
    let seen = c.args.self.now in
    let ends = fits_ends c.args.block c.requires in
    let values = shown_at (kept_by seen.shown.kept.now) in
    let few = (few_are_merged values (table_of seen.ranges).kept c.args.block (ends.rows, ends.bottom, ends.cols, ends.right)).0 in
    most_steps c.summary.result c.args.steps.now c.summary.new.steps _ _ c.summary.ensures.steps c.summary.ensures.err_steps few
