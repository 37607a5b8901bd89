use Rattle.std.proofs.Common.{◌∙◌, sym, subst}
use Rattle.range_table.specs.internal.Files.{FindsBoth}
use Rattle.range_table.proofs.Finding.{finds_cells, finds_lines, if_ok}
use Rattle.range_table.proofs.files.Files.touched.Goals as goal

pub returns-in-Cells : goal.returns-in-Cells
returns-in-Cells c =
    if_ok c.meeting.result _ _ (λ found finds.
    finds_cells c.args.s.now c.args.lines.now c.args.self.now c.in-Cells.source c.in-Cells.to found.items (sym c.form.ensures ∙ c.in-Cells.is)
    (subst (λ d. FindsBoth c.args.self.now c.args.lines.now c.in-Cells.source d found.items) c.destination.ensures finds))
    c.meeting.ensures

pub returns-in_default : goal.returns-in_default
returns-in_default c =
    if_ok c.touched.result _ _ (λ found finds.
    finds_lines c.args.s.now c.args.lines.now c.args.self.now found.items (λ source to e. c.in_default.not-Cells source to (c.form.ensures ∙ e)) finds)
    c.touched.ensures.blocks
