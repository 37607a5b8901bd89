use Rattle.std.proofs.Common.{◌∙◌, sym}
use Rattle.std.proofs.lemmas.Result.{IfOk-weaker}
use Rattle.dep_graph.specs.Nodes.{items_of}
use Rattle.shift_core.specs.Carried.{destination}
use Rattle.session_values.proofs.Listed.{cells_are_known, cells_only, cells_touched, names_only}
use Rattle.session_values.proofs.listing.touched_by.Goals as goal

pub returns-in-Cells-clause-touched : goal.returns-in-Cells-clause-touched
returns-in-Cells-clause-touched c = IfOk-weaker c.moved_cells.result _ _
    (λ nodes are. cells_touched c.args.session.now c.args.s.now c.in-Cells.source c.in-Cells.to (items_of nodes) (sym c.form.ensures ∙ c.in-Cells.is) are)
    c.moved_cells.ensures

pub returns-in-Cells-clause-known : goal.returns-in-Cells-clause-known
returns-in-Cells-clause-known c = IfOk-weaker c.moved_cells.result _ _
    (λ nodes are. cells_are_known c.args.session.now c.in-Cells.source (destination c.in-Cells.source c.in-Cells.to) (items_of nodes) are)
    c.moved_cells.ensures

pub returns-in-Cells-clause-only : goal.returns-in-Cells-clause-only
returns-in-Cells-clause-only c = IfOk-weaker c.moved_cells.result _ _
    (λ nodes are. cells_only c.args.session.now c.args.s.now c.in-Cells.source c.in-Cells.to (items_of nodes) (sym c.form.ensures ∙ c.in-Cells.is) are)
    c.moved_cells.ensures

pub returns-in-Sheet-clause-only : goal.returns-in-Sheet-clause-only
returns-in-Sheet-clause-only c = IfOk-weaker c.sheet_names.result _ _
    (λ nodes are. names_only c.args.s.now c.in-Sheet.sheet (items_of nodes) (sym c.form.ensures ∙ c.in-Sheet.is) are)
    c.sheet_names.ensures.only
