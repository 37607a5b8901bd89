use Rattle.std.proofs.Common.{◌∙◌, sym, ap, subst, List, option_map}
use Rattle.std.specs.Prelude.{IsTrue}
use Rattle.std.proofs.lemmas.Result.{IfOk-weaker}
use Rattle.dep_graph.specs.Nodes.{has}
use Rattle.dep_graph.specs.declared.node.Node.{Node}
use Rattle.dep_graph.specs.declared.node.Node.TheVariants as node
use Rattle.kept_steps.specs.Turned.{to_undo}
use Rattle.recalc_core.specs.Laws.{AreKnown}
use Rattle.session_values.proofs.Listed.{cells_known, replaced_listed, replaced_only}
use Rattle.session_values.proofs.listing.restored_by.Goals as goal

pub returns-in-Some-clause-listed : goal.returns-in-Some-clause-listed
returns-in-Some-clause-listed c = IfOk-weaker c.cell_nodes.result _ _
    (λ nodes are p one h. subst (λ (ns : List Node). IsTrue (has (node.Cell p) ns)) (sym are) (replaced_listed (to_undo c.args.session.now) c.in-Some.cells.now p (sym c.cells_removed.ensures ∙ ap (option_map (λ cells. cells.now)) c.in-Some.is) h))
    c.cell_nodes.ensures

pub returns-in-Some-clause-known : goal.returns-in-Some-clause-known
returns-in-Some-clause-known c = IfOk-weaker c.cell_nodes.result _ _ (λ nodes are words. subst (λ (ns : List Node). AreKnown words ns) (sym are) (cells_known words c.in-Some.cells.now)) c.cell_nodes.ensures

pub returns-in-Some-clause-only : goal.returns-in-Some-clause-only
returns-in-Some-clause-only c = IfOk-weaker c.cell_nodes.result _ _
    (λ nodes are a h.
    replaced_only (to_undo c.args.session.now) c.in-Some.cells.now (sym c.cells_removed.ensures ∙ ap (option_map (λ cells. cells.now)) c.in-Some.is) a (subst (λ (ns : List Node). IsTrue (has a ns)) are h))
    c.cell_nodes.ensures
