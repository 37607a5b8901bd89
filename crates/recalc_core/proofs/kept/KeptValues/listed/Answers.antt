use Rattle.std.proofs.Common.{◌∙◌, ap, sym, subst}
use Rattle.std.specs.HashMap as hash
use Rattle.std.proofs.lemmas.Result.{IfOk-weaker}
use Rattle.calc_eval.specs.Filled.{AreFilled, shown_by}
use Rattle.calc_terms.specs.Cells.{cells_in}
use Rattle.grid_store.specs.Grid.{cells_of}
use Rattle.dep_graph.specs.Nodes.{same_node}
use Rattle.recalc_core.proofs.FilledBlocks.{block_filled, block_shown}
use Rattle.recalc_core.proofs.kept.KeptValues.listed.Goals as goal

pub returns-clause-filled : goal.returns-clause-filled
returns-clause-filled c =
    IfOk-weaker c.listed_refs.result _ _ (λ list is. subst (AreFilled c.args.block) (sym is) (block_filled (cells_of c.args.self.now.cells) c.args.block)) c.listed_refs.ensures

pub returns-clause-shown : goal.returns-clause-shown
returns-clause-shown c =
    let self = c.args.self.now in
    IfOk-weaker c.listed_refs.result _ _
    (λ list is. ap (λ es. cells_in (shown_by es) c.args.block) is ∙ block_shown (cells_of self.cells) (hash.get same_node self.beyond) (hash.get same_node self.names) c.args.block c.requires)
    c.listed_refs.ensures
