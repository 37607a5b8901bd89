use Rattle.std.proofs.Common.{◌∙◌, sym, refl}
use Rattle.std.specs.HashMap as hash
use Rattle.std.proofs.lemmas.Result.{on_err_weaker}
use Rattle.grid_store.specs.Grid.{cells_of}
use Rattle.dep_graph.specs.Nodes.{same_node}
use Rattle.recalc_core.proofs.Held.{cell_put, held_same}
use Rattle.recalc_core.proofs.kept.KeptValues.put_cell.Goals as goal

pub returns-in_ok-put-clause-ok : goal.returns-in_ok-put-clause-ok
returns-in_ok-put-clause-ok c =
    let self = c.args.self.now in
    cell_put (cells_of self.cells) (cells_of c.put.new.self) (hash.get same_node self.beyond) (hash.get same_node self.names) c.args.at c.args.value
    (sym c.is_inside.ensures ∙ c.if-is_inside.true) c.in_ok-put.ensures.ok

pub returns-else-is_inside-clause-err : goal.returns-else-is_inside-clause-err
returns-else-is_inside-clause-err c =
    let self = c.args.self.now in
    on_err_weaker c.insert.result
    (λ same. held_same (cells_of self.cells) (cells_of self.cells) (hash.get same_node self.beyond) (hash.get same_node c.insert.new.values) (hash.get same_node self.names) (hash.get same_node self.names) refl same (λ a. refl))
    c.insert.ensures.err
