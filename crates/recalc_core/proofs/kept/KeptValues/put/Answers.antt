use Rattle.std.proofs.Common.{refl}
use Rattle.std.specs.HashMap as hash
use Rattle.std.proofs.lemmas.Result.{on_err_weaker}
use Rattle.grid_store.specs.Grid.{cells_of}
use Rattle.dep_graph.specs.Nodes.{same_node}
use Rattle.recalc_core.proofs.Held.{held_same}
use Rattle.recalc_core.proofs.kept.KeptValues.put.Goals as goal

pub returns-in-Name-clause-err : goal.returns-in-Name-clause-err
returns-in-Name-clause-err c =
    let self = c.args.self.now in
    on_err_weaker c.insert.result
    (λ same. held_same (cells_of self.cells) (cells_of self.cells) (hash.get same_node self.beyond) (hash.get same_node self.beyond) (hash.get same_node self.names) (hash.get same_node c.insert.new.values) refl (λ a. refl) same)
    c.insert.ensures.err

pub returns-in-Range-clause-err : goal.returns-in-Range-clause-err
returns-in-Range-clause-err c =
    let self = c.args.self.now in
    on_err_weaker c.insert-in-Range.result
    (λ same. held_same (cells_of self.cells) (cells_of self.cells) (hash.get same_node self.beyond) (hash.get same_node self.beyond) (hash.get same_node self.names) (hash.get same_node c.insert-in-Range.new.values) refl (λ a. refl) same)
    c.insert-in-Range.ensures.err

pub returns-in-Whole-clause-err : goal.returns-in-Whole-clause-err
returns-in-Whole-clause-err c =
    let self = c.args.self.now in
    on_err_weaker c.insert-in-Whole.result
    (λ same. held_same (cells_of self.cells) (cells_of self.cells) (hash.get same_node self.beyond) (hash.get same_node self.beyond) (hash.get same_node self.names) (hash.get same_node c.insert-in-Whole.new.values) refl (λ a. refl) same)
    c.insert-in-Whole.ensures.err
