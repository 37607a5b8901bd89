use Rattle.std.proofs.Common.{◌∙◌, ◌||◌, ap, map}
use Rattle.std.proofs.lemmas.List.Folds.{list_any-append}
use Rattle.dep_graph.specs.Nodes.{has, items_of, same_node}
use Rattle.session_values.specs.internal.Listed.{cell_node}
use Rattle.session_values.proofs.listing.sheet_nodes.Goals as goal

pub returns : goal.returns
returns c = λ a.
    ap (has a) c.in_ok-add_cells.ensures ∙ list_any-append (same_node a) (items_of c.in_ok-nodes.nodes) (map cell_node c.args.cells.now)
    ∙ ap (λ t. t || has a (map cell_node c.args.cells.now)) (c.in_ok-nodes.ensures a)
