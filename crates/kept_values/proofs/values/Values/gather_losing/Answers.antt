use Rattle.std.proofs.Common.{◌∙◌, ap, Bool, List, ◌++◌}
use Rattle.std.proofs.lemmas.List.Folds.{list_any-append}
use Rattle.dep_graph.specs.Nodes.{has, same_node}
use Rattle.dep_graph.specs.declared.node.Node.{Node}
use Rattle.kept_values.specs.Values.{marks_in, unlinked_in}
use Rattle.kept_values.proofs.Following.{on_ok}
use Rattle.kept_values.proofs.values.Values.gather_losing.Goals as goal

pub returns-clause-marks : goal.returns-clause-marks
returns-clause-marks c =
    let v = c.args.self.now in
    on_ok c.mark_all.result _ _
    (λ marked a.
    marked a ∙ ap (λ (ns : List Node). has a (marks_in v ++ ns)) (c.as_slice.ensures.keys ∙ (λ i. (c.replace-losing.ensures.value i).keys)) ∙ list_any-append (same_node a) (marks_in v) v.noted.losing.keys)
    c.mark_all.ensures.ok

pub returns-clause-unlinked : goal.returns-clause-unlinked
returns-clause-unlinked c =
    let v = c.args.self.now in
    on_ok c.mark_all.result _ _
    (λ marked a.
    marked a ∙ ap (λ (ns : List Node). has a (unlinked_in v ++ ns)) (c.as_slice.ensures.keys ∙ (λ i. (c.replace-losing.ensures.value i).keys)) ∙ list_any-append (same_node a) (unlinked_in v) v.noted.losing.keys)
    c.mark_all.ensures.unlinked

pub returns-clause-losing : goal.returns-clause-losing
returns-clause-losing c = on_ok c.mark_all.result _ _
    (λ marked a. ap (λ (f : Node → Bool). f a) c.mark_all.ensures.losing ∙ (λ i. has a (c.replace-losing.ensures.after i).keys) ∙ ap (has a) c.new.ensures.empty)
    c.mark_all.ensures.ok
