use Rattle.std.proofs.Common.{◌∙◌, sym, ap, map}
use Rattle.std.proofs.lemmas.List.{take_all}
use Rattle.formula_tree.specs.Term.{terms_of, each_corner_all}
use Rattle.formula_tree.specs.Reference.{base_of, corner_at}
use Rattle.formula_tree.specs.Relative.{relative}
use Rattle.formula_tree.specs.StandsFor.{at_home}
use Rattle.formula_tree.proofs.ArgumentLists.{each_corner_all-terms_of}
use Rattle.formula_tree.proofs.RelativeNodes.{relatives, relative_list-trees}
use Rattle.formula_tree.proofs.SeenNodes.{seen_list-arguments}
use Rattle.formula_tree.proofs.node.+placed.Goals as goal

pub TreeList::placed-returns : goal.TreeList::placed-returns
TreeList::placed-returns t c =
    let items = c.items-argument-items.result.now in
    let f = corner_at (base_of c.args.home) in
    seen_list-arguments c.arguments.placed
    ∙ ap terms_of (c.arguments.invariant ∙ ap (map (λ t. at_home c.args.home (relative t.value))) (take_all c.arguments.argument-index items c.arguments-test.false))
    ∙ sym (each_corner_all-terms_of f (λ t. relative t.value) items)
    ∙ ap (λ xs. each_corner_all f (relatives xs)) c.items-argument-items.ensures
    ∙ ap (each_corner_all f) (sym (relative_list-trees c.args.self.now))
