use Rattle.std.proofs.Common.{◌≡◌, ◌<◌, ◌≤◌, ◌+◌, ◌*◌, ◌∙◌, sym, ap, arith, rules, map}
use Rattle.std.proofs.lemmas.List.{take_all}
use Rattle.formula_tree.specs.Relative.{relative, relative_list}
use Rattle.formula_tree.specs.Term.{terms_of, depth_of, depth_of_all}
use Rattle.formula_tree.proofs.ArgumentLists.{depth_of-item}
use Rattle.formula_tree.proofs.RelativeNodes.{relatives, relative_list-trees}
use Rattle.formula_tree.proofs.leaves.Leaves.+leaves.Goals as goal

-- each argument is less deep than all
pub shared_list-shared-requires : goal.shared_list-shared-requires
shared_list-shared-requires t c =
    let items = c.items-argument-items.result.now in
    let item = c.argument-item.result in
    let all : relative_list c.args.list.now ≡ relatives items = relative_list-trees c.args.list.now ∙ ap relatives (sym c.items-argument-items.ensures) in
    let least : depth_of (relative item.value) ≤ depth_of_all (relatives items) =
    depth_of-item (λ t. relative t.value) items c.arguments.argument-index item c.arguments-test.true c.argument-item.is in
    let less : 2 * depth_of (relative item.value) < 2 * depth_of_all (relative_list c.args.list.now) + 1 = rw all (omega (arith, least)) in
    search rules

pub shared_list-returns : goal.shared_list-returns
shared_list-returns t c =
    relative_list-trees c.arguments.shared
    ∙ ap terms_of (c.arguments.invariant ∙ ap (map (λ t. relative t.value)) (take_all c.arguments.argument-index c.items-argument-items.result.now c.arguments-test.false))
    ∙ ap relatives c.items-argument-items.ensures
    ∙ sym (relative_list-trees c.args.list.now)
