use Rattle.std.proofs.Common.{◌≡◌, ◌+◌, ◌*◌, map, take}
use Rattle.formula_tree.specs.Arguments.{trees}
use Rattle.formula_tree.specs.Relative.{relative, relative_list}
use Rattle.formula_tree.specs.Term.{depth_of, depth_of_all}
use Rattle.formula_tree.proofs.leaves.Leaves.+leaves.Given as goal

-- the arguments so far are equal to the first ones
abbrev pub invariant-shared_list-arguments : goal.invariant-shared_list-arguments
invariant-shared_list-arguments l = map (λ t. relative t.value) (trees l.shared) ≡ map (λ t. relative t.value) (take l.argument-index l.argument-items)

abbrev pub decreases-shared : goal.decreases-shared
decreases-shared l = 2 * depth_of (relative l.tree.now.value)

abbrev pub decreases-shared_list : goal.decreases-shared_list
decreases-shared_list l = 2 * depth_of_all (relative_list l.list.now) + 1
