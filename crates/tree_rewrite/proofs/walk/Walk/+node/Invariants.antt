use Rattle.std.proofs.Common.{◌≡◌, ◌+◌, ◌*◌, ◌++◌, ◌∷◌, map, take}
use Rattle.formula_tree.specs.Arguments.{trees}
use Rattle.formula_tree.specs.Relative.{relative, relative_list}
use Rattle.formula_tree.specs.Term.{depth_of, depth_of_all}
use Rattle.tree_rewrite.specs.internal.Walk.{term_of, terms_in, tree_replaced}
use Rattle.tree_rewrite.proofs.walk.Walk.+node.Given as goal

-- the arguments so far stay as they are
abbrev pub invariant-arguments-staying : goal.invariant-arguments-staying
invariant-arguments-staying g l =
    map (tree_replaced (g.R.Replacement.for_cell l.self.rule.now) (g.R.Replacement.for_area l.self.rule.now)) (take l.index l.items) ≡ map term_of (take l.index l.items)

-- the arguments in front so far are shared
abbrev pub invariant-arguments_from-front : goal.invariant-arguments_from-front
invariant-arguments_from-front g l = map term_of (trees l.list) ≡ map term_of (take l.argument-index l.front)

-- after them comes the changed one, and then what the rest so far becomes
abbrev pub invariant-arguments_from-rest : goal.invariant-arguments_from-rest
invariant-arguments_from-rest g l =
    map term_of (trees l.list) ≡ map term_of l.front ++ (term_of l.fn.changed ∷ map (tree_replaced (g.R.Replacement.for_cell l.self.rule.now) (g.R.Replacement.for_area l.self.rule.now)) (take l.argument-index l.rest))

abbrev pub decreases-node : goal.decreases-node
decreases-node g l = 4 * depth_of (relative l.node.now)

abbrev pub decreases-part : goal.decreases-part
decreases-part g l = 4 * depth_of (term_of l.tree.now) + 1

abbrev pub decreases-arguments : goal.decreases-arguments
decreases-arguments g l = 4 * depth_of_all (relative_list l.list.now) + 3

abbrev pub decreases-arguments_from : goal.decreases-arguments_from
decreases-arguments_from g l = 4 * depth_of_all (terms_in l.rest.now) + 2
