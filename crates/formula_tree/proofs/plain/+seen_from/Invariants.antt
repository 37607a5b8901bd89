use Rattle.std.proofs.Common.{◌≡◌, ◌+◌, ◌*◌, map, take}
use Rattle.formula_tree.specs.Arguments.{trees}
use Rattle.formula_tree.specs.Relative.{relative}
use Rattle.formula_tree.specs.Seen.{seen, seen_list}
use Rattle.formula_tree.specs.Term.{depth_of, depth_of_all}
use Rattle.formula_tree.specs.StandsFor.{from_home}
use Rattle.formula_tree.proofs.plain.+seen_from.Given as goal

-- the arguments seen from the home so far are the first ones
abbrev pub invariant-PlainList::seen_from-arguments : goal.invariant-PlainList::seen_from-arguments
invariant-PlainList::seen_from-arguments l = map (λ t. relative t.value) (trees l.list) ≡ map (λ p. from_home l.home (seen p)) (take l.argument-index l.argument-items)

abbrev pub decreases-Plain::seen_from : goal.decreases-Plain::seen_from
decreases-Plain::seen_from l = 2 * depth_of (seen l.self.now)

abbrev pub decreases-PlainList::seen_from : goal.decreases-PlainList::seen_from
decreases-PlainList::seen_from l = 2 * depth_of_all (seen_list l.self.now) + 1
