use Rattle.std.proofs.Common.{◌≡◌, map, take}
use Rattle.formula_tree.specs.Arguments.{arguments}
use Rattle.formula_tree.specs.Relative.{relative}
use Rattle.formula_tree.specs.Seen.{seen}
use Rattle.formula_tree.specs.StandsFor.{at_home}
use Rattle.formula_tree.proofs.node.+placed.Given as goal

-- the arguments placed so far are the first ones, each placed at the home
abbrev pub invariant-TreeList::placed-arguments : goal.invariant-TreeList::placed-arguments
invariant-TreeList::placed-arguments l = map seen (arguments l.placed) ≡ map (λ t. at_home l.home (relative t.value)) (take l.argument-index l.argument-items)
