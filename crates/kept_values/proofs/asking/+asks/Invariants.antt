use Rattle.std.proofs.Common.{◌≡◌, drop}
use Rattle.formula_tree.specs.Reference.{base_of, corner_at}
use Rattle.formula_tree.specs.Relative.{relative_list}
use Rattle.formula_tree.specs.Term.{each_corner_all}
use Rattle.formula_tree.proofs.RelativeNodes.{relatives}
use Rattle.marked_values.specs.Shifts.{any_asks_place}
use Rattle.kept_values.proofs.asking.+asks.Given as goal

-- one of the arguments asks exactly where one of those that are left does
abbrev pub invariant-some_ask-arguments : goal.invariant-some_ask-arguments
invariant-some_ask-arguments l =
    any_asks_place (each_corner_all (corner_at (base_of l.home)) (relatives (drop l.argument-index l.argument-items)))
    ≡ any_asks_place (each_corner_all (corner_at (base_of l.home)) (relative_list l.list))
