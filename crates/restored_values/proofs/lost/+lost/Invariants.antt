use Rattle.std.proofs.Common.{◌≡◌, drop}
use Rattle.formula_tree.specs.Relative.{relative_list}
use Rattle.formula_tree.proofs.RelativeNodes.{relatives}
use Rattle.restored_values.specs.Suspects.{any_has_lost}
use Rattle.restored_values.proofs.lost.+lost.Given as goal

-- one of the arguments has a lost reference exactly where one of those that are left has
abbrev pub invariant-some_has_lost-arguments : goal.invariant-some_has_lost-arguments
invariant-some_has_lost-arguments l = any_has_lost (relatives (drop l.argument-index l.argument-items)) ≡ any_has_lost (relative_list l.list)
