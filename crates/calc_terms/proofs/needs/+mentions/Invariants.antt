use Rattle.std.proofs.Common.{◌≡◌, drop}
use Rattle.formula_tree.specs.Reference.{base_of, corner_at}
use Rattle.formula_tree.specs.Relative.{relative_list}
use Rattle.formula_tree.specs.Term.{each_corner_all}
use Rattle.formula_tree.proofs.RelativeNodes.{relatives}
use Rattle.calc_terms.specs.Needs as needs
use Rattle.calc_terms.proofs.needs.+mentions.Given as goal

-- one of the arguments mentions the place exactly where one of those that are left does
abbrev pub invariant-some_mention-arguments : goal.invariant-some_mention-arguments
invariant-some_mention-arguments l =
    needs.mentions_any l.skip (each_corner_all (corner_at (base_of l.home)) (relatives (drop l.argument-index l.argument-items))) l.at
    ≡ needs.mentions_any l.skip (each_corner_all (corner_at (base_of l.home)) (relative_list l.list)) l.at
