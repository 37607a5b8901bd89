use Rattle.std.proofs.Common.{◌↔◌, drop}
use Rattle.formula_tree.specs.Reference.{base_of, corner_at}
use Rattle.formula_tree.specs.Relative.{relative_list}
use Rattle.formula_tree.specs.Term.{each_corner_all}
use Rattle.tree_rewrite.specs.internal.Passage.{AllComeBack}
use Rattle.tree_rewrite.proofs.Returns.{all_at}
use Rattle.tree_rewrite.proofs.loss.+comes_back.Given as goal

-- all come back exactly where those that are left do
abbrev pub invariant-all_come_back-arguments : goal.invariant-all_come_back-arguments
invariant-all_come_back-arguments l =
    AllComeBack l.s (all_at l.home (drop l.argument-index l.argument-items)) ↔ AllComeBack l.s (each_corner_all (corner_at (base_of l.home)) (relative_list l.list))
