use Rattle.std.proofs.Common.{◌≡◌, drop}
use Rattle.formula_tree.specs.Reference.{base_of, corner_at}
use Rattle.formula_tree.specs.Relative.{relative_list}
use Rattle.formula_tree.specs.Term.{each_corner_all}
use Rattle.tree_rewrite.proofs.Returns.{all_at}
use Rattle.book_model.specs.Names.{all_are_absolute}
use Rattle.session_operations.proofs.absolute.+are_absolute.Given as goal

-- all arguments are absolute exactly where those that are left are
abbrev pub invariant-all_are_absolute-arguments : goal.invariant-all_are_absolute-arguments
invariant-all_are_absolute-arguments l =
    all_are_absolute (all_at l.home (drop l.argument-index l.argument-items)) ≡ all_are_absolute (each_corner_all (corner_at (base_of l.home)) (relative_list l.list))
