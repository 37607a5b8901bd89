use Rattle.std.proofs.Common.{◌∙◌, sym, ap}
use Rattle.formula_tree.specs.Reference.{base_of, corner_at}
use Rattle.formula_tree.specs.Term.{each_corner_all}
use Rattle.formula_tree.proofs.RelativeNodes.{relative_list-trees}
use Rattle.tree_rewrite.specs.internal.Walk.{terms_in}
use Rattle.book_model.specs.Names.{all_are_absolute}
use Rattle.session_operations.proofs.absolute.+are_absolute.Goals as goal

pub all_are_absolute-arguments-init : goal.all_are_absolute-arguments-init
all_are_absolute-arguments-init t c =
    ap (λ ts. all_are_absolute (each_corner_all (corner_at (base_of c.args.home)) ts)) (sym (relative_list-trees c.args.list.now ∙ ap terms_in (sym c.items-argument-items.ensures)))
