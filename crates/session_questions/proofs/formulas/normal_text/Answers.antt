use Rattle.std.proofs.Common.{sym, subst}
use Rattle.formula_tree.proofs.SameTexts.{proper-inside}
use Rattle.formula_tree.specs.StandsFor.{ArePlacesInside}
use Rattle.book_model.specs.Answers.{first_cell}
use Rattle.kept_book.specs.Formula.{tree_at}
use Rattle.session_questions.proofs.formulas.normal_text.Goals as goal

pub print-requires : goal.print-requires
print-requires c = subst (λ at. ArePlacesInside (tree_at at c.in_ok-tree.tree)) (sym c.first_cell.ensures) (proper-inside (tree_at (first_cell c.args.sheet) c.in_ok-tree.tree) c.in_ok-tree.ensures.answered.1.1)
