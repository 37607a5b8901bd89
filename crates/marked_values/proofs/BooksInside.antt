-- A workbook stays within the limits of its sheets over an operation. Serves the law.
use Rattle.std.proofs.Common.{◌≡◌, ◌∙◌, sym, ap, subst, Some, option_map, inl, inr, pos, []}
use Rattle.std.proofs.lemmas.Bool.{false≢true}
use Rattle.std.proofs.lemmas.Option.{same_Some}
use Rattle.formula_tree.specs.Term.{Term}
use Rattle.formula_tree.specs.declared.reference.Corner.{Corner}
use Rattle.tree_rewrite.specs.References.{FitsSheets}
use Rattle.tree_rewrite.specs.Rewritten.{rewritten}
use Rattle.tree_rewrite.proofs.CallerLemmas.{fit-stays}
use Rattle.book_values.specs.Workbook as book
use Rattle.book_values.specs.Workbook.{Workbook, tree_at}
use Rattle.recalc_core.proofs.Worked.{tree_stands}
use Rattle.marked_values.specs.Shifts.{BooksStayInside}
use Rattle.marked_values.proofs.Origins.{Comes, comes}
use Rattle.marked_values.proofs.Pairs.{pair_tree}
use Rattle.marked_values.proofs.PairValues.{tree_was}

pub books_stay_inside : BooksStayInside
books_stay_inside s b c sound inside over = record { cells = over.inside; trees = λ z u is. by z u is (comes s sound b c over z) }
  where
    by : (z : book.Node) (u : Term Corner) → tree_at c z ≡ Some u → Comes s sound c z → FitsSheets u
    by z u is (inr (none, absent)) = absurd (false≢true (sym absent ∙ tree_stands c [] (pos 0) z u is))
    by z u is (inl (x, pair)) =
        let (t, tree) = tree_was s (tree_at b x) u (sym (pair_tree s b c over x z pair) ∙ is) in
        let same : rewritten s t ≡ u = same_Some (rewritten s t) u (sym (pair_tree s b c over x z pair ∙ ap (option_map (rewritten s)) tree) ∙ is) in
        subst FitsSheets same (fit-stays s t sound (inside.trees x t tree)).0
