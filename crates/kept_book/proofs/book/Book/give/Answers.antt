use Rattle.std.proofs.Common.{sym, subst}
use Rattle.formula_tree.specs.Relative.{relative}
use Rattle.formula_tree.specs.StandsFor.{at_home}
use Rattle.tree_rewrite.proofs.CallerLemmas.{proper-fit}
use Rattle.tree_rewrite.specs.References.{FitsSheets}
use Rattle.kept_book.specs.Formula.{IsProperIn, tree_in_scope}
use Rattle.kept_book.proofs.book.Book.give.Goals as goal

pub insert-requires-clause-fits : goal.insert-requires-clause-fits
insert-requires-clause-fits c =
    subst (λ h. FitsSheets (at_home h (relative c.in-Some.tree.value))) (sym c.home_in.ensures)
    (proper-fit (tree_in_scope c.args.scope c.in-Some.tree) (subst (IsProperIn c.args.scope) c.in-Some.is c.requires.proper))
