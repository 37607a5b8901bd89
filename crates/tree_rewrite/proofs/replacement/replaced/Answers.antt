use Rattle.std.proofs.Common.{sym, subst}
use Rattle.formula_tree.specs.Pooled.{held}
use Rattle.formula_tree.specs.Term.{mapped}
use Rattle.tree_rewrite.specs.Pooled.{HoldsChanged}
use Rattle.tree_rewrite.specs.internal.Walk.{Takes, replaced, term_of}
use Rattle.tree_rewrite.proofs.replacement.replaced.Goals as goal

pub part-requires : goal.part-requires
unfolding Takes
part-requires g c = c.requires

pub returns-clause-tree : goal.returns-clause-tree
unfolding replaced
returns-clause-tree g c =
    c.in_ok-tree.ensures.tree (mapped (g.R.Replacement.for_cell c.args.rule.now) (g.R.Replacement.for_area c.args.rule.now) (term_of c.args.tree.now)) c.in_ok-changed.ensures

pub returns-clause-held : goal.returns-clause-held
unfolding replaced
returns-clause-held g c =
    let after = mapped (g.R.Replacement.for_cell c.args.rule.now) (g.R.Replacement.for_area c.args.rule.now) (term_of c.args.tree.now) in
    subst (λ t. HoldsChanged (held c.args.pool.now) (term_of c.args.tree.now) t (held c.shared_or_kept.new.pool))
    (sym (c.in_ok-tree.ensures.tree after c.in_ok-changed.ensures)) (c.in_ok-tree.ensures.held after c.in_ok-changed.ensures)
