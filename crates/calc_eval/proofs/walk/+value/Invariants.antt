use Rattle.std.proofs.Common.{◌≡◌, ◌+◌, ◌≤◌, true, false, ◌++◌, drop}
use Rattle.formula_tree.specs.Reference.{sheet_of}
use Rattle.calc_terms.specs.Cost.{cost_all}
use Rattle.calc_terms.specs.Meaning.{evaluated}
use Rattle.calc_eval.specs.internal.Steps.{sizes, terms_at}
use Rattle.calc_eval.proofs.Lists.{all_at}
use Rattle.calc_eval.proofs.walk.+value.Given as goal

-- the arguments so far and those that are left are all, and there are steps for those that are left
abbrev pub invariant-arguments-trees : goal.invariant-arguments-trees
invariant-arguments-trees g l = record {
  same : g.V.View.world l.view ≡ g.V.View.world l.fn.view;
  told : l.args.items ++ evaluated (g.V.View.world l.fn.view) (g.C.Customs.customs l.customs) l.home (all_at l.home (drop l.tree-index l.tree-items)) ≡ evaluated (g.V.View.world l.fn.view) (g.C.Customs.customs l.customs) l.home (terms_at l.home l.list);
  least : l.fn.steps ≤ l.steps;
  asked : l.steps + cost_all (g.V.View.world l.fn.view) (sheet_of l.home) true (all_at l.home (drop l.tree-index l.tree-items)) ≤ l.fn.steps + cost_all (g.V.View.world l.fn.view) (sheet_of l.home) true (terms_at l.home l.list);
  room : l.steps + sizes (g.V.View.world l.fn.view) l.args.items + cost_all (g.V.View.world l.fn.view) (sheet_of l.home) false (all_at l.home (drop l.tree-index l.tree-items)) ≤ l.fn.steps + cost_all (g.V.View.world l.fn.view) (sheet_of l.home) false (terms_at l.home l.list);
}
