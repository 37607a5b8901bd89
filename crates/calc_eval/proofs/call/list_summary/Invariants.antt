use Rattle.std.proofs.Common.{◌≡◌, ◌+◌, ◌≤◌, map, take, drop}
use Rattle.std.specs.List.{flat_map}
use Rattle.cell_value.specs.Summary.{IsBounded, summary_of}
use Rattle.func_args.specs.Lists.{listed}
use Rattle.calc_terms.specs.References.{argument_cells}
use Rattle.calc_eval.specs.internal.Steps.{sizes}
use Rattle.calc_eval.proofs.call.list_summary.Given as goal

abbrev pub invariant-arguments : goal.invariant-arguments
invariant-arguments g l = record {
  same : g.V.View.world l.view ≡ g.V.View.world l.fn.view;
  total : l.total ≡ summary_of (flat_map listed (map (argument_cells (g.V.View.world l.fn.view)) (take l.argument-index l.args)));
  bounded : IsBounded l.total;
  least : l.fn.steps ≤ l.steps;
  most : l.steps + sizes (g.V.View.world l.fn.view) (drop l.argument-index l.args) ≤ l.fn.steps + sizes (g.V.View.world l.fn.view) l.args;
}
