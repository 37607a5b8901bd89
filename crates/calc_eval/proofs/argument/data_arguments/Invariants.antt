use Rattle.std.proofs.Common.{◌≡◌, ◌++◌, drop}
use Rattle.calc_terms.specs.References.{data_arguments}
use Rattle.calc_terms.specs.Words.{takes_block}
use Rattle.calc_eval.proofs.argument.data_arguments.Given as goal

abbrev pub invariant-arguments : goal.invariant-arguments
invariant-arguments g l =
    l.taken.items ++ data_arguments (g.V.View.world l.view) (takes_block l.f) l.place (drop l.place l.args) ≡ data_arguments (g.V.View.world l.view) (takes_block l.f) 0 l.args
