use Rattle.std.proofs.Common.{◌≡◌, map, drop}
use Rattle.func_logic.specs.Tally.{no_truths, of_argument, together}
use Rattle.func_logic.proofs.tally.together.Given as goal

abbrev pub invariant-arguments : goal.invariant-arguments
invariant-arguments l = together l.total (map of_argument (drop l.argument-index l.args)) ≡ together no_truths (map of_argument l.args)
