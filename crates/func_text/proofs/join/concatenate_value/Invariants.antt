use Rattle.std.proofs.Common.{◌≡◌, drop, string_bytes}
use Rattle.func_text.specs.Join.{joined}
use Rattle.func_text.proofs.Joining.{with_rest}
use Rattle.func_text.proofs.join.concatenate_value.Given as goal

abbrev pub invariant-arguments : goal.invariant-arguments
invariant-arguments l = with_rest (string_bytes l.joined) (joined (drop l.argument-index l.args)) ≡ joined l.args
