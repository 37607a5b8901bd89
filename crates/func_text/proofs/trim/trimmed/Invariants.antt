use Rattle.std.proofs.Common.{◌≡◌, ◌++◌, drop}
use Rattle.func_text.specs.Trim.{trimmed}
use Rattle.func_text.specs.internal.Trim.{kept_after}
use Rattle.func_text.proofs.trim.trimmed.Given as goal

abbrev pub invariant-characters : goal.invariant-characters
invariant-characters l = l.kept.items ++ kept_after l.reached (drop l.c-index l.found) ≡ trimmed l.found
