-- The line so far and the bytes that are left make the whole line.
use Rattle.std.proofs.Common.{◌≡◌, ◌++◌, drop}
use Rattle.script_lang.specs.Lines.{escaped}
use Rattle.script_lang.proofs.printed.line.Given as goal

abbrev pub invariant-bytes : goal.invariant-bytes
invariant-bytes l = l.line.items ++ escaped (drop l.byte-index l.byte-items) ≡ escaped l.byte-items
