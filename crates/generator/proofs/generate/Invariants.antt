-- The commands of the numbers so far.
use Rattle.std.proofs.Common.{◌≡◌, ◌++◌}
use Rattle.generator.specs.Generated.{edit_commands, for_each, row_commands}
use Rattle.generator.proofs.generate.Given as goal

abbrev pub invariant-rows : goal.invariant-rows
invariant-rows l = l.commands.items ≡ for_each row_commands l.i

abbrev pub invariant-edits : goal.invariant-edits
invariant-edits l = l.commands.items ≡ for_each row_commands l.n ++ for_each (edit_commands l.n) l.j
