use Rattle.std.proofs.Common.{◌≡◌, string_bytes}
use Rattle.std.specs.List.{repeat}
use Rattle.func_text.proofs.join.repeated.Given as goal

abbrev pub invariant-times : goal.invariant-times
invariant-times l = string_bytes l.made ≡ repeat l.counter l.text
