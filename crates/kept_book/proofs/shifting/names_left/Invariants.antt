use Rattle.std.proofs.Common.{◌≡◌, Some, map, take}
use Rattle.kept_book.specs.Kept.{name_change}
use Rattle.kept_book.specs.internal.Dropped.{gone}
use Rattle.kept_book.proofs.shifting.names_left.Given as goal

abbrev pub invariant-loop-word : goal.invariant-loop-word
invariant-loop-word l = map name_change l.left.items ≡ map (gone (Some l.sheet)) (take l.word-index l.word-items)
