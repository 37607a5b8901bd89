use Rattle.std.proofs.Common.{◌≡◌, drop, map}
use Rattle.name_table.specs.Listed.{listed}
use Rattle.name_table.specs.Named.{names_of, words_of}
use Rattle.kept_book.specs.Change.{names_with}
use Rattle.kept_book.specs.Kept.{name_change}
use Rattle.kept_book.proofs.shifting.leave_names.Given as goal

abbrev pub invariant-loop-index : goal.invariant-loop-index
invariant-loop-index l =
    (names_of l.names ≡ names_with (λ x. x.1) (map name_change (drop l.index l.left)) (names_of l.fn.names))
    × (words_of l.names ≡ words_of l.fn.names) × (listed l.names ≡ listed l.fn.names)
