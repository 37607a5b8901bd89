use Rattle.std.proofs.Common.{◌≡◌, ◌++◌}
use Rattle.kept_book.proofs.exchange.listed.Given as goal

abbrev pub invariant-loop-at : goal.invariant-loop-at
invariant-loop-at l = l.list.items ++ l.at-iterator ≡ l.fn.places.keys
