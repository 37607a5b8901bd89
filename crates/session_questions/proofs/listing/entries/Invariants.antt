use Rattle.std.proofs.Common.{◌≡◌, ◌++◌, map}
use Rattle.session_questions.specs.internal.Listing.{entry_shown}
use Rattle.session_questions.proofs.listing.entries.Given as goal

abbrev pub invariant-names : goal.invariant-names
invariant-names l = l.list.items ++ map entry_shown l.name-iterator ≡ map entry_shown l.fn.names.keys
