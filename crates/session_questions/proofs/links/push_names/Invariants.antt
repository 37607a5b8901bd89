use Rattle.std.proofs.Common.{◌≡◌, ◌++◌, map}
use Rattle.session_questions.specs.internal.Links.{shown_link}
use Rattle.session_questions.proofs.links.push_names.Given as goal

abbrev pub invariant-names : goal.invariant-names
invariant-names l = l.list.items ++ map shown_link l.name-iterator ≡ l.fn.list.items ++ map shown_link l.fn.names.keys
