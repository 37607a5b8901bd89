use Rattle.std.proofs.Common.{◌≡◌, drop}
use Rattle.std.specs.FinMap as fin
use Rattle.std.specs.List.{filter_map}
use Rattle.formula_tree.specs.Links.{once, once_after, same_link}
use Rattle.book_model.specs.Answers.{link_of}
use Rattle.session_operations.specs.Seen.{state_of}
use Rattle.session_questions.proofs.links.links_of.Given as goal

abbrev pub invariant-mentions : goal.invariant-mentions
invariant-mentions l =
    let links = filter_map (link_of (fin.entries (state_of l.parts).book.names) l.sheet) in
    once_after same_link l.list.items (links (drop l.mention-index l.mentions)) ≡ once same_link (links l.mentions)
