use Rattle.std.proofs.Common.{subst, Option}
use Rattle.dep_graph.proofs.Listing.{if_ok}
use Rattle.dep_graph.specs.Nodes.{items_of}
use Rattle.kept_values.specs.Values.{links_in}
use Rattle.kept_values.specs.declared.values.Values.{Values}
use Rattle.session_values.specs.Following.{book_of, words_in}
use Rattle.session_values.specs.internal.Linked.{AreLinkedIn}
use Rattle.session_values.proofs.MentionedPlaces.{users_mention}
use Rattle.session_values.proofs.values.SessionValues.users.Goals as goal

pub returns-in-Some-clause-users : goal.returns-in-Some-clause-users
returns-in-Some-clause-users c =
    let b = book_of c.args.session.now in
    let words = words_in c.args.session.now in
    let linked = subst (λ (o : Option Values). AreLinkedIn b words o) c.in-Some.is c.in_ok-link.ensures.linked in
    if_ok c.users.result _ _ c.users.ensures (λ nodes users. users_mention b words c.args.at (links_in c.in-Some.values) (items_of nodes) linked users)
