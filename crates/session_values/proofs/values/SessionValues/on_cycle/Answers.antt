use Rattle.std.proofs.Common.{subst, Option}
use Rattle.value_network.specs.Network.{cyclic}
use Rattle.book_values.specs.Values.{network}
use Rattle.book_values.specs.Workbook.{place}
use Rattle.dep_graph.proofs.Listing.{if_ok}
use Rattle.kept_values.specs.Values.{links_in}
use Rattle.kept_values.specs.declared.values.Values.{Values}
use Rattle.session_values.specs.Following.{book_of, words_in}
use Rattle.session_values.specs.internal.Linked.{AreLinkedIn}
use Rattle.session_values.proofs.CyclicPlaces.{cycles_tell}
use Rattle.session_values.proofs.values.SessionValues.on_cycle.Goals as goal

pub returns-in-Some-clause-found : goal.returns-in-Some-clause-found
returns-in-Some-clause-found c =
    let b = book_of c.args.session.now in
    let words = words_in c.args.session.now in
    let linked = subst (λ (o : Option Values). AreLinkedIn b words o) c.in-Some.is c.in_ok-link.ensures.linked in
    if_ok c.on_cycle.result _ _ c.on_cycle.ensures
    (λ found is customs today. is (λ p. cyclic (network b customs today) (place p)) (cycles_tell b words (links_in c.in-Some.values) customs today c.names_are_nodes.ensures linked))
