use Rattle.std.proofs.Common.{◌∙◌, ap, filter}
use Rattle.value_network.specs.Network.{cyclic}
use Rattle.book_values.specs.Values.{network}
use Rattle.book_values.specs.Workbook.{place}
use Rattle.session_operations.specs.Following.{book_of}
use Rattle.session_questions.proofs.cycles.on_cycle.Goals as goal

pub returns-clause-answered : goal.returns-clause-answered
returns-clause-answered c = λ customs today.
    (c.in_ok-places.ensures.0, c.in_ok-found.ensures.found customs today ∙ ap (filter (λ p. cyclic (network (book_of c.args.parts.now.session) customs today) (place p))) (c.deref.ensures.value ∙ c.in_ok-places.ensures.1))
