use Rattle.std.proofs.Common.{rules}
use Rattle.std.specs.Vec.{vec_len}
use Rattle.needs_order.proofs.Visits.{lowers_last}
use Rattle.needs_order.proofs.search.lower_last.Goals as goal

pub returns-in-Some : goal.returns-in-Some
returns-in-Some c = λ front last is. lowers_last c.args.visits.now.items front last c.in-Some.visit.now (vec_len c.args.visits.now) c.args.low c.min-visit.result is (search rules) (search rules) c.min-visit.ensures
