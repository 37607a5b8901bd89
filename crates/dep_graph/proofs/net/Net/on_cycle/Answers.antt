use Rattle.dep_graph.specs.internal.Keys.{key_of}
use Rattle.dep_graph.proofs.Listing.{none_number, some_number}
use Rattle.dep_graph.proofs.Ordering.{cycle_of, no_cycle}
use Rattle.dep_graph.proofs.net.Net.on_cycle.Goals as goal

pub returns-in_ok-walk-in-Some : goal.returns-in_ok-walk-in-Some
returns-in_ok-walk-in-Some c =
    let (at, inside) = some_number c.args.self.now.nodes.keys.keys (key_of c.args.self.now.nodes.lines c.args.a) c.in-Some.number c.in-Some.ensures in
    cycle_of c.args.self.now c.args.a c.in-Some.number c.in_ok-walk-in-Some.walk.nodes.items c.in_ok-walk-in-Some.walk.on_cycle.items c.flag_of.result at inside c.in_ok-walk-in-Some.ensures.reached c.in_ok-walk-in-Some.ensures.cycles c.flag_of.ensures

pub returns-in-None : goal.returns-in-None
returns-in-None c = no_cycle c.args.self.now c.args.a (none_number c.args.self.now.nodes.keys.keys (key_of c.args.self.now.nodes.lines c.args.a) c.in-None.ensures)
