use Rattle.std.proofs.Common.{◌≡◌, ◌≢◌, inl, subst, sym, true}
use Rattle.std.specs.List.{AllPairs}
use Rattle.needs_order.specs.Needs as plain
use Rattle.node_reach.proofs.Putting.{once_from_distinct}
use Rattle.dep_graph.specs.internal.Touches.{AreInside, FindsTouched}
use Rattle.dep_graph.proofs.Growing.{grown_length, more_found}
use Rattle.dep_graph.proofs.Untouched.{finds_grown, inside_grown}
use Rattle.dep_graph.proofs.net.Net.aims.Goals as goal

pub targets-requires-clause-found : goal.targets-requires-clause-found
targets-requires-clause-found c = subst (FindsTouched c.args.s.now c.args.self.now.nodes) (sym c.as_slice.ensures.keys) c.in_ok-found.ensures.found

pub targets-requires-clause-inside : goal.targets-requires-clause-inside
targets-requires-clause-inside c = subst (AreInside c.args.self.now.nodes) (sym c.as_slice.ensures.keys) c.in_ok-found.ensures.inside

pub targets-requires-clause-once : goal.targets-requires-clause-once
targets-requires-clause-once c = subst (AllPairs (λ a b. a ≢ b)) (sym c.as_slice.ensures.keys) (once_from_distinct c.in_ok-found.found.keys c.as_slice.ensures.unique)

pub returns-clause-among : goal.returns-clause-among
returns-clause-among c = λ n h. (c.in_ok-add_between.ensures n).1 (inl (subst (λ l. plain.has n l ≡ true) c.as_slice.ensures.keys (c.in_ok-few.ensures.among n h)))

pub returns-clause-found : goal.returns-clause-found
returns-clause-found c =
    let old = c.args.self.now in
    let grown = c.targets.new.self in
    finds_grown c.args.s.now old.nodes grown.nodes c.len-count.result c.len.result c.in_ok-found.found.keys c.add_between.new.numbers.keys
    (λ n low. more_found old.nodes grown.nodes n c.targets.ensures.grown.keys c.targets.ensures.grown.lines low) c.len-count.ensures c.len.ensures c.in_ok-add_between.ensures c.in_ok-found.ensures.found

pub returns-clause-inside : goal.returns-clause-inside
returns-clause-inside c =
    let grown = c.targets.new.self in
    inside_grown c.args.self.now.nodes grown.nodes c.len-count.result c.len.result c.in_ok-found.found.keys c.add_between.new.numbers.keys (grown_length c.args.self.now grown c.targets.ensures.grown) c.len.ensures c.in_ok-add_between.ensures c.in_ok-found.ensures.inside
