use Rattle.std.proofs.Common.{refl, subst}
use Rattle.std.proofs.lemmas.List.{take_all}
use Rattle.dep_graph.specs.internal.Walked.{AreKnown, AreUnknown}
use Rattle.dep_graph.proofs.Listing.{known_next, unknown_next}
use Rattle.dep_graph.proofs.net.Net.split.Goals as goal

pub nodes-preserved : goal.nodes-preserved
nodes-preserved c = record {
  unknown = unknown_next c.args.self.now c.args.nodes.now c.nodes.node-index _ c.nodes-test.true c.nodes.split.unknown.keys c.put.new.split.unknown.keys _ refl
      c.nodes.invariant.unknown c.in_ok-put.ensures.unknown c.put.new.split.once;
  known = known_next c.args.self.now c.args.nodes.now c.nodes.node-index _ c.nodes-test.true c.nodes.split.known.keys c.put.new.split.known.keys _ refl
      c.nodes.invariant.known c.in_ok-put.ensures.known;
}

pub returns-clause-unknown : goal.returns-clause-unknown
returns-clause-unknown c = subst (λ l. AreUnknown c.args.self.now l c.nodes.split.unknown.keys) (take_all c.nodes.node-index c.args.nodes.now c.nodes-test.false) c.nodes.invariant.unknown

pub returns-clause-known : goal.returns-clause-known
returns-clause-known c = subst (λ l. AreKnown c.args.self.now l c.nodes.split.known.keys) (take_all c.nodes.node-index c.args.nodes.now c.nodes-test.false) c.nodes.invariant.known
