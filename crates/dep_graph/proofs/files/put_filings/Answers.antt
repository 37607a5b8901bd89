use Rattle.std.proofs.Common.{subst}
use Rattle.dep_graph.proofs.Put.{ArePut, put_first, put_inside, put_last, put_next}
use Rattle.dep_graph.proofs.files.put_filings.Goals as goal

pub filings-init : goal.filings-init
filings-init c = put_first c.args.filings.now c.args.current.now c.into_iter-node-iterator.result c.into_iter-node-iterator.ensures.into_iter_gives.0 c.into_iter-node-iterator.ensures.into_iter_gives.6

pub put_filing-requires : goal.put_filing-requires
put_filing-requires c =
    put_inside c.args.filings.now c.args.current.now c.filings.current (c.in-Some.node.now, c.in-Some.filing.now) c.next.new.self
    (subst (λ r. ArePut c.args.filings.now c.args.current.now c.filings.current r) c.in-Some.ensures.steps c.filings.invariant) c.requires

pub filings-preserved : goal.filings-preserved
filings-preserved c =
    put_next c.args.filings.now c.args.current.now c.filings.current c.put_filing.new.current (c.in-Some.node.now, c.in-Some.filing.now) c.next.new.self
    (subst (λ r. ArePut c.args.filings.now c.args.current.now c.filings.current r) c.in-Some.ensures.steps c.filings.invariant) c.put_filing.ensures.count c.put_filing.ensures.kept

pub returns-clause-kept : goal.returns-clause-kept
returns-clause-kept c = put_last c.args.filings.now c.args.current.now c.filings.current (subst (λ r. ArePut c.args.filings.now c.args.current.now c.filings.current r) c.in-None.ensures.steps.0 c.filings.invariant)
