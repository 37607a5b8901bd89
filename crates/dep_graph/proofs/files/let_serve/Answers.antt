use Rattle.std.proofs.Common.{subst}
use Rattle.dep_graph.proofs.Put.{AreLetServe, serve_first, serve_last, serve_next}
use Rattle.dep_graph.proofs.files.let_serve.Goals as goal

pub filings-init : goal.filings-init
filings-init c = serve_first c.args.filings.now c.args.serves.now c.into_iter-filing-iterator.result c.into_iter-filing-iterator.ensures.into_iter_gives.0 c.into_iter-filing-iterator.ensures.into_iter_gives.6

pub filings-preserved : goal.filings-preserved
filings-preserved c =
    serve_next c.args.filings.now c.args.serves.now c.filings.serves c.let_last_serve.new.serves (c.in-Some.field-0-0.now, c.in-Some.filing.now) c.next.new.self
    (subst (λ r. AreLetServe c.args.filings.now c.args.serves.now c.filings.serves r) c.in-Some.ensures.steps c.filings.invariant) c.let_last_serve.ensures.count c.let_last_serve.ensures.serves

pub returns : goal.returns
returns c = serve_last c.args.filings.now c.args.serves.now c.filings.serves (subst (λ r. AreLetServe c.args.filings.now c.args.serves.now c.filings.serves r) c.in-None.ensures.steps.0 c.filings.invariant)
