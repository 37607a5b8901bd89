use Rattle.lazy_store.proofs.pending.between.Goals as goal

pub returns-in-Some-clause-run : goal.returns-in-Some-clause-run
returns-in-Some-clause-run c = c.in-Some.ensures.run c.args.line.now c.args.to c.requires

pub returns-in-Some-clause-within : goal.returns-in-Some-clause-within
returns-in-Some-clause-within c = c.in-Some.ensures.within c.args.line.now c.args.to c.requires
