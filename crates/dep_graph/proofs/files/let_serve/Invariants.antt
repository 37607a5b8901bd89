use Rattle.dep_graph.proofs.Put.{AreLetServe}
use Rattle.dep_graph.proofs.files.let_serve.Given as goal

-- the last filings of the nodes gone by may serve
abbrev pub invariant-filings : goal.invariant-filings
invariant-filings l = AreLetServe l.filings l.fn.serves l.serves l.filing-iterator
