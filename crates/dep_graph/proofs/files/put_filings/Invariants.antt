use Rattle.dep_graph.proofs.Put.{ArePut}
use Rattle.dep_graph.proofs.files.put_filings.Given as goal

-- the filings gone by were put
abbrev pub invariant-filings : goal.invariant-filings
invariant-filings l = ArePut l.filings l.fn.current l.current l.node-iterator
