use Rattle.std.proofs.Common.{subst}
use Rattle.std.proofs.lemmas.List.{take_all}
use Rattle.dep_graph.specs.internal.ShiftedNumbers.{AreUnfiled}
use Rattle.dep_graph.proofs.Refiling.{unfiled_first, unfiled_next}
use Rattle.dep_graph.proofs.refiled.unfiled.Goals as goal

pub numbers-init : goal.numbers-init
numbers-init c = unfiled_first c.new-filings.result c.new-filings.ensures.empty

pub numbers-preserved : goal.numbers-preserved
numbers-preserved c = unfiled_next c.args.numbers.now c.numbers.number-index 0 c.numbers.filings c.put_filings.new.filings c.numbers-test.true c.numbers.invariant c.in_ok-put_filings.ensures

pub returns : goal.returns
returns c = subst (λ l. AreUnfiled l c.numbers.filings) (take_all c.numbers.number-index c.args.numbers.now c.numbers-test.false) c.numbers.invariant
