use Rattle.std.proofs.Common.{take}
use Rattle.range_table.specs.internal.Kept.{Grows}
use Rattle.range_table.specs.internal.Shifting.{AreChanges}
use Rattle.range_table.proofs.kept.KeptSummaries.changes.Given as goal

-- the numbers gone by are done
abbrev pub invariant-numbers : goal.invariant-numbers
invariant-numbers l = record {
  grown : Grows l.fn.self l.self;
  changes : AreChanges l.fn.s l.fn.lines l.self (take l.number-index l.found) l.changes;
}
