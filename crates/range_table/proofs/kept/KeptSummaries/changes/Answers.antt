use Rattle.std.proofs.Common.{subst, sym}
use Rattle.std.proofs.lemmas.List.{take_all, take_more}
use Rattle.range_table.specs.internal.Shifting.{AreChanges}
use Rattle.range_table.proofs.Growing.{both_on, same_both}
use Rattle.range_table.proofs.Taking.{no_changes}
use Rattle.range_table.proofs.kept.KeptSummaries.changes.Goals as goal

pub numbers-init : goal.numbers-init
numbers-init c = record {
  grown = same_both c.args.self.now;
  changes = no_changes c.args.s.now c.args.lines.now c.args.self.now c.new-changes.result c.new-changes.ensures.left c.new-changes.ensures.arrived;
}

pub numbers-preserved : goal.numbers-preserved
numbers-preserved c = record {
  grown = both_on c.args.self.now c.numbers.self c.change_one.new.self c.numbers.invariant.grown c.change_one.ensures.grown;
  changes = subst (λ l. AreChanges c.args.s.now c.args.lines.now c.change_one.new.self l c.change_one.new.changes) (sym (take_more c.args.found.now c.numbers.number-index 0 c.numbers-test.true)) (c.in_ok-change_one.ensures.changed _ c.numbers.invariant.changes);
}

pub returns-in_err-change_one-clause-grown : goal.returns-in_err-change_one-clause-grown
returns-in_err-change_one-clause-grown c = both_on c.args.self.now c.numbers.self c.change_one.new.self c.numbers.invariant.grown c.change_one.ensures.grown

pub returns-clause-grown : goal.returns-clause-grown
returns-clause-grown c = c.numbers.invariant.grown

pub returns-clause-changes : goal.returns-clause-changes
returns-clause-changes c =
    subst (λ l. AreChanges c.args.s.now c.args.lines.now c.numbers.self l c.numbers.changes) (take_all c.numbers.number-index c.args.found.now c.numbers-test.false) c.numbers.invariant.changes
