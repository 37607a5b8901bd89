use Rattle.std.proofs.Common.{subst}
use Rattle.std.proofs.lemmas.Result.{on_ok_weaker}
use Rattle.range_table.specs.internal.Shifting.{IsFate}
use Rattle.range_table.proofs.Growing.{under_more}
use Rattle.range_table.proofs.Taking.{changes_still, leave_ends, leave_moves, stays_done}
use Rattle.range_table.proofs.kept.KeptSummaries.change_block.Goals as goal

pub take-requires : goal.take-requires
take-requires c = (subst (IsFate c.args.s.now c.args.block) c.in-Moves.is c.fate_of.ensures).1

pub returns-in-Stays-clause-changed : goal.returns-in-Stays-clause-changed
returns-in-Stays-clause-changed c = λ gone are.
    stays_done c.args.s.now c.args.lines.now c.args.self.now c.args.number c.args.block c.requires.under c.args.changes.now gone (subst (IsFate c.args.s.now c.args.block) c.in-Stays.is c.fate_of.ensures) are

pub returns-in-Ends-clause-changed : goal.returns-in-Ends-clause-changed
returns-in-Ends-clause-changed c = on_ok_weaker c.leave-in-Ends.result (λ left gone are.
    leave_ends c.args.s.now c.args.lines.now c.args.self.now c.args.number c.args.block c.requires.under c.args.changes.now c.leave-in-Ends.new.self gone c.leave-in-Ends.ensures.arrived
    (subst (IsFate c.args.s.now c.args.block) c.in-Ends.is c.fate_of.ensures) left are) c.leave-in-Ends.ensures.left

pub returns-in_ok-take-in-Moves-clause-changed : goal.returns-in_ok-take-in-Moves-clause-changed
returns-in_ok-take-in-Moves-clause-changed c = on_ok_weaker c.leave.result (λ left gone are.
    let fate = subst (IsFate c.args.s.now c.args.block) c.in-Moves.is c.fate_of.ensures in
    let old = c.args.self.now in
    let new = c.take.new.self in
    leave_moves c.args.s.now c.args.lines.now new c.args.number c.args.block (under_more old.table new.table c.args.number c.args.block c.take.ensures.grown.table c.requires.under)
    c.args.changes.now c.take.new.changes c.leave.new.self c.in-Moves.after gone fate.0 fate.1 c.in_ok-take-in-Moves.ensures.taken c.take.ensures.left c.leave.ensures.arrived left
    (changes_still c.args.s.now c.args.lines.now old new c.take.ensures.grown c.args.changes.now gone are)) c.leave.ensures.left
