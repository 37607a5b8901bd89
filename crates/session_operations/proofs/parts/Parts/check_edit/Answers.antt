use Rattle.std.proofs.Common.{sym, subst}
use Rattle.cell_addr.specs.Axis.{limit_of}
use Rattle.shift_core.specs.declared.edit.Edit.TheVariants.{Delete, Move}
use Rattle.shift_core.specs.declared.form.Form.TheVariants.{Lines}
use Rattle.book_model.specs.Refusals.{first_cause, of_edit}
use Rattle.session_operations.specs.Seen.{state_of}
use Rattle.session_operations.specs.Turns.{IsCause}
use Rattle.session_operations.proofs.parts.Parts.check_edit.Goals as goal

pub returns-in-Delete : goal.returns-in-Delete
returns-in-Delete c =
    subst (λ e. IsCause c.check_delete.result (first_cause (of_edit (state_of c.args.self.now) (Lines c.args.sheet c.args.axis e) e (limit_of c.args.axis)))) (sym c.in-Delete.is)
    (c.check_delete.ensures (state_of c.args.self.now) (Lines c.args.sheet c.args.axis (Delete c.in-Delete.at c.in-Delete.count)))

pub returns-in-Move : goal.returns-in-Move
returns-in-Move c =
    subst (λ e. IsCause c.check_move.result (first_cause (of_edit (state_of c.args.self.now) (Lines c.args.sheet c.args.axis e) e (limit_of c.args.axis)))) (sym c.in-Move.is)
    (c.check_move.ensures (state_of c.args.self.now) (Lines c.args.sheet c.args.axis (Move c.in-Move.from c.in-Move.count c.in-Move.before)))
