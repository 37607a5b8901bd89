use Rattle.std.proofs.Common.{subst, sym}
use Rattle.shift_core.specs.declared.shift.Shift.TheVariants as shifts
use Rattle.book_model.specs.Operation as op
use Rattle.book_engine.specs.Turns.{NoAnswer}
use Rattle.engine_face.specs.Session.{Asks}
use Rattle.engine_face.specs.declared.status.Status.{Status}
use Rattle.engine_face.proofs.Changing.{asked}
use Rattle.engine_face.proofs.session.Session.delete_rows.Goals as goal

pub returns : goal.returns
returns c = let P : Status → Type 0 = Asks (op.structural (shifts.DeleteRows c.args.sheet c.args.at c.args.count)) c.args.self.now (record { alloc = c.args.self.now.alloc; engine = c.delete_rows.new.self }) in subst P (sym c.of.ensures) (asked (op.structural (shifts.DeleteRows c.args.sheet c.args.at c.args.count)) NoAnswer c.args.self.now (record { alloc = c.args.self.now.alloc; engine = c.delete_rows.new.self }) c.delete_rows.result c.delete_rows.ensures.does)
