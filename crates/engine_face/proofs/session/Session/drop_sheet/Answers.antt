use Rattle.std.proofs.Common.{subst, sym}
use Rattle.shift_core.specs.declared.shift.Shift.TheVariants as shifts
use Rattle.book_model.specs.Operation as op
use Rattle.book_engine.specs.Turns.{NoAnswer}
use Rattle.engine_face.specs.Session.{Asks}
use Rattle.engine_face.specs.declared.status.Status.{Status}
use Rattle.engine_face.proofs.Changing.{asked}
use Rattle.engine_face.proofs.session.Session.drop_sheet.Goals as goal

pub returns : goal.returns
returns c = let P : Status → Type 0 = Asks (op.structural (shifts.DropSheet c.args.sheet)) c.args.self.now (record { alloc = c.args.self.now.alloc; engine = c.drop_sheet.new.self }) in subst P (sym c.of.ensures) (asked (op.structural (shifts.DropSheet c.args.sheet)) NoAnswer c.args.self.now (record { alloc = c.args.self.now.alloc; engine = c.drop_sheet.new.self }) c.drop_sheet.result c.drop_sheet.ensures.does)
