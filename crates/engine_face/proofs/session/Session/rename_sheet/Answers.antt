use Rattle.std.proofs.Common.{subst, sym}
use Rattle.book_model.specs.Operation as op
use Rattle.book_engine.specs.Turns.{NoAnswer}
use Rattle.engine_face.specs.Session.{Asks}
use Rattle.engine_face.specs.declared.status.Status.{Status}
use Rattle.engine_face.proofs.Changing.{asked}
use Rattle.engine_face.proofs.session.Session.rename_sheet.Goals as goal

pub returns : goal.returns
returns c = let P : Status → Type 0 = Asks (op.rename_sheet c.args.sheet c.args.name.now) c.args.self.now (record { alloc = c.args.self.now.alloc; engine = c.rename_sheet.new.self }) in subst P (sym c.of.ensures) (asked (op.rename_sheet c.args.sheet c.args.name.now) NoAnswer c.args.self.now (record { alloc = c.args.self.now.alloc; engine = c.rename_sheet.new.self }) c.rename_sheet.result c.rename_sheet.ensures.does)
