use Rattle.std.proofs.Common.{subst, sym}
use Rattle.book_model.specs.Operation as op
use Rattle.book_engine.specs.Turns.{NoAnswer}
use Rattle.engine_face.specs.Session.{Asks}
use Rattle.engine_face.specs.declared.status.Status.{Status}
use Rattle.engine_face.proofs.Changing.{asked}
use Rattle.engine_face.proofs.session.Session.cut.Goals as goal

pub returns : goal.returns
returns c = let P : Status → Type 0 = Asks (op.cut c.args.area) c.args.self.now (record { alloc = c.args.self.now.alloc; engine = c.cut.new.self }) in subst P (sym c.of.ensures) (asked (op.cut c.args.area) NoAnswer c.args.self.now (record { alloc = c.args.self.now.alloc; engine = c.cut.new.self }) c.cut.result c.cut.ensures.does)
