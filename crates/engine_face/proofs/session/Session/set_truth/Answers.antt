use Rattle.std.proofs.Common.{subst, sym}
use Rattle.cell_value.specs.Scalar.{truth_text}
use Rattle.book_model.specs.Operation as op
use Rattle.book_engine.specs.Turns.{NoAnswer}
use Rattle.engine_face.specs.Session.{Asks}
use Rattle.engine_face.specs.declared.session.Session.{Session}
use Rattle.engine_face.specs.declared.status.Status.{Status}
use Rattle.engine_face.proofs.Changing.{asked}
use Rattle.engine_face.proofs.session.Session.set_truth.Goals as goal

pub returns : goal.returns
returns c =
    let o = op.set c.args.at (truth_text c.args.truth) in
    let new : Session = record { alloc = c.args.self.now.alloc; engine = c.set_truth.new.self } in
    let P : Status → Type 0 = Asks o c.args.self.now new in
    subst P (sym c.of.ensures) (asked o NoAnswer c.args.self.now new c.set_truth.result c.set_truth.ensures.does)
