use Rattle.std.proofs.Common.{subst, sym, ℕ, Option}
use Rattle.book_model.specs.Operation as op
use Rattle.book_engine.specs.Turns.{NoAnswer}
use Rattle.engine_face.specs.Session.{Asks}
use Rattle.engine_face.specs.declared.session.Session.{Session}
use Rattle.engine_face.specs.declared.status.Status.{Status}
use Rattle.engine_face.proofs.Changing.{asked}
use Rattle.engine_face.proofs.session.Session.add_name.Goals as goal

pub returns : goal.returns
returns c =
    let new : Session = record { alloc = c.args.self.now.alloc; engine = c.add_name.new.self } in
    let P : Status → Type 0 = Asks (op.add_name c.args.name.now c.scope_of.result c.args.text.now) c.args.self.now new in
    let Q : Option ℕ → Type 0 = λ scope. Asks (op.add_name c.args.name.now scope c.args.text.now) c.args.self.now new c.of.result in
    subst Q c.scope_of.ensures (subst P (sym c.of.ensures) (asked (op.add_name c.args.name.now c.scope_of.result c.args.text.now) NoAnswer c.args.self.now new c.add_name.result c.add_name.ensures.does))
