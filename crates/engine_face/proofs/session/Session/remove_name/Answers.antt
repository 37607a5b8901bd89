use Rattle.std.proofs.Common.{subst, sym, ℕ, Option}
use Rattle.book_model.specs.Operation as op
use Rattle.book_engine.specs.Turns.{NoAnswer}
use Rattle.engine_face.specs.Session.{Asks}
use Rattle.engine_face.specs.declared.session.Session.{Session}
use Rattle.engine_face.specs.declared.status.Status.{Status}
use Rattle.engine_face.proofs.Changing.{asked}
use Rattle.engine_face.proofs.session.Session.remove_name.Goals as goal

pub returns : goal.returns
returns c =
    let new : Session = record { alloc = c.args.self.now.alloc; engine = c.remove_name.new.self } in
    let P : Status → Type 0 = Asks (op.remove_name c.args.name.now c.scope_of.result) c.args.self.now new in
    let Q : Option ℕ → Type 0 = λ scope. Asks (op.remove_name c.args.name.now scope) c.args.self.now new c.of.result in
    subst Q c.scope_of.ensures (subst P (sym c.of.ensures) (asked (op.remove_name c.args.name.now c.scope_of.result) NoAnswer c.args.self.now new c.remove_name.result c.remove_name.ensures.does))
