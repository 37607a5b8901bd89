use Rattle.std.proofs.Common.{rules, ◌≡◌, map, subst, Option, Some}
use Rattle.book_model.specs.Operation as op
use Rattle.engine_face.specs.Session.{Asks}
use Rattle.engine_face.specs.Status.{status_numbered}
use Rattle.engine_face.specs.Written.{written_cell}
use Rattle.engine_face.specs.declared.session.Session.{Session}
use Rattle.engine_face.specs.declared.status.Status.{Status}
use Rattle.engine_c.specs.Calls.{Over}
use Rattle.engine_c.proofs.cells.fz_write_all.Goals as goal

pub returns-clause-does : goal.returns-clause-does
returns-clause-does c = λ written.
    let Does : Session → Session → Status → Type 0 = Asks (op.write_all (map (written_cell c.args.texts.now) c.args.rows.now)) in
    let before : Some c.deref_mut.result.now ≡ c.args.book.now.handle.value = search rules in
    let behind : Some c.write_all-status.new.self ≡ c.put.new.self.handle.value = search rules in
    let status : c.write_all-status.result ≡ status_numbered c.number-2.result = search rules in
    subst (λ (held : Option Session). Over Does held c.put.new.self.handle.value (status_numbered c.number-2.result)) before
    (subst (λ (held : Option Session). Over Does (Some c.deref_mut.result.now) held (status_numbered c.number-2.result)) behind
    (subst (λ (told : Status). Over Does (Some c.deref_mut.result.now) (Some c.write_all-status.new.self) told) status (c.write_all-status.ensures.does written)))
