use Rattle.std.proofs.Common.{rules, ◌≡◌, subst, ℕ, List, Option, Some}
use Rattle.engine_face.specs.Areas.{SaysWrong}
use Rattle.engine_face.specs.Session.{Tells}
use Rattle.engine_face.specs.Status.{status_numbered}
use Rattle.engine_face.specs.declared.session.Session.{Session}
use Rattle.engine_face.specs.declared.status.Status.{Status}
use Rattle.engine_c.specs.Calls.{Over}
use Rattle.engine_c.proofs.listing.fz_parse_error.Goals as goal

pub returns-clause-told : goal.returns-clause-told
returns-clause-told c = λ utf8.
    let Says : List ℕ → Session → Session → Status → Type 0 = λ text old new status. Tells (λ d. SaysWrong text) c.args.part.now c.parse_error-status.new.part old status in
    let text : c.in-Ok.text.now ≡ c.args.text.now = search rules in
    let before : Some c.deref.result.now ≡ c.args.book.now.handle.value = search rules in
    let behind : Some c.deref.result.now ≡ c.put.new.self.handle.value = search rules in
    let status : c.parse_error-status.result ≡ status_numbered c.number-2.result = search rules in
    subst (λ (held : Option Session). Over (Says c.args.text.now) held c.put.new.self.handle.value (status_numbered c.number-2.result)) before
    (subst (λ (held : Option Session). Over (Says c.args.text.now) (Some c.deref.result.now) held (status_numbered c.number-2.result)) behind
    (subst (λ (told : Status). Over (Says c.args.text.now) (Some c.deref.result.now) (Some c.deref.result.now) told) status
    (subst (λ (read : List ℕ). Says read c.deref.result.now c.deref.result.now c.parse_error-status.result) text c.parse_error-status.ensures.told)))
