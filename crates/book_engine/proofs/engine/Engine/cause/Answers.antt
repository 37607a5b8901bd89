use Rattle.std.proofs.Common.{◌∙◌, sym, ap, subst, Option}
use Rattle.std.specs.Prelude.{⊤}
use Rattle.book_model.specs.Refusals.{cause}
use Rattle.book_model.specs.declared.refusal.Refusal.{Refusal}
use Rattle.session_questions.specs.Turns.{Answered}
use Rattle.book_engine.specs.Cause.{operation_of}
use Rattle.book_engine.specs.Engine.{StandsFor}
use Rattle.session_questions.specs.Seen.{clip_of, state_of, with_clipboard}
use Rattle.session_questions.proofs.Causes.{cause_rules}
use Rattle.book_engine.proofs.engine.Engine.cause.Goals as goal

pub returns : goal.returns
unfolding StandsFor
returns g c = λ d same.
    let e = c.args.self.now in
    let o = operation_of c.args.change.now in
    let stood = with_clipboard (clip_of e.waiting.clip) (state_of e.parts) in
    c.why.ensures (cause o d) (subst (λ (r : Option Refusal). Answered r (λ x. ⊤) c.check.result) (sym (cause_rules (g.C.Customs.customs e.customs) e.day o stood) ∙ ap (cause o) same) c.check.ensures)
