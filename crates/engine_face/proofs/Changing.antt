-- What a session's call is by what the engine's was. Serves the calls that change a session.
use Rattle.std.specs.Prelude.{◌≡◌, Option, None, Some, Result, Ok, Err}
use Rattle.book_model.specs.Operation.{Operation}
use Rattle.book_model.specs.Session.{done, next, unless_refused}
use Rattle.book_model.specs.Workbook.{State}
use Rattle.book_model.specs.declared.refusal.Refusal.{Refusal}
use Rattle.book_engine.specs.Engine.{Does}
use Rattle.book_engine.specs.Stop.{Stop}
use Rattle.book_engine.specs.Stop.TheVariants as stop
use Rattle.rule_table.specs.Rules.{rules_of}
use Rattle.engine_face.specs.Session.{Asks, Told}
use Rattle.engine_face.specs.Shown.{EndTold}
use Rattle.engine_face.specs.Status.{status_of_end}
use Rattle.engine_face.specs.declared.session.Session.{Session}
use Rattle.std.proofs.Common.{◌∙◌, ap, refl, subst}
use Rattle.book_model.specs.Refusals.{cause}

pub asked : {X : Type 0} (o : Operation) (Answers : State → X → Type 0) (old new : Session) (end : Result X Stop) → Does rules_of o Answers old.engine new.engine end → Asks o old new (status_of_end end)
asked o Answers old new (Ok answer) h = λ d stands. ((h d stands).0, (h d stands).2)
asked o Answers old new (Err (stop.Refused r)) h = h
asked o Answers old new (Err stop.NoMemory) h = h

pub told_end : {X Y : Type 0} (o : Operation) (answer : State → X) (seen : X → Y) (old new : Session) (had now : Y) (end : Result X Stop)
    → Does rules_of o (λ d x. x ≡ answer d) old.engine new.engine end → EndTold seen end had now → Told (λ d. seen (answer d)) had now old (status_of_end end)
told_end o answer seen old new had now (Ok x) h t = λ d stands. t ∙ ap seen (h d stands).1
told_end o answer seen old new had now (Err (stop.Refused r)) h t = t
told_end o answer seen old new had now (Err stop.NoMemory) h t = t

unchanged : (refusal : Option Refusal) (d : State) → unless_refused refusal d d ≡ d
unchanged None d = refl
unchanged (Some r) d = refl

-- an operation that changes nothing where it is accepted leaves the session
pub asked_still : (o : Operation) (d : State) (P : State → Type 0) → done o d ≡ d → P (next o d) → P d
asked_still o d P same h = subst P (ap (λ (e : State). unless_refused (cause o d) e d) same ∙ unchanged (cause o d) d) h
