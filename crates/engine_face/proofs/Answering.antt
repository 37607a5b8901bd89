-- What a question's call is by what the engine answered and what was written. Serves the questions of a session.
use Rattle.std.proofs.Common.{◌≡◌, ◌∙◌, sym, ap, subst, ℕ, List}
use Rattle.std.specs.Prelude.{Result, Ok, Err}
use Rattle.book_model.specs.Operation.{Operation}
use Rattle.book_model.specs.Workbook.{State}
use Rattle.book_engine.specs.Engine.{Does}
use Rattle.book_engine.specs.Stop.{Stop}
use Rattle.book_engine.specs.Stop.TheVariants as stop
use Rattle.rule_table.specs.Rules.{rules_of}
use Rattle.engine_face.specs.Session.{AsksFor, Told, Wrote}
use Rattle.engine_face.specs.Shown.{EndFits, EndTold, filled, fits}
use Rattle.engine_face.specs.declared.session.Session.{Session}
use Rattle.engine_face.specs.declared.status.Status.{Status}
use Rattle.engine_face.proofs.Ends.{fits_ends}

-- what the engine answered is what the session of the plain machine has there
module _ {X : Type 0} (op : Operation) (text : X → List ℕ) (answer : State → X) (old new : Session) (room written : List ℕ) where
  abbrev Answers : Result X Stop → Type 0
  Answers end = Does rules_of op (λ d x. x ≡ answer d) old.engine new.engine end

  pub asked_for : (end : Result X Stop) (status : Status) → Answers end → EndFits text end room written status → AsksFor op (λ d. fits (text (answer d)) room) old new status
  asked_for (Ok x) status h f = fits_ends (AsksFor op (λ d. fits (text (answer d)) room) old new) (text x) room written (λ g d stands. let a = h d stands in (a.0, ap (λ (y : X). fits (text y) room) (sym a.1) ∙ g.0, a.2)) (λ g d stands. let a = h d stands in (a.0, ap (λ (y : X). fits (text y) room) (sym a.1) ∙ g.0, a.2)) status f
  asked_for (Err (stop.Refused r)) status h f = let P : Status → Type 0 = AsksFor op (λ d. fits (text (answer d)) room) old new in subst P (sym f.0) h
  asked_for (Err stop.NoMemory) status h f = let P : Status → Type 0 = AsksFor op (λ d. fits (text (answer d)) room) old new in subst P (sym f.0) h

  pub wrote : (end : Result X Stop) (status : Status) → Answers end → EndFits text end room written status → Wrote (λ d. text (answer d)) room written old status
  wrote (Ok x) status h f = fits_ends (Wrote (λ d. text (answer d)) room written old) (text x) room written (λ g d stands. g.1 ∙ ap (λ (y : X). filled (text y) room) (h d stands).1) (λ g. g.1) status f
  wrote (Err (stop.Refused r)) status h f = let P : Status → Type 0 = Wrote (λ d. text (answer d)) room written old in subst P (sym f.0) f.1
  wrote (Err stop.NoMemory) status h f = let P : Status → Type 0 = Wrote (λ d. text (answer d)) room written old in subst P (sym f.0) f.1

  pub told : {Y : Type 0} (seen : X → Y) (had now : Y) (end : Result X Stop) (status : Status) → Answers end → EndFits text end room written status → EndTold seen end had now → Told (λ d. seen (answer d)) had now old status
  told seen had now (Ok x) status h f t = fits_ends (Told (λ d. seen (answer d)) had now old) (text x) room written (λ g d stands. t ∙ ap seen (h d stands).1) (λ g d stands. t ∙ ap seen (h d stands).1) status f
  told seen had now (Err (stop.Refused r)) status h f t = let P : Status → Type 0 = Told (λ d. seen (answer d)) had now old in subst P (sym f.0) t
  told seen had now (Err stop.NoMemory) status h f t = let P : Status → Type 0 = Told (λ d. seen (answer d)) had now old in subst P (sym f.0) t
