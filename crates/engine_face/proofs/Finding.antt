-- What a question that is no operation is by what the engine answered and what was written. Serves the questions about areas, names and
-- formulas.
use Rattle.std.proofs.Common.{◌≡◌, ◌∙◌, sym, ap, subst, refl, ℕ, true, length, List, Option, Result, Ok, Err}
use Rattle.book_model.specs.Workbook.{State}
use Rattle.book_model.specs.declared.refusal.Refusal.{Refusal}
use Rattle.book_engine.specs.Turns.{Answered}
use Rattle.book_engine.specs.Stop.{Stop}
use Rattle.book_engine.specs.Stop.TheVariants as stop
use Rattle.engine_face.specs.Lists.{Made}
use Rattle.engine_face.specs.Session.{Finds, Stands, Stays, Tells, Told, Wrote}
use Rattle.engine_face.specs.Shown.{EndFits, EndTold, filled, fits}
use Rattle.engine_face.specs.Status.{status_of_end}
use Rattle.engine_face.specs.declared.session.Session.{Session}
use Rattle.engine_face.specs.declared.status.Status.{Status}
use Rattle.engine_face.proofs.Ends.{fits_ends}

-- what the engine answered is so in the session of the plain machine, and the session stays
module _ {X : Type 0} (why : State → Option Refusal) (Says : State → X → Type 0) (old new : Session) (stays : Stays old new) where
  abbrev pub AnswersSo : Result X Stop → Type 0
  AnswersSo end = (d : State) → Stands old d → Answered (why d) (Says d) end

  -- an answer that needs no room
  pub found_end : (end : Result X Stop) → AnswersSo end → Finds why (λ d. true) old new (status_of_end end)
  found_end (Ok x) h = λ d stands. ((h d stands).0, refl, stays d stands)
  found_end (Err (stop.Refused r)) h = λ d stands. (h d stands, stays d stands)
  found_end (Err stop.NoMemory) h = stays

  pub shown_end : {Y : Type 0} (seen : X → Y) (shown : State → Y) (same : (d : State) (x : X) → Says d x → seen x ≡ shown d) (had now : Y) (end : Result X Stop)
      → AnswersSo end → EndTold seen end had now → Told shown had now old (status_of_end end)
  shown_end seen shown same had now (Ok x) h t = λ d stands. t ∙ same d x (h d stands).1
  shown_end seen shown same had now (Err (stop.Refused r)) h t = t
  shown_end seen shown same had now (Err stop.NoMemory) h t = t

  pub holds_end : {Y : Type 0} (seen : X → Y) (Holds : State → Y → Type 0) (holds : (d : State) (x : X) → Says d x → Holds d (seen x)) (had now : Y) (end : Result X Stop)
      → AnswersSo end → EndTold seen end had now → Tells Holds had now old (status_of_end end)
  holds_end seen Holds holds had now (Ok x) h t = λ d stands. subst (Holds d) (sym t) (holds d x (h d stands).1)
  holds_end seen Holds holds had now (Err (stop.Refused r)) h t = t
  holds_end seen Holds holds had now (Err stop.NoMemory) h t = t

-- an answer whose bytes or rows go into a room
module _ {X Y : Type 0} (why : State → Option Refusal) (Says : State → X → Type 0) (items : X → List Y) (answer : State → List Y) (same : (d : State) (x : X) → Says d x → items x ≡ answer d) (old new : Session) (stays : Stays old new) (room written : List Y) where
  abbrev pub Answers : Result X Stop → Type 0
  Answers end = (d : State) → Stands old d → Answered (why d) (Says d) end

  pub found : (end : Result X Stop) (status : Status) → Answers end → EndFits items end room written status → Finds why (λ d. fits (answer d) room) old new status
  found (Ok x) status h f = fits_ends (Finds why (λ d. fits (answer d) room) old new) (items x) room written (λ g d stands. let a = h d stands in (a.0, ap (λ (l : List Y). fits l room) (sym (same d x a.1)) ∙ g.0, stays d stands)) (λ g d stands. let a = h d stands in (a.0, ap (λ (l : List Y). fits l room) (sym (same d x a.1)) ∙ g.0, stays d stands)) status f
  found (Err (stop.Refused r)) status h f = let P : Status → Type 0 = Finds why (λ d. fits (answer d) room) old new in subst P (sym f.0) (λ d stands. (h d stands, stays d stands))
  found (Err stop.NoMemory) status h f = let P : Status → Type 0 = Finds why (λ d. fits (answer d) room) old new in subst P (sym f.0) stays

  pub wrote : (end : Result X Stop) (status : Status) → Answers end → EndFits items end room written status → Wrote answer room written old status
  wrote (Ok x) status h f = fits_ends (Wrote answer room written old) (items x) room written (λ g d stands. g.1 ∙ ap (λ (l : List Y). filled l room) (same d x (h d stands).1)) (λ g. g.1) status f
  wrote (Err (stop.Refused r)) status h f = let P : Status → Type 0 = Wrote answer room written old in subst P (sym f.0) f.1
  wrote (Err stop.NoMemory) status h f = let P : Status → Type 0 = Wrote answer room written old in subst P (sym f.0) f.1

  pub told : (had now : ℕ) (end : Result X Stop) (status : Status) → Answers end → EndFits items end room written status → EndTold (λ x. length (items x)) end had now → Told (λ d. length (answer d)) had now old status
  told had now (Ok x) status h f t = fits_ends (Told (λ d. length (answer d)) had now old) (items x) room written (λ g d stands. t ∙ ap (λ (l : List Y). length l) (same d x (h d stands).1)) (λ g d stands. t ∙ ap (λ (l : List Y). length l) (same d x (h d stands).1)) status f
  told had now (Err (stop.Refused r)) status h f t = let P : Status → Type 0 = Told (λ d. length (answer d)) had now old in subst P (sym f.0) t
  told had now (Err stop.NoMemory) status h f t = let P : Status → Type 0 = Told (λ d. length (answer d)) had now old in subst P (sym f.0) t

-- what is made of an answer is so too
module _ {X Y : Type 0} (why : Option Refusal) (P : X → Type 0) (Q : Y → Type 0) (Is : X → Y → Type 0) (so : (x : X) (y : Y) → P x → Is x y → Q y) where
  pub made : (end : Result X Stop) (list : Result Y Stop) → Answered why P end → Made Is end list → Answered why Q list
  made (Ok x) (Ok y) a m = (a.0, so x y a.1 m)
  made (Ok x) (Err s) a m = let R : Stop → Type 0 = λ e. Answered why Q (Err e) in subst R (sym m) tt
  made (Err (stop.Refused r)) list a m = let R : Result Y Stop → Type 0 = Answered why Q in subst R (sym m) a
  made (Err stop.NoMemory) list a m = let R : Result Y Stop → Type 0 = Answered why Q in subst R (sym m) tt
