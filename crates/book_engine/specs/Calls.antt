-- Any list of calls of an engine, each accepted or refused, changes and reads in any mixture. Source: this project's own.
use Rattle.std.specs.Prelude.{ℕ, List, [], ◌∷◌, Result, Err}
use Rattle.custom_fn.specs.declared.rule.Rule.{Rule}
use Rattle.calc_eval.specs.declared.customs.Customs.{Ghosts}
use Rattle.book_model.specs.Operation.{Operation}
use Rattle.book_model.specs.Session.{after_all, next}
use Rattle.book_model.specs.Workbook.{State}
use Rattle.book_engine.specs.Engine.{Does, StandsFor}
use Rattle.session_questions.specs.Turns.{NoAnswer}
use Rattle.book_engine.specs.declared.engine.Engine.{Engine}
use Rattle.session_questions.specs.Stop.{Stop}
use Rattle.session_questions.specs.Stop.TheVariants.{NoMemory}

-- the second engine is in the session after the first one's
abbrev pub Leads : {C : Type 0} {G : Ghosts C} → (C → List (List ℕ × Rule)) → Operation → Engine C G → Engine C G → Type 0
Leads customs op old new = (d : State) → StandsFor customs old d → StandsFor customs new (next op d)

-- it is in the same session
abbrev pub Stays : {C : Type 0} {G : Ghosts C} → (C → List (List ℕ × Rule)) → Engine C G → Engine C G → Type 0
Stays customs old new = (d : State) → StandsFor customs old d → StandsFor customs new d

-- an answered or refused call leads to the next session; for want of memory the session stays
abbrev pub LeadsBy : {C X : Type 0} {G : Ghosts C} → (C → List (List ℕ × Rule)) → Result X Stop → Operation → Engine C G → Engine C G → Type 0
LeadsBy customs (Err NoMemory) op old new = Stays customs old new
LeadsBy customs _ op old new = Leads customs op old new

-- each call of an engine does so, whatever it answers
abbrev pub CallsLead : {C : Type 0} {G : Ghosts C} → (C → List (List ℕ × Rule)) → Type 0 → Engine C G → Type 0
CallsLead customs X old = (op : Operation) (new : Engine _ _) (r : Result X Stop) → Does customs op NoAnswer old new r → LeadsBy customs r op old new

-- an engine that was asked for the operations, one after the other, and then is the second one
pub data Runs {C : Type 0} {G : Ghosts C} (customs : C → List (List ℕ × Rule)) : Engine C G → List Operation → Engine C G → Type 0 where
  start : (e : Engine C G) → Runs customs e [] e
  asked : (op : Operation) (ops : List Operation) (e f h : Engine C G) → Leads customs op e f → Runs customs f ops h → Runs customs e (op ∷ ops) h
  -- a call for which there was no memory counts for nothing
  wanted : (ops : List Operation) (e f h : Engine C G) → Stays customs e f → Runs customs f ops h → Runs customs e ops h

-- the engine is then in the session after all of them, so that each call answers what the plain machine does at its place
abbrev pub AnyCallsFollow : {C : Type 0} {G : Ghosts C} → (C → List (List ℕ × Rule)) → Engine C G → Type 0
AnyCallsFollow customs e = (f : Engine _ _) (ops : List Operation) (d : State) → Runs customs e ops f → StandsFor customs e d → StandsFor customs f (after_all ops d)
