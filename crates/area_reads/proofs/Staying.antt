-- What stays over reads that come one after the other. Serves reads of areas.
use Rattle.std.proofs.Common.{◌≡◌, ◌∙◌, sym, ap, subst, refl, ℕ, List, Option, Some, None, Result, Ok, Err}
use Rattle.std.proofs.lemmas.Option.{none-some}
use Rattle.custom_fn.specs.declared.rule.Rule.{Rule}
use Rattle.calc_eval.specs.declared.customs.Customs.{Ghosts}
use Rattle.book_model.specs.Operation.{Operation}
use Rattle.book_model.specs.Refusals.{cause}
use Rattle.book_model.specs.Session.{done, next, unless_refused}
use Rattle.book_model.specs.Workbook.{State}
use Rattle.book_model.specs.declared.refusal.Refusal.{Refusal}
use Rattle.book_engine.specs.Turns.{Answered}
use Rattle.book_engine.specs.Calls.{Stays}
use Rattle.book_engine.specs.Engine.{Does, StandsFor}
use Rattle.book_engine.specs.Kept.{KeepsLine, KeepsValues}
use Rattle.book_engine.specs.declared.engine.Engine.{Engine}
use Rattle.book_engine.specs.Stop.{Stop}
use Rattle.book_engine.specs.Stop.TheVariants.{Refused, NoMemory}
use Rattle.book_engine.proofs.IdleReads.{line_on, line_same, values_on, values_same}
use Rattle.area_reads.specs.Reads.{AreQuiet}

same_either : (r : Option Refusal) (d : State) → unless_refused r d d ≡ d
same_either None d = refl
same_either (Some r) d = refl

-- an operation that changes nothing leaves the session, whether it is refused or not
stays_next : (op : Operation) (d : State) → done op d ≡ d → next op d ≡ d
stays_next op d same = ap (λ e. unless_refused (cause op d) e d) same ∙ same_either (cause op d) d

module _ {C X : Type 0} {G : Ghosts C} (customs : C → List (List ℕ × Rule)) (op : Operation) (Answers : State → X → Type 0) (reads : (d : State) → done op d ≡ d) (old new : Engine C G) where
  pub read_stays : (r : Result X Stop) → Does customs op Answers old new r → Stays customs old new
  read_stays (Ok x) does d stands = subst (StandsFor customs new) (stays_next op d (reads d)) (does d stands).2
  read_stays (Err (Refused r)) does d stands = subst (StandsFor customs new) (stays_next op d (reads d)) (does d stands).1
  read_stays (Err NoMemory) does d stands = does d stands

  -- one that has no cause isn't refused
  pub fails : {Y : Type 0} (e : Stop) (d : State) (Holds : Y → Type 0) → Does customs op Answers old new (Err e) → StandsFor customs old d → cause op d ≡ None → Answered None Holds (Err e)
  fails (Refused r) d Holds does stands none = absurd (none-some r (sym none ∙ (does d stands).0))
  fails NoMemory d Holds does stands none = tt

module _ {C : Type 0} {G : Ghosts C} (customs : C → List (List ℕ × Rule)) where
  -- no read is quiet
  pub quiet_none : (e : Engine C G) → AreQuiet customs e e
  quiet_none e = record { stays = λ d stands. stands; line = line_same e; values = values_same e }

  -- one more text
  pub quiet_on : (first old new : Engine C G) → AreQuiet customs first old → Stays customs old new → KeepsLine old new → KeepsValues old new → AreQuiet customs first new
  quiet_on first old new quiet stays line values = record {
    stays = λ d stands. stays d (quiet.stays d stands);
    line = line_on first old new quiet.line line;
    values = values_on first old new quiet.values values;
  }
