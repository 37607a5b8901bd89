-- Any list of calls follows the plain machine. Serves the laws.
use Rattle.std.proofs.Common.{ℕ, List, Ok, Err}
use Rattle.custom_fn.specs.declared.rule.Rule.{Rule}
use Rattle.calc_eval.specs.declared.customs.Customs.{Ghosts}
use Rattle.book_model.specs.Session.{next}
use Rattle.book_engine.specs.Calls.{AnyCallsFollow, CallsLead, start, asked, wanted}
use Rattle.book_engine.specs.declared.engine.Engine.{Engine}
use Rattle.session_questions.specs.Stop.TheVariants.{Refused, NoMemory}

pub lead : {C : Type 0} {G : Ghosts C} (customs : C → List (List ℕ × Rule)) (X : Type 0) (e : Engine C G) → CallsLead customs X e
lead customs X old op new (Ok x) does = λ d stands. (does d stands).2
lead customs X old op new (Err (Refused r)) does = λ d stands. (does d stands).1
lead customs X old op new (Err NoMemory) does = does

pub follow : {C : Type 0} {G : Ghosts C} (customs : C → List (List ℕ × Rule)) (e : Engine C G) → AnyCallsFollow customs e
follow customs e f ops d (start x) stands = stands
follow customs e f ops d (asked op rest x h y leads runs) stands = follow customs h f rest (next op d) runs (leads d stands)
follow customs e f ops d (wanted rest x h y stays runs) stands = follow customs h f rest d runs (stays d stands)
