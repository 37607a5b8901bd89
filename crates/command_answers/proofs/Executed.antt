-- Calls that leave the session as it was. Serves the session of commands, whose lines may want memory after a call.
use Rattle.std.proofs.Common.{◌≡◌, refl, ℕ, List, Option, Some, None, Result, Ok, Err}
use Rattle.std.specs.Prelude.{OnErr}
use Rattle.custom_fn.specs.declared.rule.Rule.{Rule}
use Rattle.calc_eval.specs.declared.customs.Customs.{Ghosts}
use Rattle.book_model.specs.Operation.{Operation}
use Rattle.command_answers.specs.Replies.{next_state, refusal_of, refused_for, state_asked}
use Rattle.command_answers.specs.Asked.{operation_of}
use Rattle.book_model.specs.Session.{done}
use Rattle.book_model.specs.declared.refusal.Refusal.{Refusal}
use Rattle.book_model.specs.Workbook.{State}
use Rattle.book_engine.specs.Engine.{Does}
use Rattle.book_engine.specs.declared.engine.Engine.{Engine}
use Rattle.book_engine.specs.Stop.{Stop}
use Rattle.book_engine.specs.Stop.TheVariants.{Refused, NoMemory}
use Rattle.script_lang.specs.declared.commands.Command.{Command}
use Rattle.command_answers.specs.internal.Answers.{DoesFor}
use Rattle.command_answers.specs.Sessions.{Keeps}

-- what holds anyway holds where there is an error
pub on_err : {T E : Type 0} (r : Result T E) (P : Type 0) → P → OnErr r P
on_err (Ok x) P p = tt
on_err (Err e) P p = p

-- a call that stopped
pub stop_keeps : {C X : Type 0} {G : Ghosts C} (customs : C → List (List ℕ × Rule)) (op : Operation) (Answers : State → X → Type 0) (old new : Engine C G) (s : Stop) → Does customs op Answers old new (Err s) → Keeps customs old new
stop_keeps customs op Answers old new (Refused r) did = λ d stands. let now = did d stands in rw now.0 at now.1
stop_keeps customs op Answers old new NoMemory did = did

-- what is refused leaves the session
refused_stays-by : (o : Option Operation) (d : State) (r : Refusal) → refusal_of o d ≡ Some r → state_asked o d ≡ d
refused_stays-by None d r e = cc
refused_stays-by (Some op) d r e = rw e refl

refused_stays : (c : Command) (d : State) (r : Refusal) → refused_for c d ≡ Some r → next_state c d ≡ d
refused_stays c d r e = refused_stays-by (operation_of d.book c) d r e

-- the same, of what a command asks for
pub stop_keeps_for : {C X : Type 0} {G : Ghosts C} (customs : C → List (List ℕ × Rule)) (c : Command) (Answers : State → X → Type 0) (old new : Engine C G) (s : Stop) → DoesFor customs c Answers old new (Err s) → Keeps customs old new
stop_keeps_for customs c Answers old new (Refused r) did = λ d stands. let now = did d stands in rw (refused_stays c d r now.0) at now.1
stop_keeps_for customs c Answers old new NoMemory did = did

-- a read
pub read_keeps : {C X : Type 0} {G : Ghosts C} (customs : C → List (List ℕ × Rule)) (op : Operation) (Answers : State → X → Type 0) (old new : Engine C G) (x : X)
    → ((d : State) → done op d ≡ d) → Does customs op Answers old new (Ok x) → Keeps customs old new
read_keeps customs op Answers old new x same did = λ d stands. let now = did d stands in rw (now.0, same d) at now.2
