-- What the answer to one command does. Source: this project's own.
use Rattle.std.specs.Prelude.{◌≡◌, ℕ, List, Bool}
use Rattle.calc_eval.specs.declared.customs.Customs.{Ghosts}
use Rattle.custom_fn.specs.declared.rule.Rule.{Rule}
use Rattle.book_model.specs.Workbook.{State}
use Rattle.book_engine.specs.Engine.{StandsFor}
use Rattle.book_engine.specs.declared.engine.Engine.{Engine}
use Rattle.script_lang.specs.declared.commands.Command.{Command}
use Rattle.command_answers.specs.Replies.{is_refused, next_state, reply}

-- the engine stays in the session that it was in
abbrev pub Keeps : {C : Type 0} {G : Ghosts C} → (C → List (List ℕ × Rule)) → Engine C G → Engine C G → Type 0
Keeps customs old new = (d : State) → StandsFor customs old d → StandsFor customs new d

-- a command was executed: whichever session the engine was in, this line answers it, it is a refusal or not, and the
-- engine is in the next one
abbrev pub Executes : {C : Type 0} {G : Ghosts C} → (C → List (List ℕ × Rule)) → Command → Engine C G → Engine C G → List ℕ → Bool → Type 0
Executes customs c old new line refused = (d : State) → StandsFor customs old d → (line ≡ reply c d) × (refused ≡ is_refused d c) × StandsFor customs new (next_state c d)
