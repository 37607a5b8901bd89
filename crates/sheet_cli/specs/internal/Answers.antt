-- What the answer to one command does to a sink, and to one record, and how a failed write stops a run.
use Rattle.std.specs.Prelude.{◌≡◌, ℕ, ◌&&◌, List, Bool, true, false, Option, Some, None, Result, Ok, Err}
use Rattle.std.specs.Io.KnownBytes.{Appends}
use Rattle.calc_eval.specs.declared.customs.Customs.{Ghosts}
use Rattle.custom_fn.specs.declared.rule.Rule.{Rule}
use Rattle.book_model.specs.Workbook.{State}
use Rattle.book_engine.specs.Engine.{StandsFor}
use Rattle.book_engine.specs.declared.engine.Engine.{Engine}
use Rattle.script_lang.specs.Command.{version_after}
use Rattle.script_lang.specs.Lines.{line_of}
use Rattle.script_lang.specs.declared.commands.Command.{Command}
use Rattle.script_lang.specs.declared.commands.Version.{Version}
use Rattle.script_lang.specs.declared.error.ScriptError.{ScriptError}
use Rattle.command_answers.specs.Replies.{is_refused, next_state, record_text, reply}
use Rattle.book_files.specs.Outside.{AppendsPart}
use Rattle.book_files.specs.declared.error.WriteError.{WriteError}
use Rattle.book_files.specs.declared.error.WriteError.TheVariants as write
use Rattle.sheet_cli.specs.declared.ending.EarlyEnd.{EarlyEnd}
use Rattle.sheet_cli.specs.declared.ending.EarlyEnd.TheVariants as stop

-- a refusal ends the run
abbrev pub EndsAt : Bool → State → Command → Bool → Type 0
EndsAt strict d c ends = (strict && is_refused d c) ≡ ends

-- a command was answered: its line went to the sink, which the run ends with, or goes on from in the next session
abbrev pub AnswersCommand : {C : Type 0} {G : Ghosts C} → (C → List (List ℕ × Rule)) → Bool → Command → Option ℕ → Engine C G → Engine C G → Option (List ℕ) → Option (List ℕ) → Type 0
AnswersCommand customs strict c None before after old new = (d : State) → StandsFor customs before d → EndsAt strict d c false × Appends old new (reply c d) × StandsFor customs after (next_state c d)
AnswersCommand customs strict c (Some status) before after old new = (d : State) → StandsFor customs before d → EndsAt strict d c true × Appends old new (reply c d) × (status ≡ 1)

-- a record was answered: as its command, or by the last line where it is none
abbrev pub AnswersRecord : {C : Type 0} {G : Ghosts C} → (C → List (List ℕ × Rule)) → Bool → Result Command ScriptError → ℕ → Option ℕ → Engine C G → Engine C G → Option (List ℕ) → Option (List ℕ) → Type 0
AnswersRecord customs strict (Ok c) k end before after old new = AnswersCommand customs strict c end before after old new
AnswersRecord customs strict (Err e) k None before after old new = ⊥
AnswersRecord customs strict (Err e) k (Some status) before after old new = Appends old new (line_of (record_text k e)) × (status ≡ 3)

-- the version of a script behind a record
abbrev pub version_behind : Version → Result Command ScriptError → Version
version_behind version (Ok c) = version_after version c
version_behind version (Err e) = version

-- the front of the line that answers a command, or a record, went to the sink
abbrev pub PartOfCommand : {C : Type 0} {G : Ghosts C} → (C → List (List ℕ × Rule)) → Command → Engine C G → Option (List ℕ) → Option (List ℕ) → Type 0
PartOfCommand customs c before old new = (d : State) → StandsFor customs before d → AppendsPart old new (reply c d)

abbrev pub AnswersPart : {C : Type 0} {G : Ghosts C} → (C → List (List ℕ × Rule)) → Result Command ScriptError → ℕ → Engine C G → Option (List ℕ) → Option (List ℕ) → Type 0
AnswersPart customs (Ok c) k before old new = PartOfCommand customs c before old new
AnswersPart customs (Err e) k before old new = AppendsPart old new (line_of (record_text k e))

-- how a failed write stops a run
abbrev pub stop_of_write : WriteError → EarlyEnd
stop_of_write write.Failed = stop.WriteFault
stop_of_write write.NoMemory = stop.NoMemory
