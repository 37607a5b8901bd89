-- What a run prints of its commands: a line for each, or a summary of all. Source: this project's own.
use Rattle.std.specs.Prelude.{ℕ, ◌+◌, ◌&&◌, if◌then◌else◌, Bool, List, [], ◌∷◌, ◌++◌, length, filter, Option, Some, None, Result, Ok, Err, codes}
use Rattle.std.specs.Fmt.{decimal}
use Rattle.book_model.specs.Workbook.{State}
use Rattle.script_lang.specs.Command.{command_in, version_after}
use Rattle.script_lang.specs.Lines.{line_of}
use Rattle.script_lang.specs.declared.commands.Command.{Command}
use Rattle.script_lang.specs.declared.commands.Version.{Version}
use Rattle.script_lang.specs.declared.error.ScriptError.{ScriptError}
use Rattle.command_answers.specs.Replies.{is_refused, next_state, record_text, reply}
use Rattle.run_inputs.specs.Outcome.{Outcome, ended, followed_by}

-- a command: its reply, and then the rest of the run; where a refusal ends the run, a refused command is its last
abbrev pub command_outcome : Bool → State → Command → (State → Outcome) → Outcome
command_outcome strict d c rest = if strict && is_refused d c then (reply c d, 1) else followed_by (reply c d) (rest (next_state c d))

-- a record of a script of this version: what its command does, or the end of the run where it is none
abbrev pub record_outcome : Bool → Version → State → ℕ → Result Command ScriptError → (Version → State → Outcome) → Outcome
record_outcome strict version d k (Ok c) rest = command_outcome strict d c (rest (version_after version c))
record_outcome strict version d k (Err e) rest = ended 3 (record_text k e)

-- the records from number k on, in a session; the end of the script ends a run with status 0
unfoldable pub outcome_from : Bool → Version → State → ℕ → List (List (List ℕ)) → Outcome
outcome_from strict version d k [] = ([], 0)
outcome_from strict version d k (fields ∷ rest) =
    record_outcome strict version d k (command_in version k fields) (λ next after. outcome_from strict next after (k + 1) rest)

-- the line that answers a command, and whether that is a refusal
pub record Answered : Type 0 where
  pub line : List ℕ
  pub refused : Bool

-- what answers each of some commands, from a session on
unfoldable pub answers_from : State → List Command → List Answered
answers_from d [] = []
answers_from d (c ∷ cs) = (record { line = reply c d; refused = is_refused d c }) ∷ answers_from (next_state c d) cs

-- the first refusal
abbrev pub first_refusal : List Answered → Option (List ℕ)
first_refusal [] = None
first_refusal (a ∷ rest) = if a.refused then Some a.line else first_refusal rest

-- how many bytes the lines have
abbrev pub bytes_of : List Answered → ℕ
bytes_of [] = 0
bytes_of (a ∷ rest) = length a.line + bytes_of rest

-- how many commands there were, how many of them were refused, and how many bytes answer them
abbrev pub summary : List Answered → List ℕ
summary answers =
    line_of (codes "commands " ++ decimal (length answers))
    ++ line_of (codes "refused " ++ decimal (length (filter (λ a. a.refused) answers)))
    ++ line_of (codes "bytes " ++ decimal (bytes_of answers))

-- a refusal, where one ends the run, or the summary
abbrev pub summary_unless : Option (List ℕ) → List Answered → Outcome
summary_unless (Some line) answers = (line, 1)
summary_unless None answers = (summary answers, 0)

abbrev pub summary_outcome : Bool → List Answered → Outcome
summary_outcome strict answers = summary_unless (if strict then first_refusal answers else None) answers
