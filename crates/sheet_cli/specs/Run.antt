-- The whole output and status of a run, from its words, the files that they name and the bytes of its source, and what
-- is said of a run that doesn't come to its end. Source: this project's own.
use Rattle.std.specs.Prelude.{◌≡◌, ◌⊎◌, ◌+◌, ◌&&◌, if◌then◌else◌, true, false, ℕ, ℤ, Bool, List, [], ◌∷◌, drop, Option, Some, None, is_none, is_ok, codes, ⊤}
use Rattle.std.specs.Io.KnownBytes.{Appends}
use Rattle.custom_fn.specs.declared.rule.Rule.{Rule}
use Rattle.csv.specs.Reading.{records, default_config, strip_bom}
use Rattle.book_files.specs.Outside.{AppendsPart}
use Rattle.book_files.specs.declared.input.TheConstants.{MAX_INPUT}
use Rattle.book_model.specs.Given.{GivenSheet, session_given}
use Rattle.script_lang.specs.declared.commands.Version.TheVariants.{Two}
use Rattle.script_lang.specs.Lines.{line_of}
use Rattle.command_words.specs.Words.{Said, meaning}
use Rattle.generator.specs.Generated.{generated}
use Rattle.sheet_cli.specs.Answering.{answers_from, outcome_from, summary_outcome}
use Rattle.run_inputs.specs.Opening.{Told, empty_sheet, script_told, sheets_told}
use Rattle.run_inputs.specs.Outcome.{Outcome, ended, or_end}

abbrev pub usage : Outcome
usage = ended 2 (codes "usage: sheetrun [--undo-limit N] [--strict] [--script FILE] [--generate N] [BOOK.csv ...]")

-- a script's outcome, from a session of these sheets on, with these custom functions and on this day
abbrev pub script_outcome : List (List ℕ × Rule) → ℤ → Said → List GivenSheet → List ℕ → Outcome
script_outcome customs day said sheets bytes = outcome_from said.strict Two (session_given said.undo_limit customs day sheets) 1 (records default_config (strip_bom bytes))

-- the outcome of a generated list of commands of this size
abbrev pub generated_outcome : List (List ℕ × Rule) → ℤ → Said → ℕ → Outcome
generated_outcome customs day said n = summary_outcome said.strict (answers_from (session_given said.undo_limit customs day (empty_sheet ∷ [])) (generated n))

-- the outcome of words that say this: of a generated list, or of a script, once its books and then itself are there
abbrev pub outcome_said : List (List ℕ × Rule) → ℤ → Option ℕ → Said → Told → Outcome
outcome_said customs day (Some n) said told = generated_outcome customs day said n
outcome_said customs day None said told = or_end (sheets_told told.files said.books) (λ sheets. or_end (script_told told said.script) (script_outcome customs day said sheets))

abbrev pub outcome_meant : List (List ℕ × Rule) → ℤ → Option Said → Told → Outcome
outcome_meant customs day None told = usage
outcome_meant customs day (Some said) told = outcome_said customs day said.generate said told

-- the outcome of a run, whose formulas know these custom functions and this day
abbrev pub outcome : List (List ℕ × Rule) → ℤ → List (List ℕ) → Told → Outcome
outcome customs day words told = outcome_meant customs day (meaning words) told

-- what a run prints, and its status, are the outcome of what it is told
abbrev pub Prints : Option Told → (Told → Outcome) → Option (List ℕ) → Option (List ℕ) → ℕ → Type 0
Prints told f old new status = (t : Told) → told ≡ Some t → Appends old new (f t).0 × (status ≡ (f t).1)

-- the line of a fault in reading
abbrev pub fault_line : List ℕ
fault_line = line_of (codes "read fault")

-- what a run prints is the front of that outcome, or, where there was a fault in reading, of its line
abbrev pub PrintsPart : Option Told → (Told → Outcome) → Type 0 → Option (List ℕ) → Option (List ℕ) → Type 0
PrintsPart told f Faulty old new = (t : Told) → told ≡ Some t → AppendsPart old new (f t).0 ⊎ (Faulty × AppendsPart old new fault_line)

-- the script comes from the source
abbrev pub reads_source : Option Said → Bool
reads_source None = false
reads_source (Some said) = is_none said.script && is_none said.generate

-- what is left of the source, whose bytes are all read, up to one more than a run may be told, once all books are there
abbrev pub source_left : Option Said → Told → List ℕ
source_left None told = told.source
source_left (Some said) told =
    if reads_source (Some said) && is_ok (sheets_told told.files said.books) then drop (MAX_INPUT + 1) told.source else told.source

abbrev pub Leaves : Option Told → (Told → List ℕ) → Option (List ℕ) → Type 0
Leaves told f new = (t : Told) → told ≡ Some t → new ≡ Some (f t)

-- how much of the source was read, by what the words say and the status, also where the folder tells nothing
abbrev pub WasRead : Option Said → ℕ → Option (List ℕ) → Option (List ℕ) → Type 0
WasRead said status None new = ⊤
WasRead said status (Some bytes) new =
    (reads_source said ≡ true → (status ≡ 0) ⊎ (status ≡ 1) ⊎ (status ≡ 3) → new ≡ Some [])
    × (reads_source said ≡ false → new ≡ Some bytes)
    × (status ≡ 4 → new ≡ Some bytes)
    × (status ≡ 8 → (new ≡ Some bytes) ⊎ (new ≡ Some (drop (MAX_INPUT + 1) bytes)))

-- the statuses of a run that came to its end, and of any run
abbrev pub IsEndStatus : ℕ → Type 0
IsEndStatus status = (status ≡ 0) ⊎ (status ≡ 1) ⊎ (status ≡ 2) ⊎ (status ≡ 3) ⊎ (status ≡ 4) ⊎ (status ≡ 8)

abbrev pub IsStatus : ℕ → Type 0
IsStatus status = IsEndStatus status ⊎ ((status ≡ 5) ⊎ (status ≡ 6) ⊎ (status ≡ 7))
