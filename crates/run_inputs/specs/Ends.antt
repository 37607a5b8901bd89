-- What a call that opens a part of a run answers: that part, or how the run ends without it. Source: this project's own.
use Rattle.std.specs.Prelude.{◌≡◌, ◌⊎◌, ◌+◌, List, ℕ, Option, Some, None, Result, Ok, Err, string_bytes, ⊤}
use Rattle.std.specs.Io.KnownBytes.{Consumes, IsAtEnd}
use Rattle.book_files.specs.Outside.{Loses}
use Rattle.book_files.specs.declared.input.TheConstants.{MAX_INPUT}
use Rattle.run_inputs.specs.Outcome.{Outcome, ended}
use Rattle.run_inputs.specs.declared.ending.Ending.{Ending}
use Rattle.run_inputs.specs.declared.ending.Ending.TheVariants as ending
use Rattle.run_inputs.specs.declared.ending.TheConstants.{NO_BOOK, TOO_LONG}

-- a part of a run came to what it comes to by the definitions, or to the end that they say
abbrev pub ComesTo : {X Y : Type 0} → (X → Y) → Result Y Outcome → Result X Ending → Type 0
ComesTo seen said (Ok x) = said ≡ Ok (seen x)
ComesTo seen said (Err (ending.Says text status)) = said ≡ Err (ended status (string_bytes text))
ComesTo seen said (Err _) = ⊤

-- the same where something is told
abbrev pub Opens : {T X Y : Type 0} → (X → Y) → Option T → (T → Result Y Outcome) → Result X Ending → Type 0
Opens {T} seen told f r = (t : T) → told ≡ Some t → ComesTo seen (f t) r

-- the status of what is wrong with a book or a script
abbrev pub EndsOpening : {X : Type 0} → Result X Ending → Type 0
EndsOpening (Err (ending.Says text status)) = (status ≡ NO_BOOK) ⊎ (status ≡ TOO_LONG)
EndsOpening _ = ⊤

-- what the reading of a script took of the source: nothing where it has a file, and else all, or one byte more than a
-- run may be told
abbrev pub TakesScript : {X : Type 0} → Option (List ℕ) → Result X Ending → Option (List ℕ) → Option (List ℕ) → Type 0
TakesScript (Some file) r old new = new ≡ old
TakesScript None (Ok x) old new = ((bs : List ℕ) × Consumes old new bs) × IsAtEnd new
TakesScript None (Err (ending.Says text status)) old new = Loses old new (MAX_INPUT + 1) × (status ≡ TOO_LONG)
TakesScript None (Err _) old new = ⊤
