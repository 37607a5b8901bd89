-- How parts of a run end.
use Rattle.std.specs.Prelude.{◌≡◌, ◌⊎◌, ℕ, false, List, [], Option, Result, Ok, Err, string_bytes, ⊤}
use Rattle.std.specs.Io.KnownBytes.{Appends}
use Rattle.book_files.specs.Outside.{AppendsPart}
use Rattle.run_inputs.specs.Opening.{Told}
use Rattle.run_inputs.specs.Outcome.{Outcome, ended}
use Rattle.command_words.specs.Words.{Said}
use Rattle.sheet_cli.specs.Run.{Prints, PrintsPart, WasRead, fault_line, reads_source}
use Rattle.run_inputs.specs.declared.ending.Ending.{Ending}
use Rattle.run_inputs.specs.declared.ending.Ending.TheVariants as ending
use Rattle.sheet_cli.specs.declared.ending.EarlyEnd.{EarlyEnd}
use Rattle.sheet_cli.specs.declared.ending.EarlyEnd.TheVariants as stop

-- this outcome was printed, or a part of it before the run was stopped
abbrev pub Printed : Outcome → Option (List ℕ) → Option (List ℕ) → Result ℕ EarlyEnd → Type 0
Printed o old new (Ok status) = Appends old new o.0 × (status ≡ o.1)
Printed o old new (Err stop.ReadFault) = ⊥
Printed o old new (Err _) = AppendsPart old new o.0

-- a line was printed, or a part of it
abbrev pub PrintedLine : List ℕ → Option (List ℕ) → Option (List ℕ) → {X : Type 0} → Result X EarlyEnd → Type 0
PrintedLine line old new (Ok x) = Appends old new line
PrintedLine line old new (Err stop.ReadFault) = ⊥
PrintedLine line old new (Err _) = AppendsPart old new line

-- a run printed what it is told to, or a part of it, or, where there was a fault in reading, the line of that or a part
abbrev pub Runs : Option Told → (Told → Outcome) → Type 0 → Option (List ℕ) → Option (List ℕ) → Result ℕ EarlyEnd → Type 0
Runs told f Faulty old new (Ok status) = Prints told f old new status
Runs told f Faulty old new (Err stop.ReadFault) = Faulty × Appends old new fault_line
Runs told f Faulty old new (Err _) = PrintsPart told f Faulty old new

-- how a run ends before its first reply was said, or a part of that; for want of memory nothing was
abbrev pub EndPrinted : Ending → Option (List ℕ) → Option (List ℕ) → Result ℕ EarlyEnd → Type 0
EndPrinted (ending.Says text status) old new r = Printed (ended status (string_bytes text)) old new r
EndPrinted ending.ReadFault old new (Ok status) = ⊥
EndPrinted ending.ReadFault old new (Err stop.ReadFault) = Appends old new fault_line
EndPrinted ending.ReadFault old new (Err _) = AppendsPart old new fault_line
EndPrinted ending.NoMemory old new (Err stop.NoMemory) = AppendsPart old new []
EndPrinted ending.NoMemory old new _ = ⊥

-- the statuses of a script or of a generated list of commands that came to its end
abbrev pub EndsScript : Result ℕ EarlyEnd → Type 0
EndsScript (Ok status) = (status ≡ 0) ⊎ (status ≡ 1) ⊎ (status ≡ 3)
EndsScript (Err stop) = ⊤

-- and of a run whose words are accepted
abbrev pub IsSaidStatus : ℕ → Type 0
IsSaidStatus status = (status ≡ 0) ⊎ (status ≡ 1) ⊎ (status ≡ 3) ⊎ (status ≡ 4) ⊎ (status ≡ 8)

-- what a run took of its source
abbrev pub Reads : Option Said → Option (List ℕ) → Option (List ℕ) → Result ℕ EarlyEnd → Type 0
Reads said old new (Ok status) = WasRead said status old new
Reads said old new (Err stop) = reads_source said ≡ false → new ≡ old
