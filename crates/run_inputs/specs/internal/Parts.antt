-- How the parts of an opening end, and which sheet can stand behind others.
use Rattle.std.specs.Prelude.{◌≡◌, ◌+◌, ◌≤◌, ◌<◌, ℕ, Bool, true, false, List, length, Result, Err, string_bytes, ⊤}
use Rattle.book_files.specs.declared.fault.BookFault.{BookFault}
use Rattle.book_files.specs.declared.fault.BookFault.TheVariants as fault
use Rattle.book_model.specs.Given.{GivenSheet, IsGivenSheet}
use Rattle.book_model.specs.declared.given.BookSheet.{BookSheet}
use Rattle.book_model.specs.declared.limits.TheConstants.{MAX_CELLS, MAX_SHEETS}
use Rattle.run_inputs.specs.Opening.{has_name}
use Rattle.run_inputs.specs.Outcome.{Outcome, ended}
use Rattle.run_inputs.specs.declared.ending.Ending.{Ending}
use Rattle.run_inputs.specs.declared.ending.Ending.TheVariants as ending

-- an end that says what is wrong is this end of a run; for want of memory there is none to say
abbrev pub IsEnd : Ending → Outcome → Type 0
IsEnd (ending.Says text status) end = ended status (string_bytes text) ≡ end
IsEnd ending.ReadFault end = ⊥
IsEnd ending.NoMemory end = ⊤

-- an end that says what is wrong has this status
abbrev pub EndsWith : Ending → ℕ → Type 0
EndsWith (ending.Says text status) n = status ≡ n
EndsWith _ n = ⊤

-- a file was read as far as its fields, and so has a sheet's name
abbrev pub is_named : Result BookSheet BookFault → Bool
is_named (Err fault.NotUtf8) = false
is_named (Err fault.BadSheetName) = false
is_named (Err fault.NoMemory) = false
is_named _ = true

-- a sheet can stand behind others, which fill so many cells
abbrev pub CanFollow : List GivenSheet → ℕ → GivenSheet → Type 0
CanFollow sheets filled s = IsGivenSheet s × (has_name sheets s.name ≡ false) × (length sheets < MAX_SHEETS) × (filled + length s.cells ≤ MAX_CELLS)
