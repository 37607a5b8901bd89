-- How the parts of a run make the whole of it. Serves the call of the program.
use Rattle.std.proofs.Common.{◌≡◌, ◌≤◌, ap, arith, refl, ℕ, ℤ, inl, inr, List, [], Option, Some, None, Result, Ok, Err}
use Rattle.std.specs.Prelude.{⊤, ◌⊎◌, string_bytes}
use Rattle.custom_fn.specs.declared.rule.Rule.{Rule}
use Rattle.book_files.specs.Folder.{Files}
use Rattle.book_files.specs.Outside.{Rose}
use Rattle.book_model.specs.Given.{GivenSheet}
use Rattle.command_words.specs.Words.{Said}
use Rattle.run_inputs.specs.Ends.{ComesTo, EndsOpening}
use Rattle.run_inputs.specs.Opening.{Told, script_told, sheets_told, told_by}
use Rattle.run_inputs.specs.Outcome.{Outcome, ended, or_end}
use Rattle.run_inputs.specs.declared.ending.Ending.{Ending}
use Rattle.run_inputs.specs.declared.ending.Ending.TheVariants as ending
use Rattle.sheet_cli.specs.Run.{fault_line, outcome_said, script_outcome}
use Rattle.sheet_cli.specs.declared.ending.EarlyEnd.{EarlyEnd}
use Rattle.sheet_cli.specs.declared.ending.EarlyEnd.TheVariants as stop
use Rattle.sheet_cli.specs.internal.Ends.{EndPrinted, Printed, PrintedLine, Runs}
use Rattle.sheet_cli.proofs.Outcomes.{part-longer}

-- a line that a run was stopped in is a part of what it ends with
pub printed_line : (X : Type 0) (line : List ℕ) (status : ℕ) (old new : Option (List ℕ)) (s : EarlyEnd) → PrintedLine line old new {X = X} (Err s) → Printed (line, status) old new (Err s)
printed_line X line status old new stop.ReadFault printed = absurd printed
printed_line X line status old new stop.WriteFault printed = printed
printed_line X line status old new stop.NoMemory printed = printed

-- and so is the line of a fault in reading
pub printed_fault : (X : Type 0) (old new : Option (List ℕ)) (s : EarlyEnd) → PrintedLine fault_line old new {X = X} (Err s) → EndPrinted ending.ReadFault old new (Err s)
printed_fault X old new stop.ReadFault printed = absurd printed
printed_fault X old new stop.WriteFault printed = printed
printed_fault X old new stop.NoMemory printed = printed

-- an end that says what is wrong is this outcome
abbrev pub SaysEnd : Ending → Outcome → Type 0
SaysEnd (ending.Says text status) o = o ≡ ended status (string_bytes text)
SaysEnd ending.ReadFault o = ⊤
SaysEnd ending.NoMemory o = ⊤

-- what was printed is what the run is told to print
pub printed_runs : (told : Option Told) (f : Told → Outcome) (Faulty : Type 0) (o : Outcome) (old new : Option (List ℕ)) (r : Result ℕ EarlyEnd) → ((t : Told) → told ≡ Some t → f t ≡ o) → Printed o old new r → Runs told f Faulty old new r
printed_runs told f Faulty o old new (Ok status) same printed = λ t is. rw (same t is) printed
printed_runs told f Faulty o old new (Err stop.ReadFault) same printed = absurd printed
printed_runs told f Faulty o old new (Err stop.WriteFault) same printed = λ t is. inl (rw (same t is) printed)
printed_runs told f Faulty o old new (Err stop.NoMemory) same printed = λ t is. inl (rw (same t is) printed)

-- where what a run is told to print is the same
pub runs_alike : (told : Option Told) (f h : Told → Outcome) (Faulty : Type 0) (old new : Option (List ℕ)) (r : Result ℕ EarlyEnd) → ((t : Told) → f t ≡ h t) → Runs told h Faulty old new r → Runs told f Faulty old new r
runs_alike told f h Faulty old new (Ok status) same runs = λ t is. rw (same t) (runs t is)
runs_alike told f h Faulty old new (Err stop.ReadFault) same runs = runs
runs_alike told f h Faulty old new (Err stop.WriteFault) same runs = λ t is. elim (runs t is) [ inl part ↦ inl (rw (same t) part) | inr fault ↦ inr fault ]
runs_alike told f h Faulty old new (Err stop.NoMemory) same runs = λ t is. elim (runs t is) [ inl part ↦ inl (rw (same t) part) | inr fault ↦ inr fault ]

-- a count that rose after another moment rose
pub rose_later : (a b c : ℕ) → a ≤ b → Rose b c → Rose a c
rose_later a b c later rose = omega arith

-- how a run ends before its first reply is what it is told to print, or the line of a fault in reading
pub end_runs : (told : Option Told) (f : Told → Outcome) (Faulty : Type 0) (e : Ending) (old new : Option (List ℕ)) (r : Result ℕ EarlyEnd) → ((t : Told) → told ≡ Some t → SaysEnd e (f t)) → (e ≡ ending.ReadFault → Faulty) → EndPrinted e old new r → Runs told f Faulty old new r
end_runs told f Faulty (ending.Says text status) old new r says faulty printed = printed_runs told f Faulty (ended status (string_bytes text)) old new r says printed
end_runs told f Faulty ending.ReadFault old new (Ok status) says faulty printed = absurd printed
end_runs told f Faulty ending.ReadFault old new (Err stop.ReadFault) says faulty printed = (faulty refl, printed)
end_runs told f Faulty ending.ReadFault old new (Err stop.WriteFault) says faulty printed = λ t is. inr (faulty refl, printed)
end_runs told f Faulty ending.ReadFault old new (Err stop.NoMemory) says faulty printed = λ t is. inr (faulty refl, printed)
end_runs told f Faulty ending.NoMemory old new (Ok status) says faulty printed = absurd printed
end_runs told f Faulty ending.NoMemory old new (Err stop.ReadFault) says faulty printed = absurd printed
end_runs told f Faulty ending.NoMemory old new (Err stop.WriteFault) says faulty printed = absurd printed
end_runs told f Faulty ending.NoMemory old new (Err stop.NoMemory) says faulty printed = λ t is. inl (part-longer old new [] (f t).0 printed)

-- what folder and source tell
pub told_parts : (files : Option Files) (source : Option (List ℕ)) (t : Told) → told_by files source ≡ Some t → (files ≡ Some t.files) × (source ≡ Some t.source)
told_parts (Some files) (Some source) t is =
    let same : (record { files = files; source = source }) ≡ t = cc in
    (ap (λ (u : Told). Some u.files) same, ap (λ (u : Told). Some u.source) same)
told_parts (Some files) None t is = cc
told_parts None source t is = cc

-- a part of a run that came to the run's end
said_end : {X Y : Type 0} (seen : X → Y) (said : Result Y Outcome) (e : Ending) (rest : Y → Outcome) → ComesTo seen said (Err e) → SaysEnd e (or_end said rest)
said_end seen said (ending.Says text status) rest comes = rw comes refl
said_end seen said ending.ReadFault rest comes = tt
said_end seen said ending.NoMemory rest comes = tt

-- the books came to the run's end
pub books_say : {X : Type 0} (customs : List (List ℕ × Rule)) (day : ℤ) (said : Said) (seen : X → List GivenSheet) (files : Option Files) (source : Option (List ℕ)) (e : Ending) → ((told : Files) → files ≡ Some told → ComesTo seen (sheets_told told said.books) (Err e))
    → (t : Told) → told_by files source ≡ Some t → SaysEnd e (outcome_said customs day None said t)
books_say customs day said seen files source e opens t is =
    let parts = told_parts files source t is in
    said_end seen (sheets_told t.files said.books) e (λ sheets. or_end (script_told t said.script) (script_outcome customs day said sheets)) (opens t.files parts.0)

-- the script came to the run's end
pub script_says : {X : Type 0} (customs : List (List ℕ × Rule)) (day : ℤ) (said : Said) (sheets : List GivenSheet) (seen : X → List ℕ) (e : Ending) (t : Told) → sheets_told t.files said.books ≡ Ok sheets → ComesTo seen (script_told t said.script) (Err e)
    → SaysEnd e (outcome_said customs day None said t)
script_says customs day said sheets seen e t books comes = rw books (said_end seen (script_told t said.script) e (script_outcome customs day said sheets) comes)

-- both are there
pub script_is : (customs : List (List ℕ × Rule)) (day : ℤ) (said : Said) (sheets : List GivenSheet) (bytes : List ℕ) (t : Told) → sheets_told t.files said.books ≡ Ok sheets → script_told t said.script ≡ Ok bytes
    → outcome_said customs day None said t ≡ script_outcome customs day said sheets bytes
script_is customs day said sheets bytes t books script = rw (books, script) refl

-- the status of a run that ends before its first reply
pub end_status : (X : Type 0) (e : Ending) (old new : Option (List ℕ)) (status : ℕ) → EndsOpening {X = X} (Err e) → EndPrinted e old new (Ok status) → (status ≡ 4) ⊎ (status ≡ 8)
end_status X (ending.Says text s) old new status ends printed = rw printed.1 ends
end_status X ending.ReadFault old new status ends printed = absurd printed
end_status X ending.NoMemory old new status ends printed = absurd printed
