-- What a run prints and its status. Source: this project's own.
use Rattle.std.specs.Prelude.{ℕ, List, ◌++◌, Result, Ok, Err, codes}
use Rattle.script_lang.specs.Lines.{line_of}
use Rattle.run_inputs.specs.declared.ending.TheConstants.{TOO_LONG}

-- the bytes that a run prints, and its status
abbrev pub Outcome : Type 0
Outcome = List ℕ × ℕ

-- a run prints this line, and has this status
abbrev pub ended : ℕ → List ℕ → Outcome
ended status text = (line_of text, status)

-- these bytes, and then the rest of the run
abbrev pub followed_by : List ℕ → Outcome → Outcome
followed_by bytes rest = (bytes ++ rest.0, rest.1)

-- a part of a run comes to something, with which the rest goes on, or is the run's end
abbrev pub or_end : {X : Type 0} → Result X Outcome → (X → Outcome) → Outcome
or_end (Ok x) rest = rest x
or_end (Err end) rest = end

-- a part of a run, and then the next one, unless it is the run's end
abbrev pub and_then : {X Y : Type 0} → Result X Outcome → (X → Result Y Outcome) → Result Y Outcome
and_then (Ok x) next = next x
and_then (Err end) next = Err end

-- a run that is told more than it may be
abbrev pub too_long : Outcome
too_long = ended TOO_LONG (codes "input too long")
