-- What was counted of answers, and what is left to count.
use Rattle.std.specs.Prelude.{◌≡◌, ◌+◌, ◌++◌, ℕ, Bool, true, false, List, length, filter, codes}
use Rattle.std.specs.Fmt.{decimal}
use Rattle.script_lang.specs.Lines.{line_of}
use Rattle.sheet_cli.specs.Answering.{Answered, bytes_of}
use Rattle.sheet_cli.specs.declared.answering.Tally.{Tally}

-- one more answer
abbrev pub one_if : Bool → ℕ
one_if true = 1
one_if false = 0

abbrev pub Adds : List ℕ → Bool → Tally → Tally → Type 0
Adds line refused old new = (new.commands ≡ old.commands + 1) × (new.refused ≡ old.refused + one_if refused) × (new.bytes ≡ old.bytes + length line)

-- the lines of a tally
abbrev pub summary_of : Tally → List ℕ
summary_of t =
    line_of (codes "commands " ++ decimal t.commands)
    ++ line_of (codes "refused " ++ decimal t.refused)
    ++ line_of (codes "bytes " ++ decimal t.bytes)

-- a tally and the answers that it doesn't count yet are all answers
abbrev pub Completes : Tally → List Answered → List Answered → Type 0
Completes t rest all =
    (t.commands + length rest ≡ length all)
    × (t.refused + length (filter (λ a. a.refused) rest) ≡ length (filter (λ a. a.refused) all))
    × (t.bytes + bytes_of rest ≡ bytes_of all)
