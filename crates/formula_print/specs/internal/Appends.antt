-- What writing at the end of a text does.
use Rattle.std.specs.Prelude.{◌≡◌, ℕ, List, ◌++◌}

-- the new text is the old one followed by more, where more puts what was written in front of what follows
abbrev pub AppendsText : List ℕ → List ℕ → (List ℕ → List ℕ) → Type 0
AppendsText old new more = (rest : List ℕ) → new ++ rest ≡ old ++ more rest
