-- What was found, by its parts.
use Rattle.std.specs.Prelude.{ℕ, Bool, List, Option, map}
use Rattle.std.specs.Borrow.{Bor}
use Rattle.command_words.specs.Words.{Given}

-- the texts behind references
abbrev pub texts : List (Bor (List ℕ)) → List (List ℕ)
texts = map (λ s. s.now)

abbrev pub given : Option (List ℕ) → Bool → Option (List ℕ) → Option (List ℕ) → List (List ℕ) → Given
given undo_limit strict script generate books = record { undo_limit = undo_limit; strict = strict; script = script; generate = generate; books = books }
