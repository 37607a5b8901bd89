-- What words mean, of some words and at most. Source: this project's own.
use Rattle.std.specs.Prelude.{◌≡◌, ◌<◌, IfSome, IsSome, true, false, ℕ, List, [], ◌∷◌, ◌++◌, length, None, Some, All, Any, codes}
use Rattle.command_words.specs.declared.said.TheConstants.{DEFAULT_UNDO}
use Rattle.command_words.specs.Words.{IsInRange, Said, begins_with_dash, meaning}

-- neither an empty name nor one that begins with a dash
abbrev pub IsScriptName : List ℕ → Type 0
IsScriptName name = (0 < length name) × (begins_with_dash name ≡ false)

-- numbers in their ranges; no file's name that begins with a dash, and no empty one of a script; a generated list of
-- commands beside neither a script nor a book
abbrev pub IsProper : Said → Type 0
IsProper s = IsInRange s
    × IfSome s.script IsScriptName
    × All (λ book. begins_with_dash book ≡ false) s.books
    × (IsSome s.generate → (s.script ≡ None) × (s.books ≡ []))

-- words that mean something say what is proper
abbrev pub MeaningsAreProper : Type 0
MeaningsAreProper = (words : List (List ℕ)) (s : Said) → meaning words ≡ Some s → IsProper s

-- what words say that are all books
abbrev pub books_said : List (List ℕ) → Said
books_said books = record { undo_limit = DEFAULT_UNDO; strict = false; script = None; generate = None; books = books }

-- words of which none begins with a dash are books, in their order; a first `--` behind them is left out, and each word
-- behind that is a book too, where none of them begins with a dash
abbrev pub WordsAreBooks : Type 0
WordsAreBooks = (front back : List (List ℕ)) → All (λ word. begins_with_dash word ≡ false) front
    → (meaning front ≡ Some (books_said front))
    × (All (λ word. begins_with_dash word ≡ false) back → meaning (front ++ codes "--" ∷ back) ≡ Some (books_said (front ++ back)))
    × (Any (λ word. begins_with_dash word ≡ true) back → meaning (front ++ codes "--" ∷ back) ≡ None)
