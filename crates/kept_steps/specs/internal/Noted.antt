-- What an operation leaves behind for undo.
use Rattle.std.specs.Prelude.{◌≡◌, ◌++◌, ◌<◌, ⊤, List, [], ◌∷◌, Option, Some, None, vec_len, vec_capacity}
use Rattle.undo_book.specs.History.{History, pushed}
use Rattle.kept_book.specs.Change.{Change}
use Rattle.kept_steps.specs.Fits.{changes_in}
use Rattle.kept_steps.specs.declared.entry.Entry.{Entry}

-- the steps as one of these changes is added
abbrev pub Adds : List Change → History Entry → History Entry → Type 0
Adds cs old new = (e : Entry) × (changes_in e ≡ cs) × (new.done ≡ (pushed e old).done) × (new.undone ≡ []) × (new.limit ≡ old.limit)

-- what an operation changed is a step, or the last part of the open batch's
abbrev pub Notes : Change → Option Entry → History Entry → Option Entry → History Entry → Type 0
Notes c None old batch new = (batch ≡ None) × Adds (c ∷ []) old new
Notes c (Some batch) old grown new =
    ((b : Entry) × (grown ≡ Some b) × (changes_in b ≡ changes_in batch ++ c ∷ []))
    × (new.done ≡ old.done) × (new.undone ≡ []) × (new.limit ≡ old.limit)

-- an open batch has room for what an operation changed
abbrev pub HasRoom : Option Entry → Type 0
HasRoom None = ⊤
HasRoom (Some batch) = vec_len batch.parts < vec_capacity batch.parts

-- the same open batch
abbrev pub SameBatch : Option Entry → Option Entry → Type 0
SameBatch None new = new ≡ None
SameBatch (Some old) new = (b : Entry) × (new ≡ Some b) × (b.parts.items ≡ old.parts.items)

-- the steps stay
abbrev pub SameSteps : History Entry → History Entry → Type 0
SameSteps old new = (new.done ≡ old.done) × (new.undone ≡ old.undone) × (new.limit ≡ old.limit)

-- a batch is closed: with changes it is a step
abbrev pub ClosesWith : List Change → History Entry → History Entry → Type 0
ClosesWith [] old new = SameSteps old new
ClosesWith (c ∷ cs) old new = Adds (c ∷ cs) old new

abbrev pub Closes : Option Entry → History Entry → History Entry → Type 0
Closes None old new = SameSteps old new
Closes (Some batch) old new = ClosesWith (changes_in batch) old new
