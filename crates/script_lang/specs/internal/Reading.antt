-- What the steps of reading a record answer.
use Rattle.std.specs.Prelude.{◌≡◌, ℕ, List, [], Result, Ok, Err}
use Rattle.std.specs.Option.{unwrap_or}
use Rattle.csv.specs.Records.{field_at}
use Rattle.script_lang.specs.Command.{Says}
use Rattle.script_lang.specs.declared.error.ScriptError.{ScriptError}

-- the field of this number, where the word has number 0 and the record has more fields than that
abbrev pub field : List (List ℕ) → ℕ → List ℕ
field fields k = unwrap_or (field_at fields k) []

-- what is left where a reading went well is what is said; else the cause is
abbrev pub Leaves : {T X : Type 0} → Result T ScriptError → X → Result X ScriptError → Type 0
Leaves (Ok t) left said = said ≡ Ok left
Leaves (Err e) left said = Says (Err e) said
