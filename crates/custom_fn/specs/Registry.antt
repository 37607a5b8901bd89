-- The custom functions of a program: their names and rules, in the order in which they were added. Source: this
-- project's own.
use Rattle.std.specs.Prelude.{◌≡◌, not, ◌||◌, if◌then◌else◌, ℕ, List, map, find, Option, Some, None, is_some, Result, Ok, Err}
use Rattle.indexmap.specs.IndexMap.{values}
use Rattle.cell_addr.specs.Sheets.{same_name}
use Rattle.custom_fn.specs.declared.registry.Registry.{Registry}
use Rattle.custom_fn.specs.declared.registry.RegError.{RegError}
use Rattle.custom_fn.specs.declared.registry.RegError.TheVariants.{NameTaken, NameInvalid, NoMemory}
use Rattle.custom_fn.specs.declared.rule.Rule.{Rule}
use Rattle.custom_fn.specs.Custom.{name_of, rule_of}
use Rattle.cell_addr.specs.Word.{is_word}
use Rattle.custom_fn.specs.Word.{is_function_word}

-- the names and rules of the functions, in order
abbrev pub customs_of : {I : _} {D : _} {g : _} → Registry I D g → List (List ℕ × Rule)
customs_of r = map (λ c. (name_of c, rule_of c)) (values r.customs)

-- the function of this name, in some case of its letters
abbrev pub custom_named : List ℕ → List (List ℕ × Rule) → Option (List ℕ × Rule)
custom_named name customs = find (λ c. same_name c.0 name) customs

-- why a function of this name can't be added, if anything keeps it off
abbrev pub refusal_of : List (List ℕ × Rule) → List ℕ → Option RegError
refusal_of customs name =
    if not (is_word name) then Some NameInvalid
    else (if is_function_word name || is_some (custom_named name customs) then Some NameTaken
    else None)

-- an addition answers its refusal, and where there is none it succeeds unless memory is wanting
abbrev pub AnswersRefusal : Result (Unit {0}) RegError → Option RegError → Type 0
AnswersRefusal (Ok done) refusal = refusal ≡ None
AnswersRefusal (Err NoMemory) refusal = refusal ≡ None
AnswersRefusal (Err error) refusal = refusal ≡ Some error
