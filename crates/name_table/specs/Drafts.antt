-- What a draft of names stands for: the names and the list of sheets once it is in place. Source: this project's own.
use Rattle.std.specs.Prelude.{ℕ, ◌<◌, List, [], ◌∷◌, length, Option, option_map, unwrap_or}
use Rattle.std.specs.FinMap as fin
use Rattle.std.specs.List.{AllByRecursion}
use Rattle.name_table.specs.Named.{names_of}
use Rattle.name_table.specs.Scopes.{NameMap, with_holder}
use Rattle.name_table.specs.declared.draft.NameDraft.{NameDraft}
use Rattle.name_table.specs.declared.key.NameKey.{NameKey}
use Rattle.name_table.specs.declared.names.Names.{Names}
use Rattle.name_table.specs.internal.Fresh.{AddsNone}

-- the names with these changes; of two of one name the first counts
abbrev pub with_changes : List (NameKey × Option ℕ) → NameMap → NameMap
with_changes [] names = names
with_changes (e ∷ es) names = with_holder e.0 e.1 (with_changes es names)

-- the names once the draft is in place
abbrev pub names_drafted : NameDraft → NameMap → NameMap
names_drafted d names = with_changes d.names.entries names

-- the list of sheets once the draft is in place: the draft's, if it has one
abbrev pub sheets_drafted : NameDraft → List (ℕ × List ℕ) → List (ℕ × List ℕ)
sheets_drafted d sheets = unwrap_or (option_map (λ s. s.entries) d.sheets) sheets

-- the words of the changed names are known
abbrev pub HasKnownWords : List (List ℕ) → NameDraft → Type 0
HasKnownWords words d = AllByRecursion (λ e. e.0.word < length words) d.names.entries

-- each name that the draft gives a holder has one
abbrev pub IsReady : NameDraft → Names → Type 0
IsReady d names = AddsNone d.names (names_of names)

-- the names without these
abbrev pub without : List (NameKey × ℕ) → NameMap → NameMap
without [] names = names
without (e ∷ es) names = without es (fin.remove names e.0)
