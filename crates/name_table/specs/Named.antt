-- What a table of names stands for beside its list of sheets. Source: this project's own.
use Rattle.std.specs.Prelude.{◌≡◌, ℕ, List}
use Rattle.std.specs.FinMap as fin
use Rattle.name_table.specs.Listed.{listed}
use Rattle.name_table.specs.Scopes.{NameMap}
use Rattle.name_table.specs.declared.list.NameList.{NameList}
use Rattle.name_table.specs.declared.names.Names.{Names}
use Rattle.name_table.specs.internal.WordList.{words_in}

-- the words, in small letters, each at the place that numbers it
abbrev pub words_of : Names → List (List ℕ)
words_of names = words_in names.words

-- the named expressions: the holder of each scope and word
abbrev pub names_of : Names → NameMap
names_of names = fin.from_entries names.holders.entries

-- the list of sheets is as it was
abbrev pub KeepsSheets : Names → Names → Type 0
KeepsSheets old new = listed new ≡ listed old

-- words and named expressions are as they were
abbrev pub KeepsNames : Names → Names → Type 0
KeepsNames old new = (words_of new ≡ words_of old) × (names_of new ≡ names_of old)

-- the pairs of a list
abbrev pub items_of : NameList → List (ℕ × ℕ)
items_of list = list.pairs.items
