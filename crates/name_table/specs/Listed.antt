-- The list of sheets that a table of names keeps. Source: this project's own.
use Rattle.std.specs.Prelude.{ℕ, List}
use Rattle.name_table.specs.declared.names.Names.{Names}

-- the sheets by number and name, in the order of the list
abbrev pub listed : Names → List (ℕ × List ℕ)
listed names = names.sheets.entries
