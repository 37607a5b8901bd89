-- Names of a table as links show them, and as they are listed.
use Rattle.std.specs.Prelude.{ℕ, Bool, List, option_map, slice_get, Option}
use Rattle.std.specs.Ordering.{eq_by_cmp}
use Rattle.cell_addr.specs.Text.{capitals}
use Rattle.name_table.specs.declared.key.NameKey.{NameKey}
use Rattle.session_questions.specs.declared.listing.NameEntry.{NameEntry}
use Rattle.session_questions.specs.declared.shown_name.ShownName.{ShownName}
use Rattle.session_questions.specs.internal.Names.{passes, shown_cmp}

-- a name of a table as links show it, if its word is known
abbrev pub shown_key : List (List ℕ) → NameKey → Option ShownName
shown_key words key = option_map (λ w. record { scope = key.scope; word = capitals w }) (slice_get words key.word)

-- tests whether it is shown so
abbrev pub is_listed_as : List (List ℕ) → ShownName → NameKey × ℕ → Bool
is_listed_as words q e = passes (λ n. eq_by_cmp shown_cmp n q) (shown_key words e.0)

-- and as it is listed
abbrev pub entry_shown : ShownName → NameEntry
entry_shown n = record { scope = n.scope; name = n.word }
