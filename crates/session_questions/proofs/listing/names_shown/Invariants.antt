use Rattle.std.proofs.Common.{◌≡◌, take}
use Rattle.std.specs.BTreeSet.{contains}
use Rattle.std.specs.List.{list_any}
use Rattle.name_table.specs.Named.{words_of}
use Rattle.session_questions.specs.declared.shown_name.ShownName.{ShownName}
use Rattle.session_questions.specs.internal.Listing.{is_listed_as}
use Rattle.session_questions.specs.internal.Names.{shown_cmp}
use Rattle.session_questions.proofs.listing.names_shown.Given as goal

-- the names gone by
abbrev pub invariant-keys : goal.invariant-keys
invariant-keys l = (q : ShownName) → contains shown_cmp l.shown q ≡ list_any (is_listed_as (words_of l.names) q) (take l.key-index l.keys)
