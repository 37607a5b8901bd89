use Rattle.std.proofs.Common.{◌≡◌, ◌++◌, length}
use Rattle.engine_face.specs.Lists.{name_rows, name_words}
use Rattle.engine_face.proofs.naming.entries_list.Given as goal

abbrev pub invariant-entries : goal.invariant-entries
invariant-entries l = record {
  rows : l.rows.items ++ name_rows (length l.words.items) l.rest ≡ name_rows 0 l.entries;
  words : l.words.items ++ name_words l.rest ≡ name_words l.entries;
}

abbrev pub decreases-entries : goal.decreases-entries
decreases-entries l = length l.rest
