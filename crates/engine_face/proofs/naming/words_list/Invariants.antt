use Rattle.std.proofs.Common.{◌≡◌, ◌++◌, length}
use Rattle.engine_face.specs.Lists.{as_names, name_rows, name_words}
use Rattle.engine_face.proofs.naming.words_list.Given as goal

abbrev pub invariant-given : goal.invariant-given
invariant-given l = record {
  rows : l.rows.items ++ name_rows (length l.words.items) (as_names l.rest) ≡ name_rows 0 (as_names l.given);
  words : l.words.items ++ name_words (as_names l.rest) ≡ name_words (as_names l.given);
}

abbrev pub decreases-given : goal.decreases-given
decreases-given l = length l.rest
