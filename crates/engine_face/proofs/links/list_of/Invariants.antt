use Rattle.std.proofs.Common.{◌≡◌, ◌++◌, length}
use Rattle.engine_face.specs.Links.{link_rows, link_words}
use Rattle.engine_face.proofs.links.list_of.Given as goal

abbrev pub invariant-links : goal.invariant-links
invariant-links l = record {
  rows : l.rows.items ++ link_rows (length l.words.items) l.rest ≡ link_rows 0 l.links;
  words : l.words.items ++ link_words l.rest ≡ link_words l.links;
}

abbrev pub decreases-links : goal.decreases-links
decreases-links l = length l.rest
