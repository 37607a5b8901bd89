use Rattle.indexmap.specs.IndexMap.{index_map_len}
use Rattle.kept_values.proofs.UnderWords.{IsMoving}
use Rattle.kept_values.proofs.sought.move_words.Given as goal

-- under each word all is moved, or all is left
abbrev pub invariant-words : goal.invariant-words
invariant-words l = IsMoving l.s l.fn.sought l.left l.sought

abbrev pub decreases-words : goal.decreases-words
decreases-words l = index_map_len l.left
