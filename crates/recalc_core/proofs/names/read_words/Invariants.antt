use Rattle.std.proofs.Common.{◌≡◌, take}
use Rattle.recalc_core.specs.internal.Seen.{AreRead}
use Rattle.recalc_core.proofs.names.read_words.Given as goal

-- the names of the words so far are read
abbrev pub invariant-words : goal.invariant-words
invariant-words g l = record {
  read : AreRead (g.T.Trees.workbook l.fn.trees) (g.T.Trees.words l.fn.trees) l.sheet (take l.word-index l.words) l.names.items;
  leaves : g.T.Trees.workbook l.trees ≡ g.T.Trees.workbook l.fn.trees;
  words : g.T.Trees.words l.trees ≡ g.T.Trees.words l.fn.trees;
  reads : g.T.Trees.leaves l.fn.trees l.trees;
}
