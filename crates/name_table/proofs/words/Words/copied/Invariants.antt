use Rattle.std.proofs.Common.{◌≡◌, ◌++◌, map}
use Rattle.folded_key.specs.Key.{text_of}
use Rattle.name_table.specs.internal.WordList.{words_in}
use Rattle.name_table.proofs.words.Words.copied.Given as goal

-- the words gone by are in the copy
abbrev pub invariant-words : goal.invariant-words
invariant-words l = words_in l.copy ++ map text_of l.spelling-iterator ≡ words_in l.self
