-- The words that a list of them keeps.
use Rattle.std.specs.Prelude.{ℕ, List, map}
use Rattle.folded_key.specs.Key.{text_of}
use Rattle.name_table.specs.declared.words.Words.{Words}

abbrev pub words_in : Words → List (List ℕ)
words_in words = map text_of words.spellings.keys
