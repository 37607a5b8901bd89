-- What holds of the table of commands.
use Rattle.std.specs.Prelude.{◌≡◌, Some}
use Rattle.script_lang.specs.Words.{line, word_named}
use Rattle.script_lang.specs.declared.word.Word.{Word}

-- each word is found as it is written
abbrev pub WordsAreNamed : Type 0
WordsAreNamed = (w : Word) → word_named (line w).0 ≡ Some w
