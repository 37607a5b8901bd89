-- The words so far were copied.
use Rattle.std.proofs.Common.{◌≡◌, ◌++◌, drop}
use Rattle.command_words.specs.internal.Found.{texts}
use Rattle.command_words.proofs.reading.copies.Given as goal

abbrev pub invariant-words : goal.invariant-words
invariant-words l = l.copies.items ++ texts (drop l.word-index l.words) ≡ texts l.words
