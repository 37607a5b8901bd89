use Rattle.std.proofs.Common.{◌≡◌, ◌++◌, drop, map}
use Rattle.std.specs.List.{filter_map}
use Rattle.cell_addr.specs.Text.{capitals}
use Rattle.formula_tree.specs.Mentions.{word_of}
use Rattle.session_questions.proofs.formulas.raised_words.Given as goal

abbrev pub invariant-mentions : goal.invariant-mentions
invariant-mentions l = l.words.items ++ map capitals (filter_map word_of (drop l.mention-index l.mentions)) ≡ map capitals (filter_map word_of l.mentions)
