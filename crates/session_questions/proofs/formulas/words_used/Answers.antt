use Rattle.std.proofs.Common.{◌∙◌, ap, map}
use Rattle.std.specs.List.{filter_map}
use Rattle.cell_addr.specs.Text.{capitals}
use Rattle.formula_tree.specs.Mentions.{word_of}
use Rattle.session_questions.proofs.UsedNames.{words-used}
use Rattle.session_questions.proofs.formulas.words_used.Goals as goal

pub returns : goal.returns
returns c t stands = c.in_ok-words.ensures ∙ ap (λ ms. map capitals (filter_map word_of ms)) (c.deref.ensures.value ∙ c.in_ok-mentions.ensures t stands) ∙ words-used t
