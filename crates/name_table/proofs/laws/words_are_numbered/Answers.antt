use Rattle.std.proofs.Common.{◌∙◌, sym}
use Rattle.cell_addr.specs.Text.{folded}
use Rattle.name_table.proofs.WordNumbers.{number-folded, number-spelled, spelled-number}
use Rattle.name_table.proofs.laws.words_are_numbered.Goals as goal

pub returns : goal.returns
returns c = λ words text number proper. (
  λ found. number-spelled words text number proper found,
  λ there. sym (number-folded words text) ∙ spelled-number words (folded text) number proper there,
)
