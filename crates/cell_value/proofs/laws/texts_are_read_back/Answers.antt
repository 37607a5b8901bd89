use Rattle.std.proofs.Common.{ap}
use Rattle.fix_num.proofs.PlainTexts.{number_of-text_of}
use Rattle.cell_value.specs.Scalar.{read_number}
use Rattle.cell_value.proofs.laws.texts_are_read_back.Goals as goal

pub returns-clause-numbers : goal.returns-clause-numbers
returns-clause-numbers c = λ number inside. ap read_number (number_of-text_of number inside)
