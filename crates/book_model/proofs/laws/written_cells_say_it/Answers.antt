use Rattle.book_model.proofs.WrittenCells.{all_written}
use Rattle.book_model.proofs.laws.written_cells_say_it.Goals as goal

pub returns : goal.returns
returns c = λ given b at distinct. all_written b at given distinct
