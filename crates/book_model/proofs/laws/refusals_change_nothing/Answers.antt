use Rattle.book_model.proofs.SoundSteps.{refused_same}
use Rattle.book_model.proofs.laws.refusals_change_nothing.Goals as goal

pub returns : goal.returns
returns c = λ op d r e. refused_same op d r e
