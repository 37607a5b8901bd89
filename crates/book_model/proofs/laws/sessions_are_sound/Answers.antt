use Rattle.book_model.proofs.GivenSheets.{given_sound}
use Rattle.book_model.proofs.SoundSteps.{next_sound}
use Rattle.book_model.proofs.laws.sessions_are_sound.Goals as goal

pub returns : goal.returns
returns c = ((λ limit customs today books most can. given_sound limit customs today books most can), (λ op d s. next_sound op d s))
