use Rattle.book_model.proofs.LinksInside.{dependents_inside, precedents_inside}
use Rattle.book_model.proofs.laws.links_are_inside.Goals as goal

pub returns : goal.returns
returns c = λ d at sound. (precedents_inside d at sound, dependents_inside d at sound)
