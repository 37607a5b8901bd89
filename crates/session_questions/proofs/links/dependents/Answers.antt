-- The links of a sound session stand within the limits of a sheet.
use Rattle.std.proofs.Common.{sym, subst}
use Rattle.std.specs.List.{All}
use Rattle.book_model.proofs.LinksInside.{dependents_inside}
use Rattle.book_model.specs.Sound.{IsLinkInside}
use Rattle.session_operations.specs.Seen.{state_of}
use Rattle.session_questions.proofs.links.dependents.Goals as goal

pub returns-clause-inside : goal.returns-clause-inside
returns-clause-inside c = subst (All IsLinkInside) (sym c.in_ok-links.ensures.links) (dependents_inside (state_of c.args.parts.now) c.args.at c.requires.fits)
