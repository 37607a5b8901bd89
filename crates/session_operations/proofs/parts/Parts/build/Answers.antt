use Rattle.std.proofs.Common.{sym, subst, [], pos}
use Rattle.book_model.proofs.GivenSheets.{given_sound}
use Rattle.book_model.specs.Given.{given_sheets}
use Rattle.book_model.specs.Sound.{IsSound}
use Rattle.session_operations.proofs.parts.Parts.build.Goals as goal

pub returns-clause-fits : goal.returns-clause-fits
returns-clause-fits c = subst IsSound (sym c.in_ok-build.ensures) (given_sound c.args.limit [] (pos 0) (given_sheets c.args.books.now) c.requires.limit c.requires.can)
