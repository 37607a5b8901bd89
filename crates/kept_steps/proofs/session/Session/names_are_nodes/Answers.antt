use Rattle.std.proofs.Common.{refl}
use Rattle.book_model.specs.Answers.{valued}
use Rattle.name_table.specs.Named.{names_of, words_of}
use Rattle.kept_book.specs.Kept.{at_of}
use Rattle.kept_steps.specs.Session.{state_of}
use Rattle.kept_steps.proofs.GivenNodes.{numbered}
use Rattle.kept_steps.proofs.session.Session.names_are_nodes.Goals as goal

pub returns : goal.returns
returns c =
    let b = c.args.self.now.book in
    numbered (at_of b) b.lazy.line.cursor (words_of b.names) b.names.words.proper (names_of b.names) c.args.self.now.fits.stand.names (valued (state_of c.args.self.now).book) refl
