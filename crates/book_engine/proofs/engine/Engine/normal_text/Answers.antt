use Rattle.std.proofs.Common.{ap}
use Rattle.kept_book.specs.declared.book.Book.{Book}
use Rattle.book_engine.proofs.KeptLine.{line_kept}
use Rattle.book_engine.proofs.engine.Engine.normal_text.Goals as goal

pub invariant_of-self : goal.invariant_of-self
invariant_of-self g c = record { fits = c.normal_text.ensures.fits; follow = c.normal_text.ensures.follow (g.C.Customs.customs c.args.self.now.customs) c.args.self.now.day c.args.self.now.follow }

pub returns-clause-line : goal.returns-clause-line
returns-clause-line g c = line_kept c.args.self.now.parts.session.book.lazy.line c.normal_text.new.parts.session.book.lazy.line (ap (λ (b : Book). b.lazy.line) c.normal_text.ensures.book)
