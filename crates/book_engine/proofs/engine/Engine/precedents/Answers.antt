use Rattle.book_engine.proofs.KeptLine.{line_kept}
use Rattle.book_engine.proofs.engine.Engine.precedents.Goals as goal

pub invariant_of-self : goal.invariant_of-self
invariant_of-self g c = record { fits = c.precedents.ensures.fits; follow = c.precedents.ensures.follow (g.C.Customs.customs c.args.self.now.customs) c.args.self.now.day c.args.self.now.follow }

pub returns-clause-line : goal.returns-clause-line
returns-clause-line g c = line_kept c.args.self.now.parts.session.book.lazy.line c.precedents.new.parts.session.book.lazy.line c.precedents.ensures.line
