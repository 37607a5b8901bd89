use Rattle.book_engine.proofs.KeptLine.{line_kept}
use Rattle.book_engine.proofs.engine.Engine.try_formula.Goals as goal

pub returns-clause-line : goal.returns-clause-line
returns-clause-line g c = line_kept c.args.self.now.parts.session.book.lazy.line c.try_formula.new.self.session.book.lazy.line c.try_formula.ensures.line
