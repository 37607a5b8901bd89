use Rattle.std.proofs.Common.{ap, refl, subst, sym}
use Rattle.kept_book.specs.declared.book.Book.{Book}
use Rattle.book_model.specs.Sound.{IsSound}
use Rattle.session_operations.specs.Seen.{state_of}
use Rattle.session_operations.proofs.Following.{follow_same}
use Rattle.session_operations.proofs.Turning.{forgotten_sound}
use Rattle.session_operations.proofs.parts.Parts.clear_history.Goals as goal

pub returns-clause-fits : goal.returns-clause-fits
returns-clause-fits c = subst IsSound (sym c.forget_steps.ensures.state) (forgotten_sound (state_of c.args.self.now) c.requires)

pub returns-clause-line : goal.returns-clause-line
returns-clause-line c = ap (λ (b : Book). b.lazy.line) c.forget_steps.ensures.book

pub returns-clause-follow : goal.returns-clause-follow
returns-clause-follow c = follow_same c.args.self.now (record { session = c.forget_steps.new.self; values = c.args.self.now.values }) c.forget_steps.ensures.book refl
