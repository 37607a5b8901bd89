use Rattle.std.proofs.Common.{◌∙◌, ap}
use Rattle.shift_line.specs.Track.{shift_at}
use Rattle.kept_book.specs.Change.{shift_of}
use Rattle.kept_book.specs.Kept.{change_of}
use Rattle.kept_steps.proofs.Operating.{shift-sound}
use Rattle.kept_steps.proofs.session.Session.operation_in.Goals as goal

pub returns-clause-sound : goal.returns-clause-sound
returns-clause-sound c =
    let part = change_of c.args.part.now in
    shift-sound c.args.self.now.book part c.shift_of.result (c.shift_of.ensures ∙ ap (λ l. shift_of (shift_at l) part) c.line.ensures)
