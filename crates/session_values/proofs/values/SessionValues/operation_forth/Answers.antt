use Rattle.std.proofs.Common.{◌∙◌, sym, []}
use Rattle.std.proofs.lemmas.Bool.{false≢true}
use Rattle.kept_book.specs.Kept.{change_of, line_of}
use Rattle.kept_values.proofs.Following.{on_ok}
use Rattle.session_values.specs.Following.{words_in}
use Rattle.session_values.proofs.PartsFollowed.{lines_forth}
use Rattle.session_values.proofs.PartsMarked.{operation_marked_forth}
use Rattle.session_values.proofs.values.SessionValues.operation_forth.Goals as goal

pub returns-in-Lines-clause-follows : goal.returns-in-Lines-clause-follows
returns-in-Lines-clause-follows c =
    on_ok c.shift.result _ _
    (lines_forth (line_of c.args.session.now.book) (words_in c.args.session.now) (change_of c.args.part.now) c.args.s.now c.args.self.now.values c.shift.new.self.values c.requires.sound c.requires.operation
    c.in-Lines.sheet c.in-Lines.axis c.in-Lines.edit (sym c.form.ensures ∙ c.in-Lines.is)) c.shift.ensures.follows

pub sheet_forth-requires-clause-form : goal.sheet_forth-requires-clause-form
sheet_forth-requires-clause-form c = sym c.form.ensures ∙ c.in-Sheet.is

pub returns-in-Lines-clause-marks : goal.returns-in-Lines-clause-marks
returns-in-Lines-clause-marks c =
    on_ok c.shift.result _ _
    (operation_marked_forth c.args.session.now (change_of c.args.part.now) c.args.self.now.values c.shift.new.self.values c.args.s.now c.requires.operation [] (λ a h. absurd (false≢true h))) c.shift.ensures.marks

pub block_forth-requires-clause-form : goal.block_forth-requires-clause-form
block_forth-requires-clause-form c = sym c.form.ensures ∙ c.in-Cells.is
