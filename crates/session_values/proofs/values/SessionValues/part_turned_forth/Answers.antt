use Rattle.kept_book.specs.Kept.{change_of, line_of}
use Rattle.session_values.specs.Following.{words_in}
use Rattle.session_values.proofs.PartsFollowed.{nothing_forth}
use Rattle.session_values.proofs.PartsMarked.{nothing_marked_forth}
use Rattle.session_values.proofs.values.SessionValues.part_turned_forth.Goals as goal

pub returns-in-Err-clause-follows : goal.returns-in-Err-clause-follows
returns-in-Err-clause-follows c = nothing_forth (line_of c.args.session.now.book) (words_in c.args.session.now) (change_of c.args.part.now) c.args.self.now.values c.forget.new.self.values c.forget.ensures

pub returns-in-Err-clause-marks : goal.returns-in-Err-clause-marks
returns-in-Err-clause-marks c = nothing_marked_forth c.args.session.now (change_of c.args.part.now) c.args.self.now.values c.forget.new.self.values c.forget.ensures
