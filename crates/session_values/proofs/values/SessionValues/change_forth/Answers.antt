use Rattle.std.proofs.Common.{◌∙◌, ap, option_map, subst, sym}
use Rattle.kept_book.specs.Kept.{change_of, line_of, name_change}
use Rattle.session_values.specs.Following.{words_in}
use Rattle.session_values.specs.Parts.{FollowsTurnIn}
use Rattle.session_values.specs.declared.naming.NameTurn.{NameTurn}
use Rattle.session_values.proofs.PartsFollowed.{cells_forth_ok, name_forth}
use Rattle.session_values.specs.Naming.{MarksTurn}
use Rattle.session_values.proofs.PartsMarked.{cells_marked_forth, however, name_marked_forth}
use Rattle.session_values.proofs.values.SessionValues.change_forth.Goals as goal

pub returns-in-Some-clause-follows : goal.returns-in-Some-clause-follows
returns-in-Some-clause-follows c =
    let s = c.args.session.now in
    let name = c.in-Some.name in
    name_forth (line_of s.book) (words_in s) (change_of c.args.part.now) (name_change name).0 name.before name.after (sym c.name_alone.ensures ∙ ap (option_map name_change) c.in-Some.is) c.args.self.now.values c.name_turned_in.new.self.values
    (subst (λ (t : NameTurn). FollowsTurnIn (name_change name).0 t (words_in s) c.args.self.now.values c.name_turned_in.new.self.values) c.turn_forth-turn.ensures c.name_turned_in.ensures.follows)

pub returns-in-None-clause-follows : goal.returns-in-None-clause-follows
returns-in-None-clause-follows c = cells_forth_ok c.touch_part.result (line_of c.args.session.now.book) (words_in c.args.session.now) (change_of c.args.part.now) c.args.self.now.values c.touch_part.new.self.values c.touch_part.ensures.touched c.touch_part.ensures.marked

pub returns-in-Some-clause-marks : goal.returns-in-Some-clause-marks
returns-in-Some-clause-marks c =
    let s = c.args.session.now in
    let name = c.in-Some.name in
    name_marked_forth s (change_of c.args.part.now) c.args.self.now.values c.name_turned_in.new.self.values (name_change name).0 name.before name.after (sym c.name_alone.ensures ∙ ap (option_map name_change) c.in-Some.is)
    (subst (λ (t : NameTurn). MarksTurn (name_change name).0 t s c.args.self.now.values c.name_turned_in.new.self.values) c.turn_forth-turn.ensures c.name_turned_in.ensures.marks)

pub returns-in-None-clause-marks : goal.returns-in-None-clause-marks
returns-in-None-clause-marks c =
    however c.touch_part.result
    (cells_marked_forth c.args.session.now (change_of c.args.part.now) c.args.self.now.values c.touch_part.new.self.values c.requires (sym c.name_alone.ensures ∙ ap (option_map name_change) c.in-None.is) c.touch_part.ensures.touched)
