use Rattle.std.proofs.Common.{subst, List}
use Rattle.kept_book.specs.Change.{Change}
use Rattle.kept_book.specs.Kept.{line_of}
use Rattle.kept_steps.specs.Turned.{to_redo}
use Rattle.session_values.specs.Following.{words_in}
use Rattle.session_values.specs.Parts.{FollowsPartsForth, MarksPartsForth}
use Rattle.session_operations.proofs.Following.{follow_none}
use Rattle.session_operations.proofs.PartsStepped.{follow_parts_forth}
use Rattle.session_operations.proofs.parts.Parts.parts_forth.Goals as goal

pub returns-in-Ok-clause-follow : goal.returns-in-Ok-clause-follow
returns-in-Ok-clause-follow c =
    let old = c.args.self.now in
    follow_parts_forth (to_redo old.session) old (record { session = c.redo.new.self; values = c.parts_turned_forth.new.self }) c.redo.ensures.words c.in-Ok.ensures.parts
    (subst (λ (cs : List Change). FollowsPartsForth (line_of old.session.book) (words_in old.session) cs old.values.values c.parts_turned_forth.new.self.values) c.parts_redone.ensures c.parts_turned_forth.ensures.follows)

pub returns-in-Err-clause-follow : goal.returns-in-Err-clause-follow
returns-in-Err-clause-follow c = follow_none c.args.self.now (record { session = c.redo.new.self; values = c.forget.new.self }) c.forget.ensures

pub returns-in-Ok-clause-marks : goal.returns-in-Ok-clause-marks
returns-in-Ok-clause-marks c = λ cells. absurd (c.requires.more cells)

pub returns-in-Err-clause-marks : goal.returns-in-Err-clause-marks
returns-in-Err-clause-marks c = λ cells. absurd (c.requires.more cells)

pub returns-in-Ok-clause-parts : goal.returns-in-Ok-clause-parts
returns-in-Ok-clause-parts c =
    let old = c.args.self.now in
    subst (λ (cs : List Change). MarksPartsForth old.session cs old.values.values c.parts_turned_forth.new.self.values) c.parts_redone.ensures c.parts_turned_forth.ensures.marks
