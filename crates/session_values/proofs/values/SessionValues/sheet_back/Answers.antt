use Rattle.std.proofs.Common.{◌∙◌, ◌||◌, ap, length, map}
use Rattle.dep_graph.specs.Nodes.{has}
use Rattle.kept_book.specs.Kept.{change_of, line_of}
use Rattle.kept_values.proofs.Following.{on_ok}
use Rattle.session_values.specs.Following.{words_in}
use Rattle.session_values.specs.internal.Listed.{cell_node, is_name_below}
use Rattle.session_values.proofs.PartsFollowed.{is_drop, sheet_back}
use Rattle.session_values.proofs.PartsMarked.{below_return, nothing_marked_back, sheet_marked_back}
use Rattle.session_values.proofs.values.SessionValues.sheet_back.Goals as goal

pub returns-clause-follows : goal.returns-clause-follows
returns-clause-follows c =
    on_ok c.bring_back.result _ _
    (λ follows.
    sheet_back (line_of c.args.session.now.book) (words_in c.args.session.now) (change_of c.args.part.now) c.args.s.now c.args.self.now.values c.bring_back.new.self.values c.requires.sound c.requires.operation c.args.sheet c.requires.form
    c.if-sheet-eq-NO_SHEET.false c.items-2.result.now
    (λ a. ap (has a) c.items-2.ensures ∙ c.in_ok-nodes.ensures a ∙ ap (λ cells. is_name_below c.args.sheet (length (words_in c.args.session.now)) a || has a (map cell_node cells)) c.items.ensures) (follows c.args.sheet))
    c.bring_back.ensures.follows

pub returns-clause-marks : goal.returns-clause-marks
returns-clause-marks c =
    on_ok c.bring_back.result _ _
    (sheet_marked_back c.args.session.now (change_of c.args.part.now) c.args.self.now.values c.bring_back.new.self.values c.args.s.now c.requires.operation c.args.sheet c.items-2.result.now (is_drop c.args.s.now c.args.sheet c.requires.form)
    (below_return c.args.sheet (length (words_in c.args.session.now)) (change_of c.args.part.now) c.items-2.result.now
    (λ a. ap (has a) c.items-2.ensures ∙ c.in_ok-nodes.ensures a ∙ ap (λ cells. is_name_below c.args.sheet (length (words_in c.args.session.now)) a || has a (map cell_node cells)) c.items.ensures))) c.bring_back.ensures.marks

pub returns-then-sheet-eq-NO_SHEET-clause-marks : goal.returns-then-sheet-eq-NO_SHEET-clause-marks
returns-then-sheet-eq-NO_SHEET-clause-marks c = nothing_marked_back c.args.session.now (change_of c.args.part.now) c.args.self.now.values c.forget.new.self.values c.forget.ensures
