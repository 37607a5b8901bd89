use Rattle.std.proofs.Common.{◌≡◌, ◌∙◌, ap, sym, subst, length, true}
use Rattle.shift_core.specs.declared.shift.Shift.{Shift}
use Rattle.kept_values.specs.Shifted.{may_touch}
use Rattle.dep_graph.specs.Nodes.{has}
use Rattle.kept_book.specs.Kept.{change_of, line_of}
use Rattle.kept_values.proofs.Following.{on_ok}
use Rattle.session_values.specs.Following.{words_in}
use Rattle.session_values.proofs.PartsFollowed.{is_drop, sheet_forth}
use Rattle.session_values.proofs.PartsMarked.{below_touched, nothing_marked_forth, operation_marked_forth}
use Rattle.session_values.proofs.values.SessionValues.sheet_forth.Goals as goal

pub returns-clause-follows : goal.returns-clause-follows
returns-clause-follows c =
    on_ok c.shift.result _ _
    (sheet_forth (line_of c.args.session.now.book) (words_in c.args.session.now) (change_of c.args.part.now) c.args.s.now c.args.self.now.values c.shift.new.self.values c.requires.sound c.requires.operation c.args.sheet c.requires.form c.if-sheet-eq-NO_SHEET.false
    c.items.result.now (λ a. ap (has a) c.items.ensures ∙ c.in_ok-names.ensures a)) c.shift.ensures.follows

pub returns-clause-marks : goal.returns-clause-marks
returns-clause-marks c =
    on_ok c.shift.result _ _
    (operation_marked_forth c.args.session.now (change_of c.args.part.now) c.args.self.now.values c.shift.new.self.values c.args.s.now c.requires.operation c.items.result.now
    (λ a h. subst (λ (x : Shift). may_touch x a ≡ true) (sym (is_drop c.args.s.now c.args.sheet c.requires.form))
    (below_touched c.args.sheet (length (words_in c.args.session.now)) a (sym (c.in_ok-names.ensures a) ∙ ap (has a) (sym c.items.ensures) ∙ h)))) c.shift.ensures.marks

pub returns-then-sheet-eq-NO_SHEET-clause-marks : goal.returns-then-sheet-eq-NO_SHEET-clause-marks
returns-then-sheet-eq-NO_SHEET-clause-marks c = nothing_marked_forth c.args.session.now (change_of c.args.part.now) c.args.self.now.values c.forget.new.self.values c.forget.ensures
