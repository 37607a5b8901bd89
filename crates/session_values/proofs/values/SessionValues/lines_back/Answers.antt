use Rattle.std.proofs.Common.{◌∙◌, ap, refl, subst, map, List, [], ◌∷◌}
use Rattle.std.specs.Prelude.{IsTrue}
use Rattle.dep_graph.specs.Nodes.{has}
use Rattle.dep_graph.specs.declared.node.Node.{Node}
use Rattle.kept_book.specs.Kept.{change_of, line_of}
use Rattle.kept_values.proofs.Following.{on_ok}
use Rattle.kept_values.specs.Shifted.{may_touch}
use Rattle.session_values.specs.Following.{words_in}
use Rattle.session_values.specs.internal.Listed.{cell_node}
use Rattle.session_values.proofs.PartsFollowed.{lines_back}
use Rattle.session_values.proofs.Listed.{replaced_only}
use Rattle.session_values.proofs.PartsMarked.{nothing_listed, nothing_marked_back, operation_marked_back}
use Rattle.session_values.proofs.values.SessionValues.lines_back.Goals as goal

pub returns-clause-follows : goal.returns-clause-follows
returns-clause-follows c =
    on_ok c.take_back.result _ _
    (lines_back (line_of c.args.session.now.book) (words_in c.args.session.now) (change_of c.args.part.now) c.args.s.now c.args.self.now.values c.take_back.new.self.values c.requires.sound c.requires.operation c.in-Some.back c.items-2.result.now
    c.in-Some.ensures.opposite c.in-Some.ensures.lines (c.items-2.ensures ∙ c.in_ok-removed.ensures ∙ ap (map cell_node) c.items.ensures)) c.take_back.ensures.follows

pub returns-clause-marks : goal.returns-clause-marks
returns-clause-marks c =
    on_ok c.take_back.result _ _
    (operation_marked_back c.args.session.now (change_of c.args.part.now) c.args.self.now.values c.take_back.new.self.values c.args.s.now c.requires.operation c.in-Some.back [] c.items-2.result.now c.in-Some.ensures.opposite
    (nothing_listed (may_touch c.in-Some.back))
    (λ a h. replaced_only (change_of c.args.part.now ∷ []) (change_of c.args.part.now).replaced refl a
    (subst (λ (ns : List Node). IsTrue (has a ns)) (c.items-2.ensures ∙ c.in_ok-removed.ensures ∙ ap (map cell_node) c.items.ensures) h))) c.take_back.ensures.marks

pub returns-in_default-clause-marks : goal.returns-in_default-clause-marks
returns-in_default-clause-marks c = nothing_marked_back c.args.session.now (change_of c.args.part.now) c.args.self.now.values c.forget.new.self.values c.forget.ensures
