use Rattle.std.proofs.Common.{◌≡◌, ◌∙◌, ap, map, refl, subst, sym, [], ◌∷◌, List, Option, Some}
use Rattle.std.specs.Prelude.{IfSome, IsTrue}
use Rattle.shift_core.specs.Opposite.{opposite_of}
use Rattle.shift_core.specs.Sound.{IsSoundForm}
use Rattle.dep_graph.specs.Nodes.{has, items_of}
use Rattle.dep_graph.specs.declared.node.Node.{Node}
use Rattle.dep_graph.specs.declared.nodes.Nodes.{Nodes}
use Rattle.kept_book.specs.Kept.{change_of, line_of}
use Rattle.kept_values.proofs.Following.{on_ok}
use Rattle.session_values.specs.Following.{words_in}
use Rattle.session_values.specs.internal.Listed.{AreAdded, cell_node, is_moved_node}
use Rattle.session_values.proofs.Listed.{replaced_only}
use Rattle.session_values.proofs.MovedNodes.{all_pass_back}
use Rattle.session_values.proofs.PartsFollowed.{block_back}
use Rattle.session_values.proofs.PartsMarked.{nothing_marked_back, operation_marked_back}
use Rattle.session_values.proofs.values.SessionValues.block_back.Goals as goal

pub returns-in_default-clause-marks : goal.returns-in_default-clause-marks
returns-in_default-clause-marks c = nothing_marked_back c.args.session.now (change_of c.args.part.now) c.args.self.now.values c.forget.new.self.values c.forget.ensures

pub returns-clause-follows : goal.returns-clause-follows
returns-clause-follows c =
    let opposite : opposite_of c.args.s.now ≡ Some c.in-Some-Some.back = sym c.in-Some-Some.ensures in
    let inside = (subst IsSoundForm c.requires.form c.requires.sound).0 in
    let there = subst (λ (o : Option Nodes). IfSome o (λ nodes. AreAdded (is_moved_node c.args.source c.args.to) [] (items_of nodes))) c.in-Some-Some.is-1 c.in_ok-moved.ensures in
    let are = subst (AreAdded (is_moved_node c.args.source c.args.to) []) (sym c.items-2.ensures) there in
    let listed = c.items-3.ensures ∙ c.in_ok-removed.ensures ∙ ap (map cell_node) c.items.ensures in
    on_ok c.take_back.result _ _
    (block_back (line_of c.args.session.now.book) (words_in c.args.session.now) (change_of c.args.part.now) c.args.s.now c.args.self.now.values c.take_back.new.self.values c.requires.sound c.requires.operation
    c.in-Some-Some.back c.args.source c.args.to c.items-2.result.now c.items-3.result.now c.requires.form opposite inside are listed) c.take_back.ensures.follows

pub returns-clause-marks : goal.returns-clause-marks
returns-clause-marks c =
    let opposite : opposite_of c.args.s.now ≡ Some c.in-Some-Some.back = sym c.in-Some-Some.ensures in
    let inside = (subst IsSoundForm c.requires.form c.requires.sound).0 in
    let there = subst (λ (o : Option Nodes). IfSome o (λ nodes. AreAdded (is_moved_node c.args.source c.args.to) [] (items_of nodes))) c.in-Some-Some.is-1 c.in_ok-moved.ensures in
    let are = subst (AreAdded (is_moved_node c.args.source c.args.to) []) (sym c.items-2.ensures) there in
    let listed = c.items-3.ensures ∙ c.in_ok-removed.ensures ∙ ap (map cell_node) c.items.ensures in
    on_ok c.take_back.result _ _
    (operation_marked_back c.args.session.now (change_of c.args.part.now) c.args.self.now.values c.take_back.new.self.values c.args.s.now c.requires.operation c.in-Some-Some.back c.items-2.result.now c.items-3.result.now opposite
    (all_pass_back c.args.source c.args.to c.items-2.result.now are c.args.s.now c.in-Some-Some.back c.requires.form opposite inside)
    (λ a h. replaced_only (change_of c.args.part.now ∷ []) (change_of c.args.part.now).replaced refl a (subst (λ (ns : List Node). IsTrue (has a ns)) listed h))) c.take_back.ensures.marks
