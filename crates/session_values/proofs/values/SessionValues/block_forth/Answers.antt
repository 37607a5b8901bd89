use Rattle.std.proofs.Common.{subst, sym, [], Option}
use Rattle.std.specs.Prelude.{IfSome}
use Rattle.dep_graph.specs.Nodes.{items_of}
use Rattle.dep_graph.specs.declared.nodes.Nodes.{Nodes}
use Rattle.kept_book.specs.Kept.{change_of, line_of}
use Rattle.kept_values.proofs.Following.{on_ok}
use Rattle.session_values.specs.Following.{words_in}
use Rattle.session_values.specs.internal.Listed.{AreAdded, is_moved_node}
use Rattle.session_values.proofs.MovedNodes.{all_pass}
use Rattle.session_values.proofs.PartsFollowed.{block_forth}
use Rattle.session_values.proofs.PartsMarked.{operation_marked_forth}
use Rattle.session_values.proofs.values.SessionValues.block_forth.Goals as goal

pub returns-clause-follows : goal.returns-clause-follows
returns-clause-follows c =
    let there = subst (λ (o : Option Nodes). IfSome o (λ nodes. AreAdded (is_moved_node c.args.source c.args.to) [] (items_of nodes))) c.in-Some.is c.in_ok-moved.ensures in
    let are = subst (AreAdded (is_moved_node c.args.source c.args.to) []) (sym c.items.ensures) there in
    on_ok c.shift.result _ _
    (block_forth (line_of c.args.session.now.book) (words_in c.args.session.now) (change_of c.args.part.now) c.args.s.now c.args.self.now.values c.shift.new.self.values c.requires.sound c.requires.operation
    c.args.source c.args.to c.items.result.now c.requires.form are) c.shift.ensures.follows

pub returns-clause-marks : goal.returns-clause-marks
returns-clause-marks c =
    let there = subst (λ (o : Option Nodes). IfSome o (λ nodes. AreAdded (is_moved_node c.args.source c.args.to) [] (items_of nodes))) c.in-Some.is c.in_ok-moved.ensures in
    let are = subst (AreAdded (is_moved_node c.args.source c.args.to) []) (sym c.items.ensures) there in
    on_ok c.shift.result _ _
    (operation_marked_forth c.args.session.now (change_of c.args.part.now) c.args.self.now.values c.shift.new.self.values c.args.s.now c.requires.operation c.items.result.now
    (all_pass c.args.source c.args.to c.items.result.now are c.args.s.now c.requires.form)) c.shift.ensures.marks
