use Rattle.std.proofs.Common.{◌∙◌, sym, ap}
use Rattle.formula_tree.specs.Reference.{sheet_of}
use Rattle.formula_tree.specs.Relative.{relative}
use Rattle.formula_tree.specs.StandsFor.{at_home}
use Rattle.formula_tree.specs.declared.reference.Home.{Home}
use Rattle.book_values.specs.Workbook.{Workbook}
use Rattle.dep_graph.specs.Nodes.{has}
use Rattle.restored_values.specs.Suspects.{has_lost}
use Rattle.restored_values.proofs.LostLinks.{lost_anywhere}
use Rattle.kept_values.specs.Sought.{noted_under}
use Rattle.kept_values.specs.Values.{seeks, seeks_at}
use Rattle.kept_values.proofs.Following.{on_ok}
use Rattle.kept_values.proofs.Noted.{formula_noted}
use Rattle.kept_values.proofs.noting.note.Goals as goal

pub returns-in-Formula-clause-loses : goal.returns-in-Formula-clause-loses
returns-in-Formula-clause-loses g c =
    let tree = c.in-Formula.tree in
    let home = c.in-Formula.home in
    on_ok c.note_sought.result _ _
    (λ last.
    formula_noted (λ x. has_lost) (g.T.Trees.workbook c.args.trees.now) (g.T.Trees.words c.args.trees.now) (λ b. has b c.add_if-in-Formula.new.nodes.keys) c.args.a tree home c.in_ok-tree.field-0 c.in_ok-tree.ensures.given c.in-Formula.is
    (λ x here lost. c.in_ok-add_if-in-Formula-2.ensures.there (c.has_lost.ensures ∙ sym (lost_anywhere home (relative tree.value)) ∙ lost)))
    c.note_sought.ensures.seeks

pub returns-in-Formula-clause-seeks : goal.returns-in-Formula-clause-seeks
returns-in-Formula-clause-seeks g c =
    let b = g.T.Trees.workbook c.args.trees.now in
    let tree = c.in-Formula.tree in
    let home = c.in-Formula.home in
    on_ok c.note_sought.result _ _
    (λ notes word.
    formula_noted (seeks_at b word) b (g.T.Trees.words c.args.trees.now) (noted_under c.note_sought.new.sought word) c.args.a tree home c.in_ok-tree.field-0 c.in_ok-tree.ensures.given c.in-Formula.is
    (λ x here seek. notes word (ap (λ (w : Workbook). seeks w.names (sheet_of home) word (at_home home (relative tree.value))) c.given.ensures.leaves ∙ ap (λ (h : Home). seeks b.names (sheet_of h) word (at_home home (relative tree.value))) here ∙ seek)))
    c.note_sought.ensures.seeks
