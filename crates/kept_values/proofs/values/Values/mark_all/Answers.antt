use Rattle.std.proofs.Common.{◌∙◌}
use Rattle.dep_graph.specs.declared.node.Node.{Node}
use Rattle.dep_graph.specs.declared.node.Node.TheVariants.{Cell}
use Rattle.recalc_core.proofs.Recalculated.{on_err}
use Rattle.kept_values.specs.Values.{AreMarked, marks_in, unlinked_in}
use Rattle.kept_values.proofs.LinkedAnew.{marked_front, marked_on}
use Rattle.kept_values.proofs.values.Values.mark_all.Goals as goal

pub returns-in_err-mark-clause-err : goal.returns-in_err-mark-clause-err
returns-in_err-mark-clause-err c =
    let old = marks_in c.args.self.now in
    let new = marks_in c.mark.new.self in
    on_err c.from_residual.result (AreMarked c.args.nodes.now old new)
    (marked_front c.args.nodes.now old (marks_in c.nodes.self) new c.nodes.node-index c.nodes.invariant.marked c.in_err-mark.ensures.err)

pub returns-in_err-mark-clause-unlinked_err : goal.returns-in_err-mark-clause-unlinked_err
returns-in_err-mark-clause-unlinked_err c =
    let old = unlinked_in c.args.self.now in
    let new = unlinked_in c.mark.new.self in
    on_err c.from_residual.result (AreMarked c.args.nodes.now old new)
    (marked_front c.args.nodes.now old (unlinked_in c.nodes.self) new c.nodes.node-index c.nodes.invariant.unlinked c.in_err-mark.ensures.unlinked_err)

pub returns-in_err-mark-clause-kept : goal.returns-in_err-mark-clause-kept
returns-in_err-mark-clause-kept c = c.mark.ensures.kept ∙ c.nodes.invariant.kept

pub nodes-preserved : goal.nodes-preserved
nodes-preserved c =
    let d : Node = Cell (record { sheet = 0; row = 0; col = 0 }) in
    record {
      marked = marked_on c.args.nodes.now (marks_in c.args.self.now) (marks_in c.nodes.self) (marks_in c.mark.new.self) c.nodes.node-index d c.nodes-test.true c.nodes.invariant.marked c.in_ok-mark.ensures.ok;
      unlinked = marked_on c.args.nodes.now (unlinked_in c.args.self.now) (unlinked_in c.nodes.self) (unlinked_in c.mark.new.self) c.nodes.node-index d c.nodes-test.true c.nodes.invariant.unlinked c.in_ok-mark.ensures.unlinked;
      links = c.mark.ensures.links ∙ c.nodes.invariant.links;
      asking = c.mark.ensures.asking ∙ c.nodes.invariant.asking;
      losing = c.mark.ensures.losing ∙ c.nodes.invariant.losing;
      seeking = c.mark.ensures.seeking ∙ c.nodes.invariant.seeking;
      kept = c.mark.ensures.kept ∙ c.nodes.invariant.kept;
    }
