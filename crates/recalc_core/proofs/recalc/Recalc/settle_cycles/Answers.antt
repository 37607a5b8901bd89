use Rattle.std.proofs.Common.{◌≡◌, ◌∙◌, sym, ap, subst, get_or, take, true, ◌+◌}
use Rattle.std.proofs.lemmas.List.{get_or_default}
use Rattle.dep_graph.specs.Nodes.{has}
use Rattle.dep_graph.specs.declared.node.Node.{Node}
use Rattle.dep_graph.specs.declared.node.Node.TheVariants.{Cell}
use Rattle.recalc_core.specs.Recalc.{kept_in, marks_in}
use Rattle.recalc_core.specs.declared.recalc.Recalc.{Recalc}
use Rattle.recalc_core.specs.internal.UnderWay.{AreCycles, DifferWithin}
use Rattle.recalc_core.proofs.UnderWay.{cycles_on, cycles_skip, within_more}
use Rattle.recalc_core.proofs.recalc.Recalc.settle_cycles.Goals as goal
use Rattle.recalc_core.proofs.recalc.Recalc.settle_cycles.Goals.{then-not-contains+in_ok-settle_cycle, else-not-contains}

pub returns-in_err-settle_cycle-clause-others : goal.returns-in_err-settle_cycle-clause-others
returns-in_err-settle_cycle-clause-others c =
    let nodes = c.args.nodes.now in
    let i = c.nodes.node-index in
    let a : Node = get_or nodes i (Cell (record { sheet = 0; row = 0; col = 0 })) in
    within_more nodes i a (kept_in c.args.self.now) (kept_in c.nodes.self) (kept_in c.settle_cycle.new.self) c.nodes-test.true (get_or_default nodes i _ a c.nodes-test.true) c.nodes.invariant.within c.settle_cycle.ensures.others

pub nodes-preserved : goal.nodes-preserved
nodes-preserved c =
    let nodes = c.args.nodes.now in
    let order = c.args.order.now in
    let i = c.nodes.node-index in
    let low = c.nodes-test.true in
    let a : Node = get_or nodes i (Cell (record { sheet = 0; row = 0; col = 0 })) in
    let is : a ≡ get_or nodes i a = get_or_default nodes i (Cell (record { sheet = 0; row = 0; col = 0 })) a low in
    let old = kept_in c.nodes.self in
    let start = kept_in c.args.self.now in
    elim c.if-not-contains.branch [
      | then-not-contains+in_ok-settle_cycle w ↦
          let new = kept_in w.settle_cycle.new.self in
          record {
            shows = subst (λ (r : Recalc). AreCycles (take (i + 1) nodes) order (kept_in r)) (sym w.self-is)
                (cycles_on nodes order i a old new low is c.nodes.invariant.shows w.settle_cycle.ensures.others w.in_ok-settle_cycle.ensures.shows);
            within = subst (λ (r : Recalc). DifferWithin nodes start (kept_in r)) (sym w.self-is) (within_more nodes i a start old new low is c.nodes.invariant.within w.settle_cycle.ensures.others);
            marks = ap marks_in w.self-is ∙ w.settle_cycle.ensures.marks ∙ c.nodes.invariant.marks;
          }
      | else-not-contains w ↦
          let ordered : has a order ≡ true = sym (c.in_ok-ordered.ensures a) ∙ sym c.contains.ensures ∙ w.if-not-contains.false in
          record {
            shows = subst (λ (r : Recalc). AreCycles (take (i + 1) nodes) order (kept_in r)) (sym w.self-is) (cycles_skip nodes order i a old low is ordered c.nodes.invariant.shows);
            within = subst (λ (r : Recalc). DifferWithin nodes start (kept_in r)) (sym w.self-is) c.nodes.invariant.within;
            marks = ap marks_in w.self-is ∙ c.nodes.invariant.marks;
          }
    ]
