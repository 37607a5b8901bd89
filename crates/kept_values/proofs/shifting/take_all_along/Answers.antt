use Rattle.std.proofs.Common.{◌∙◌, refl, sym, subst, get_or, take, List}
use Rattle.std.proofs.lemmas.List.{take_all, take_more}
use Rattle.dep_graph.specs.declared.node.Node.{Node}
use Rattle.dep_graph.specs.declared.node.Node.TheVariants.{Cell}
use Rattle.recalc_core.specs.Recalc.{marks_in}
use Rattle.kept_values.specs.internal.TakenAlong.{AddsTaken}
use Rattle.kept_values.proofs.TakenAlong.{takes_more, takes_none}
use Rattle.kept_values.proofs.shifting.take_all_along.Goals as goal

pub nodes-init : goal.nodes-init
nodes-init c = record {
  taken = takes_none c.args.s.now (marks_in c.args.recalc.now);
  kept = refl;
}

pub nodes-preserved : goal.nodes-preserved
nodes-preserved c =
    let s = c.args.s.now in
    let nodes = c.args.nodes.now in
    let i = c.nodes.node-index in
    let d : Node = Cell (record { sheet = 0; row = 0; col = 0 }) in
    let x : Node = get_or nodes i d in
    record {
      taken = subst (λ (ns : List Node). AddsTaken s ns (marks_in c.args.recalc.now) (marks_in c.take_along.new.recalc)) (sym (take_more nodes i d c.nodes-test.true))
          (takes_more s (take i nodes) (marks_in c.args.recalc.now) (marks_in c.nodes.recalc) (marks_in c.take_along.new.recalc) x c.nodes.invariant.taken c.in_ok-take_along.ensures.taken);
      kept = c.take_along.ensures.kept ∙ c.nodes.invariant.kept;
    }

pub returns-in_err-take_along-clause-kept : goal.returns-in_err-take_along-clause-kept
returns-in_err-take_along-clause-kept c = c.take_along.ensures.kept ∙ c.nodes.invariant.kept

pub returns-clause-taken : goal.returns-clause-taken
returns-clause-taken c =
    subst (λ (ns : List Node). AddsTaken c.args.s.now ns (marks_in c.args.recalc.now) (marks_in c.nodes.recalc)) (take_all c.nodes.node-index c.args.nodes.now c.nodes-test.false) c.nodes.invariant.taken
