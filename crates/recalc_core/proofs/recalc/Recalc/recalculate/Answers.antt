use Rattle.std.proofs.Common.{◌∙◌, ◌+◌, ◌≤◌, sym, subst, to_z, of_z, w32, ℤ, List}
use Rattle.std.specs.List.{sum_by}
use Rattle.std.proofs.lemmas.Int.{to_z-of_z}
use Rattle.dep_graph.specs.Graph.{links_of}
use Rattle.dep_graph.specs.Nodes.{items_of}
use Rattle.dep_graph.specs.declared.node.Node.{Node}
use Rattle.recalc_core.specs.Kept.{IsFit}
use Rattle.recalc_core.specs.Recalc.{kept_in, marks_in}
use Rattle.recalc_core.specs.Steps.{node_cost}
use Rattle.recalc_core.specs.internal.UnderWay.{AreCycles, DifferWithin, IsPlan, IsUnderWay}
use Rattle.recalc_core.proofs.Recalculated.{is_plan, on_err, others_stay, steps_taken, still_fit, way_begins, within_both}
use Rattle.recalc_core.proofs.recalc.Recalc.recalculate.Goals as goal

pub returns-in_err-settle_cycles-clause-fit : goal.returns-in_err-settle_cycles-clause-fit
returns-in_err-settle_cycles-clause-fit g c =
    let b = g.T.Trees.workbook c.args.trees.now in
    let words = g.T.Trees.words c.args.trees.now in
    let customs = g.C.Customs.customs c.args.customs.now in
    let links = links_of c.args.graph.now in
    let marks = marks_in c.args.self.now in
    let affected = items_of c.in_ok-affected.affected in
    let order = items_of c.in_ok-order.order in
    let old = kept_in c.args.self.now in
    let new = kept_in c.settle_cycles.new.self in
    on_err c.from_residual-in_err-settle_cycles.result (IsFit b words customs c.args.day links (marks_in c.settle_cycles.new.self) new)
    (subst (λ (ms : List Node). IsFit b words customs c.args.day links ms new) (sym c.settle_cycles.ensures.marks)
    (still_fit b words customs c.args.day links c.requires.links marks affected order c.in_ok-affected.ensures c.in_ok-order.ensures old new c.requires.fit
    (subst (λ (ns : List Node). DifferWithin ns old new) c.items.ensures c.settle_cycles.ensures.others)))

pub renew_all-requires-clause-plan : goal.renew_all-requires-clause-plan
renew_all-requires-clause-plan g c =
    let b = g.T.Trees.workbook c.args.trees.now in
    let words = g.T.Trees.words c.args.trees.now in
    let customs = g.C.Customs.customs c.args.customs.now in
    let today = to_z w32 (of_z w32 c.args.day) in
    subst (λ (ns : List Node). IsPlan b words customs today ns) (sym c.items-3.ensures)
    (is_plan b words customs today (links_of c.args.graph.now) c.requires.links (marks_in c.args.self.now) (items_of c.in_ok-affected.affected) (items_of c.in_ok-order.order)
    c.in_ok-affected.ensures c.in_ok-order.ensures)

pub renew_all-requires-clause-others : goal.renew_all-requires-clause-others
renew_all-requires-clause-others g c =
    let b = g.T.Trees.workbook c.args.trees.now in
    let words = g.T.Trees.words c.args.trees.now in
    let customs = g.C.Customs.customs c.args.customs.now in
    let today = to_z w32 (of_z w32 c.args.day) in
    let links = links_of c.args.graph.now in
    let marks = marks_in c.args.self.now in
    let affected = items_of c.in_ok-affected.affected in
    let order = items_of c.in_ok-order.order in
    let old = kept_in c.args.self.now in
    let new = kept_in c.settle_cycles.new.self in
    subst (λ (ns : List Node). IsUnderWay b words customs today ns 0 new) (sym c.items-3.ensures)
    (way_begins b words customs today links c.requires.links marks affected order c.in_ok-affected.ensures c.in_ok-order.ensures old new
    (subst (λ (d : ℤ). IsFit b words customs d links marks old) (sym (to_z-of_z w32 c.args.day c.ranges.day)) c.requires.fit)
    (subst (λ (ns : List Node). AreCycles ns order new) c.items.ensures (subst (λ (ns : List Node). AreCycles c.items.result.now ns new) c.items-2.ensures c.in_ok-settle_cycles.ensures.shows))
    (subst (λ (ns : List Node). DifferWithin ns old new) c.items.ensures c.settle_cycles.ensures.others))

pub returns-in_err-renew_all-clause-fit : goal.returns-in_err-renew_all-clause-fit
returns-in_err-renew_all-clause-fit g c =
    let b = g.T.Trees.workbook c.args.trees.now in
    let words = g.T.Trees.words c.args.trees.now in
    let customs = g.C.Customs.customs c.args.customs.now in
    let links = links_of c.args.graph.now in
    let marks = marks_in c.args.self.now in
    let affected = items_of c.in_ok-affected.affected in
    let order = items_of c.in_ok-order.order in
    let old = kept_in c.args.self.now in
    let mid = kept_in c.settle_cycles.new.self in
    let new = kept_in c.renew_all.new.self in
    let good = c.requires.links in
    on_err c.from_residual-in_err-renew_all.result (IsFit b words customs c.args.day links (marks_in c.renew_all.new.self) new)
    (subst (λ (ms : List Node). IsFit b words customs c.args.day links ms new) (sym (c.renew_all.ensures.marks ∙ c.settle_cycles.ensures.marks))
    (still_fit b words customs c.args.day links good marks affected order c.in_ok-affected.ensures c.in_ok-order.ensures old new c.requires.fit
    (within_both b words customs c.args.day links good marks affected order c.in_ok-affected.ensures c.in_ok-order.ensures old mid new
    (subst (λ (ns : List Node). DifferWithin ns old mid) c.items.ensures c.settle_cycles.ensures.others)
    (subst (λ (ns : List Node). DifferWithin ns mid new) c.items-3.ensures c.renew_all.ensures.others))))

pub returns-in_err-settle_cycles-clause-others : goal.returns-in_err-settle_cycles-clause-others
returns-in_err-settle_cycles-clause-others g c =
    let b = g.T.Trees.workbook c.args.trees.now in
    let words = g.T.Trees.words c.args.trees.now in
    let customs = g.C.Customs.customs c.args.customs.now in
    let links = links_of c.args.graph.now in
    let marks = marks_in c.args.self.now in
    let affected = items_of c.in_ok-affected.affected in
    let order = items_of c.in_ok-order.order in
    let old = kept_in c.args.self.now in
    let new = kept_in c.settle_cycles.new.self in
    others_stay b words customs c.args.day links c.requires.links marks affected order c.in_ok-affected.ensures c.in_ok-order.ensures old new
    (subst (λ (ns : List Node). DifferWithin ns old new) c.items.ensures c.settle_cycles.ensures.others)

pub returns-in_err-renew_all-clause-others : goal.returns-in_err-renew_all-clause-others
returns-in_err-renew_all-clause-others g c =
    let b = g.T.Trees.workbook c.args.trees.now in
    let words = g.T.Trees.words c.args.trees.now in
    let customs = g.C.Customs.customs c.args.customs.now in
    let links = links_of c.args.graph.now in
    let marks = marks_in c.args.self.now in
    let affected = items_of c.in_ok-affected.affected in
    let order = items_of c.in_ok-order.order in
    let old = kept_in c.args.self.now in
    let mid = kept_in c.settle_cycles.new.self in
    let new = kept_in c.renew_all.new.self in
    let good = c.requires.links in
    others_stay b words customs c.args.day links good marks affected order c.in_ok-affected.ensures c.in_ok-order.ensures old new
    (within_both b words customs c.args.day links good marks affected order c.in_ok-affected.ensures c.in_ok-order.ensures old mid new
    (subst (λ (ns : List Node). DifferWithin ns old mid) c.items.ensures c.settle_cycles.ensures.others)
    (subst (λ (ns : List Node). DifferWithin ns mid new) c.items-3.ensures c.renew_all.ensures.others))

pub returns-clause-others : goal.returns-clause-others
returns-clause-others g c =
    let b = g.T.Trees.workbook c.args.trees.now in
    let words = g.T.Trees.words c.args.trees.now in
    let customs = g.C.Customs.customs c.args.customs.now in
    let links = links_of c.args.graph.now in
    let marks = marks_in c.args.self.now in
    let affected = items_of c.in_ok-affected.affected in
    let order = items_of c.in_ok-order.order in
    let old = kept_in c.args.self.now in
    let mid = kept_in c.settle_cycles.new.self in
    let new = kept_in c.renew_all.new.self in
    let good = c.requires.links in
    others_stay b words customs c.args.day links good marks affected order c.in_ok-affected.ensures c.in_ok-order.ensures old new
    (within_both b words customs c.args.day links good marks affected order c.in_ok-affected.ensures c.in_ok-order.ensures old mid new
    (subst (λ (ns : List Node). DifferWithin ns old mid) c.items.ensures c.settle_cycles.ensures.others)
    (subst (λ (ns : List Node). DifferWithin ns mid new) c.items-3.ensures c.renew_all.ensures.others))

pub returns-in_err-renew_all-clause-most : goal.returns-in_err-renew_all-clause-most
returns-in_err-renew_all-clause-most g c =
    let b = g.T.Trees.workbook c.args.trees.now in
    let words = g.T.Trees.words c.args.trees.now in
    let customs = g.C.Customs.customs c.args.customs.now in
    let links = links_of c.args.graph.now in
    let marks = marks_in c.args.self.now in
    let affected = items_of c.in_ok-affected.affected in
    let order = items_of c.in_ok-order.order in
    steps_taken b words customs c.args.day links c.requires.links marks affected order c.in_ok-affected.ensures c.in_ok-order.ensures c.args.steps.now c.renew_all.new.steps
    (subst (λ (d : ℤ). c.renew_all.new.steps ≤ c.args.steps.now + sum_by (node_cost b words customs d) order) (to_z-of_z w32 c.args.day c.ranges.day)
    (subst (λ (ns : List Node). c.renew_all.new.steps ≤ c.args.steps.now + sum_by (node_cost b words customs (to_z w32 (of_z w32 c.args.day))) ns) c.items-3.ensures c.renew_all.ensures.most))

pub returns-clause-most : goal.returns-clause-most
returns-clause-most g c =
    let b = g.T.Trees.workbook c.args.trees.now in
    let words = g.T.Trees.words c.args.trees.now in
    let customs = g.C.Customs.customs c.args.customs.now in
    let links = links_of c.args.graph.now in
    let marks = marks_in c.args.self.now in
    let affected = items_of c.in_ok-affected.affected in
    let order = items_of c.in_ok-order.order in
    steps_taken b words customs c.args.day links c.requires.links marks affected order c.in_ok-affected.ensures c.in_ok-order.ensures c.args.steps.now c.renew_all.new.steps
    (subst (λ (d : ℤ). c.renew_all.new.steps ≤ c.args.steps.now + sum_by (node_cost b words customs d) order) (to_z-of_z w32 c.args.day c.ranges.day)
    (subst (λ (ns : List Node). c.renew_all.new.steps ≤ c.args.steps.now + sum_by (node_cost b words customs (to_z w32 (of_z w32 c.args.day))) ns) c.items-3.ensures c.renew_all.ensures.most))
