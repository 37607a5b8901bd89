use Rattle.std.proofs.Common.{◌≡◌, ◌∙◌, sym, subst, arith, get_or, take, ◌+◌, ◌≤◌, to_z, of_z, w32, ℤ, List, ℕ}
use Rattle.std.specs.List.{sum_by}
use Rattle.std.proofs.lemmas.Int.{to_z-of_z}
use Rattle.std.proofs.lemmas.List.{get_or_default}
use Rattle.std.proofs.lemmas.List.Sums.{sum_by_more}
use Rattle.book_values.specs.Workbook.{Workbook}
use Rattle.dep_graph.specs.declared.node.Node.{Node}
use Rattle.dep_graph.specs.declared.node.Node.TheVariants.{Cell}
use Rattle.recalc_core.specs.Kept.{AreRight, IsRight}
use Rattle.recalc_core.specs.Recalc.{kept_in}
use Rattle.recalc_core.specs.Steps.{node_cost}
use Rattle.recalc_core.specs.internal.UnderWay.{IsPlan, IsReady}
use Rattle.recalc_core.proofs.UnderWay.{all_right, next_ready, way_on, within_more}
use Rattle.recalc_core.proofs.recalc.Recalc.renew_all.Goals as goal

pub renew-requires : goal.renew-requires
renew-requires g c =
    let b = g.T.Trees.workbook c.args.trees.now in
    let words = g.T.Trees.words c.args.trees.now in
    let customs = g.C.Customs.customs c.args.customs.now in
    let today = to_z w32 (of_z w32 c.args.day) in
    let order = c.args.order.now in
    let i = c.nodes.node-index in
    let a : Node = get_or order i (Cell (record { sheet = 0; row = 0; col = 0 })) in
    let kept = kept_in c.nodes.self in
    let plan = subst (λ (d : ℤ). IsPlan b words customs d order) (sym (to_z-of_z w32 c.args.day c.ranges.day)) c.requires.plan in
    subst (λ (w : Workbook). IsReady w (g.T.Trees.words c.nodes.trees) customs today kept a) (sym c.nodes.invariant.leaves)
    (subst (λ (ws : List (List ℕ)). IsReady b ws customs today kept a) (sym c.nodes.invariant.words)
    (next_ready b words customs today order i a kept plan c.nodes.invariant.way c.nodes-test.true (get_or_default order i _ a c.nodes-test.true)))

pub nodes-preserved : goal.nodes-preserved
nodes-preserved g c =
    let b = g.T.Trees.workbook c.args.trees.now in
    let words = g.T.Trees.words c.args.trees.now in
    let customs = g.C.Customs.customs c.args.customs.now in
    let today = to_z w32 (of_z w32 c.args.day) in
    let order = c.args.order.now in
    let i = c.nodes.node-index in
    let a : Node = get_or order i (Cell (record { sheet = 0; row = 0; col = 0 })) in
    let old = kept_in c.nodes.self in
    let new = kept_in c.renew.new.self in
    let is = get_or_default order i (Cell (record { sheet = 0; row = 0; col = 0 })) a c.nodes-test.true in
    let right = subst (λ (w : Workbook). IsRight w words customs today new a) c.nodes.invariant.leaves
    (subst (λ (ws : List (List ℕ)). IsRight (g.T.Trees.workbook c.nodes.trees) ws customs today new a) c.nodes.invariant.words c.in_ok-renew.ensures.right) in
    let there = node_cost (g.T.Trees.workbook c.nodes.trees) (g.T.Trees.words c.nodes.trees) customs today a in
    let here = node_cost b words customs today a in
    let cost_here : there ≡ here = (λ j. node_cost (c.nodes.invariant.leaves j) (c.nodes.invariant.words j) customs today a) in
    let sums = sum_by_more (node_cost b words customs today) order i (Cell (record { sheet = 0; row = 0; col = 0 })) c.nodes-test.true in
    record {
      way = way_on b words customs today order i a old new c.nodes.invariant.way c.nodes-test.true is c.renew.ensures.others right;
      within = within_more order i a (kept_in c.args.self.now) old new c.nodes-test.true is c.nodes.invariant.within c.renew.ensures.others;
      least = omega (arith, c.nodes.invariant.least, c.renew.ensures.least);
      most = more c.renew.new.steps c.nodes.steps c.args.steps.now there here
          (sum_by (node_cost b words customs today) (take i order)) (sum_by (node_cost b words customs today) (take (i + 1) order)) c.renew.ensures.most cost_here c.nodes.invariant.most sums;
      marks = c.renew.ensures.marks ∙ c.nodes.invariant.marks;
      leaves = c.renew.ensures.leaves ∙ c.nodes.invariant.leaves;
      words = c.renew.ensures.words ∙ c.nodes.invariant.words;
      reads = g.T.Trees.laws.both _ _ _ c.nodes.invariant.reads c.renew.ensures.reads;
    }
  where
    more : (new now old there here before after : ℕ) → new ≤ now + there → there ≡ here → now ≤ old + before → after ≡ before + here → new ≤ old + after
    more new now old there here before after p q r s = omega (arith, p, q, r, s)

pub returns-clause-right : goal.returns-clause-right
returns-clause-right g c =
    let b = g.T.Trees.workbook c.args.trees.now in
    let words = g.T.Trees.words c.args.trees.now in
    let customs = g.C.Customs.customs c.args.customs.now in
    subst (λ (d : ℤ). AreRight b words customs d (kept_in c.nodes.self)) (to_z-of_z w32 c.args.day c.ranges.day)
    (all_right b words customs (to_z w32 (of_z w32 c.args.day)) c.args.order.now c.nodes.node-index (kept_in c.nodes.self) c.nodes-test.false c.nodes.invariant.way)
