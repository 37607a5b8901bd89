use Rattle.std.proofs.Common.{◌∙◌, sym, refl, subst, get_or, List, ℕ}
use Rattle.dep_graph.specs.Graph.{links_of}
use Rattle.dep_graph.specs.declared.node.Node.{Node}
use Rattle.dep_graph.specs.declared.node.Node.TheVariants.{Cell}
use Rattle.book_values.specs.Workbook.{Workbook}
use Rattle.recalc_core.specs.Nodes.{AreNumbered}
use Rattle.kept_values.specs.internal.Linking.{IsLinkedAnew}
use Rattle.kept_values.proofs.LinkedAnew.{all_linked, but_all, inside_on, inside_same, link_on}
use Rattle.kept_values.proofs.linking.link_all.Goals as goal

pub link-requires : goal.link-requires
link-requires g c = record {
  numbered = subst (λ (w : Workbook). AreNumbered (g.T.Trees.words c.nodes.trees) w.names) (sym c.nodes.invariant.leaves)
      (subst (λ ws. AreNumbered ws (g.T.Trees.workbook c.args.trees.now).names) (sym c.nodes.invariant.words) c.requires.numbered);
}

pub nodes-preserved : goal.nodes-preserved
nodes-preserved g c =
    let b = g.T.Trees.workbook c.args.trees.now in
    let words = g.T.Trees.words c.args.trees.now in
    let nodes = c.args.nodes.now in
    let i = c.nodes.node-index in
    let d : Node = Cell (record { sheet = 0; row = 0; col = 0 }) in
    let old = links_of c.nodes.graph in
    let new = links_of c.link.new.graph in
    let anew = subst (λ (w : Workbook). IsLinkedAnew w words (get_or nodes i d) old new) c.nodes.invariant.leaves
    (subst (λ (ws : List (List ℕ)). IsLinkedAnew (g.T.Trees.workbook c.nodes.trees) ws (get_or nodes i d) old new) c.nodes.invariant.words c.in_ok-link.ensures.ok) in
    record {
      but = link_on b words nodes i d old new c.nodes-test.true c.requires.known anew c.nodes.invariant.but;
      links = inside_on b words nodes i d old new c.nodes-test.true c.requires.known c.requires.inside anew c.nodes.invariant.links;
      leaves = c.in_ok-link.ensures.leaves ∙ c.nodes.invariant.leaves;
      words = c.in_ok-link.ensures.words ∙ c.nodes.invariant.words;
      reads = g.T.Trees.laws.both _ _ _ c.nodes.invariant.reads c.in_ok-link.ensures.reads;
    }

pub returns-in_err-link-clause-but : goal.returns-in_err-link-clause-but
returns-in_err-link-clause-but g c =
    but_all (g.T.Trees.workbook c.args.trees.now) (g.T.Trees.words c.args.trees.now) c.args.nodes.now c.nodes.node-index (links_of c.nodes.graph) (links_of c.link.new.graph) c.nodes.invariant.but c.in_err-link.ensures.err

pub returns-in_err-link-clause-links : goal.returns-in_err-link-clause-links
returns-in_err-link-clause-links g c =
    inside_same (g.T.Trees.workbook c.args.trees.now) (g.T.Trees.words c.args.trees.now) (links_of c.nodes.graph) (links_of c.link.new.graph) c.nodes.invariant.links c.in_err-link.ensures.err

pub returns-clause-ok : goal.returns-clause-ok
returns-clause-ok g c =
    all_linked (g.T.Trees.workbook c.args.trees.now) (g.T.Trees.words c.args.trees.now) c.args.nodes.now c.nodes.node-index (links_of c.nodes.graph) c.nodes-test.false c.nodes.invariant.but

pub returns-clause-but : goal.returns-clause-but
returns-clause-but g c =
    but_all (g.T.Trees.workbook c.args.trees.now) (g.T.Trees.words c.args.trees.now) c.args.nodes.now c.nodes.node-index (links_of c.nodes.graph) (links_of c.nodes.graph) c.nodes.invariant.but (λ x. refl)
