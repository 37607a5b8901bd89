use Rattle.std.proofs.Common.{subst, refl, Some}
use Rattle.kept_values.proofs.Following.{on_ok}
use Rattle.dep_graph.specs.Nodes.{items_of}
use Rattle.recalc_core.specs.Given.{IsFound}
use Rattle.kept_values.proofs.FoundNames.{one_found}
use Rattle.kept_values.proofs.linking.add_name.Goals as goal

pub returns-in-Some-clause-found : goal.returns-in-Some-clause-found
returns-in-Some-clause-found g c =
    let b = g.T.Trees.workbook c.args.trees.now in
    let words = g.T.Trees.words c.args.trees.now in
    let found_here = subst (IsFound b words c.args.word.now c.args.sheet) c.in-Some.is (subst (λ w. IsFound b words w c.args.sheet c.in_ok-node.field-0) c.as_str.ensures c.in_ok-node.ensures.found) in
    on_ok c.push.result _ _
    (λ is. one_found words b.names c.args.sheet c.requires.numbered.once c.args.word.now b (Some c.in-Some.node) (items_of c.args.needs.now) (items_of c.push.new.self) refl found_here is)
    c.push.ensures.ok
