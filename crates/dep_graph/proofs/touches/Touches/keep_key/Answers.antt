use Rattle.std.proofs.Common.{◌∙◌, sym}
use Rattle.dep_graph.proofs.Adding.{on_ok}
use Rattle.dep_graph.proofs.Untouched.{node_indexed}
use Rattle.dep_graph.proofs.touches.Touches.keep_key.Goals as goal

pub returns-in-Some-clause-kept : goal.returns-in-Some-clause-kept
returns-in-Some-clause-kept c =
    on_ok c.keep.result _ _ c.keep.ensures.kept
    (λ kept. node_indexed c.args.lines.now c.keep.new.self c.args.number c.args.key c.in-Some.node (sym c.node.ensures ∙ c.in-Some.is) kept)
