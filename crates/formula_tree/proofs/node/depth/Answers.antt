use Rattle.std.proofs.Common.{min, sym, ap, ◌∙◌}
use Rattle.formula_tree.specs.Term.{depth_of}
use Rattle.formula_tree.specs.Reference.{base_of, corner_at}
use Rattle.formula_tree.specs.Relative.{relative}
use Rattle.formula_tree.proofs.EachCorner.{depth_of-each_corner}
use Rattle.formula_tree.proofs.node.depth.Goals as goal

pub returns : goal.returns
returns c = λ home t e.
    c.depth.ensures
    ∙ ap (λ node. min (depth_of (relative node)) 4294967295) c.deref.ensures
    ∙ ap (λ n. min n 4294967295) (sym (depth_of-each_corner (corner_at (base_of home)) (relative c.args.tree.now.value)) ∙ ap depth_of e)
