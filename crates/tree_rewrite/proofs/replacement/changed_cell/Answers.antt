use Rattle.std.proofs.Common.{◌≡◌, ap, Bool, true, false}
use Rattle.formula_tree.specs.Term.{cell}
use Rattle.tree_rewrite.proofs.Walking as walking
use Rattle.tree_rewrite.proofs.replacement.changed_cell.Goals as goal

-- a test has one answer
other : (b : Bool) → b ≡ false → b ≡ true → ⊥
other b f t = cc

pub returns-then-same : goal.returns-then-same
returns-then-same c = ap (λ r. cell r) (c.same.ensures.0 c.if-same.true)

pub returns : goal.returns
returns c = (walking.relative-Cell c.args.new, λ q. other c.same.result c.if-same.false (c.same.ensures.1 (walking.cell-part c.args.new c.args.old q)))
