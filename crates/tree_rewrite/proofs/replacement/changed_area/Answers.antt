use Rattle.std.proofs.Common.{◌≡◌, Bool, true, false}
use Rattle.tree_rewrite.proofs.Passing.{same-area}
use Rattle.tree_rewrite.proofs.Walking as walking
use Rattle.tree_rewrite.proofs.replacement.changed_area.Goals as goal

-- a test has one answer
other : (b : Bool) → b ≡ false → b ≡ true → ⊥
other b f t = cc

pub returns-then-both_same : goal.returns-then-both_same
returns-then-both_same c = let same = c.both_same.ensures.0 c.if-both_same.true in same-area c.args.lines _ _ _ _ same.0 same.1

pub returns : goal.returns
returns c = (
  c.area_node.ensures,
  λ q. other c.both_same.result c.if-both_same.false (c.both_same.ensures.1 (walking.area-parts c.args.lines c.args.new.0 c.args.new.1 c.args.old.0 c.args.old.1 q)),
)
