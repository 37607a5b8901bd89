use Rattle.std.proofs.Common.{◌↔◌, map, take}
use Rattle.std.specs.List.{Contains}
use Rattle.formula_tree.specs.Term.{Term}
use Rattle.formula_tree.specs.Relative.{relative}
use Rattle.formula_tree.specs.declared.reference.Ref.{Ref}
use Rattle.formula_tree.proofs.pool.Pool.sweep.Given as goal

-- the trees kept so far are the first ones of those in use
abbrev pub invariant-trees : goal.invariant-trees
invariant-trees l = (t : Term Ref) → Contains (map (λ k. relative k.tree.value) l.kept.keys) t ↔ Contains (map (λ tree. relative tree.value) (take l.tree-index l.in_use)) t
