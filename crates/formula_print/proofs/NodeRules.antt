-- The terms of nodes at a home. Serves the writing of trees.
use Rattle.std.proofs.Common.{◌≡◌, ap, ℕ, List, Global}
use Rattle.std.specs.declared.rc.Rc.{Rc}
use Rattle.formula_tree.specs.declared.node.Node.{Node}
use Rattle.formula_tree.specs.declared.node.Node.TheVariants as nodes
use Rattle.formula_tree.specs.declared.node.TreeList.{TreeList}
use Rattle.formula_tree.specs.declared.operator.Op.{Op}
use Rattle.formula_tree.specs.declared.reference.Home.{Home}
use Rattle.formula_tree.specs.Reference.{base_of, corner_at}
use Rattle.formula_tree.specs.Relative.{relative, relative_list}
use Rattle.formula_tree.specs.StandsFor.{at_home}
use Rattle.formula_tree.specs.Term.{binary, call, paren, each_corner_all}
use Rattle.formula_tree.proofs.RelativeNodes.{relative-Binary, relative-Call, relative-Paren}

pub binary_at : (home : Home) (o : Op) (l r : Rc Node Global) → at_home home (relative (nodes.Binary o l r)) ≡ binary o (at_home home (relative l.value)) (at_home home (relative r.value))
binary_at home o l r = ap (at_home home) (relative-Binary o l r)

pub call_at : (home : Home) (w : List ℕ) (list : TreeList) → at_home home (relative (nodes.Call w list)) ≡ call w (each_corner_all (corner_at (base_of home)) (relative_list list))
call_at home w list = ap (at_home home) (relative-Call w list)

pub paren_at : (home : Home) (t : Rc Node Global) → at_home home (relative (nodes.Paren t)) ≡ paren (at_home home (relative t.value))
paren_at home t = ap (at_home home) (relative-Paren t)
