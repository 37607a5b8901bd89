-- The arguments of a call.
use Rattle.std.specs.Prelude.{List}
use Rattle.std.specs.declared.alloc.Global.{Global}
use Rattle.std.specs.declared.rc.Rc.{Rc}
use Rattle.formula_tree.specs.declared.node.Node.{Node}
use Rattle.formula_tree.specs.declared.node.TreeList.{TreeList}
use Rattle.formula_tree.specs.declared.plain.Plain.{Plain}
use Rattle.formula_tree.specs.declared.plain.PlainList.{PlainList}

-- the trees of the arguments, in order
abbrev pub arguments : PlainList → List Plain
arguments l = l.list.items

-- and where they are shared
abbrev pub trees : TreeList → List (Rc Node Global)
trees l = l.list.items
