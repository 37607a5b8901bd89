-- The terms of shared trees: what a tree is as seen from its home, without boxes.
use Rattle.std.specs.Prelude.{map}
use Rattle.cell_addr.specs.declared.axis.Axis.TheVariants.{Rows, Cols}
use Rattle.formula_tree.specs.Term.{Term, number, text, truth, fault, cell, area, whole, name, prefix, percent, binary, call, paren, Terms, terms_of}
use Rattle.formula_tree.specs.Whole.{first_ref, last_ref}
use Rattle.formula_tree.specs.declared.reference.Ref.{Ref}
use Rattle.formula_tree.specs.declared.node.Node.{Node}
use Rattle.formula_tree.specs.declared.node.TreeList.{TreeList}
use Rattle.formula_tree.specs.declared.node.Node.TheOpen.{Node-F, TreeList-F}
use Rattle.formula_tree.specs.declared.node.Node.TheFolds.{fold-Node, fold-TreeList}

-- one node, where its parts are terms already
abbrev pub relative_node : Node-F (Term Ref) (Terms Ref) → Term Ref
relative_node (Node-F.Number m) = number m
relative_node (Node-F.Text w) = text w
relative_node (Node-F.Truth b) = truth b
relative_node (Node-F.Fault f) = fault f
relative_node (Node-F.Cell r) = cell r
relative_node (Node-F.Area r q) = area r q
relative_node (Node-F.WholeRows s p q) = whole Rows (first_ref Rows s p) (last_ref Rows s q)
relative_node (Node-F.WholeCols s p q) = whole Cols (first_ref Cols s p) (last_ref Cols s q)
relative_node (Node-F.Name w) = name w
relative_node (Node-F.Prefix s t) = prefix s t.value
relative_node (Node-F.Percent t) = percent t.value
relative_node (Node-F.Binary o l r) = binary o l.value r.value
relative_node (Node-F.Call w l) = call w l
relative_node (Node-F.Paren t) = paren t.value

-- the arguments of a call, where they are terms already
abbrev pub relative_arguments : TreeList-F (Term Ref) (Terms Ref) → Terms Ref
relative_arguments l = terms_of (map (λ t. t.value) l.list.items)

-- the term of a tree
abbrev pub relative : Node → Term Ref
relative = fold-Node (Term Ref) (Terms Ref) relative_node relative_arguments

-- the terms of a call's arguments
abbrev pub relative_list : TreeList → Terms Ref
relative_list = fold-TreeList (Term Ref) (Terms Ref) relative_node relative_arguments
