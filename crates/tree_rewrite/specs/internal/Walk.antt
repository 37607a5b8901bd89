-- A walk through a shared tree that puts other trees in the places of its references.
use Rattle.std.specs.Prelude.{List, map, Option}
use Rattle.std.specs.declared.alloc.Global.{Global}
use Rattle.std.specs.declared.rc.Rc.{Rc}
use Rattle.cell_addr.specs.declared.axis.Axis.{Axis}
use Rattle.formula_tree.specs.Relative.{relative}
use Rattle.formula_tree.specs.Term.{Term, Terms, terms_of, mapped, mapped_all}
use Rattle.formula_tree.specs.declared.node.Node.{Node}
use Rattle.formula_tree.specs.declared.reference.Ref.{Ref}
use Rattle.tree_rewrite.specs.References.{EachReference, EachReferenceOfAll}

-- the term of a shared tree, and the terms of some
abbrev pub term_of : Rc Node Global → Term Ref
term_of tree = relative tree.value

abbrev pub terms_in : List (Rc Node Global) → Terms Ref
terms_in items = terms_of (map term_of items)

-- a tree where other trees come in the places of its references, blocks and whole ranges, and the arguments of a call
unfoldable pub replaced : (Ref → Term Ref) → (Option Axis → Ref → Ref → Term Ref) → Term Ref → Term Ref
replaced on_cell on_area t = mapped on_cell on_area t

unfoldable pub all_replaced : (Ref → Term Ref) → (Option Axis → Ref → Ref → Term Ref) → Terms Ref → Terms Ref
all_replaced on_cell on_area ts = mapped_all on_cell on_area ts

-- what a shared tree becomes
abbrev pub tree_replaced : (Ref → Term Ref) → (Option Axis → Ref → Ref → Term Ref) → Rc Node Global → Term Ref
tree_replaced on_cell on_area tree = replaced on_cell on_area (term_of tree)

-- each reference passes a test, and each block or whole range another one; and those of a call's arguments
unfoldable pub Takes : (Ref → Type 0) → (Option Axis → Ref → Ref → Type 0) → Term Ref → Type 0
Takes P Q t = EachReference P Q t

unfoldable pub AllTake : (Ref → Type 0) → (Option Axis → Ref → Ref → Type 0) → Terms Ref → Type 0
AllTake P Q ts = EachReferenceOfAll P Q ts
