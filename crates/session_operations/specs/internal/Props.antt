-- That a tree is proper has one proof at most, so that it may be kept with a value.
use denote.Struct.Props as logic
use Rattle.formula_tree.specs.Proper.{IsProper, AreProper}
use Rattle.formula_tree.specs.Term as tree
use Rattle.formula_tree.specs.Term.{Term, Terms}
use Rattle.formula_tree.specs.declared.reference.Corner.{Corner}

mutual
  pub is_proper-prop : (t : Term Corner) → IsProp (IsProper t)
  is_proper-prop (tree.number m) = Prim.hlevel logic.props
  is_proper-prop (tree.text w) = Prim.hlevel logic.props
  is_proper-prop (tree.truth b) = Prim.hlevel logic.props
  is_proper-prop (tree.fault f) = Prim.hlevel logic.props
  is_proper-prop (tree.cell c) = Prim.hlevel logic.props
  is_proper-prop (tree.area c d) = Prim.hlevel logic.props
  is_proper-prop (tree.whole axis c d) = Prim.hlevel logic.props
  is_proper-prop (tree.name w) = Prim.hlevel logic.props
  is_proper-prop (tree.prefix s t) = let h = is_proper-prop t in Prim.hlevel (h, logic.props)
  is_proper-prop (tree.percent t) = let h = is_proper-prop t in Prim.hlevel (h, logic.props)
  is_proper-prop (tree.binary o l r) = let h = is_proper-prop l in let i = is_proper-prop r in Prim.hlevel (h, i, logic.props)
  is_proper-prop (tree.call w ts) = let h = are_proper-prop ts in Prim.hlevel (h, logic.props)
  is_proper-prop (tree.paren t) = is_proper-prop t

  are_proper-prop : (ts : Terms Corner) → IsProp (AreProper ts)
  are_proper-prop tree.no_terms = Prim.hlevel logic.props
  are_proper-prop (tree.term t ts) = let h = is_proper-prop t in let i = are_proper-prop ts in Prim.hlevel (h, i, logic.props)
