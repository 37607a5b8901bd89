-- That a formula is one has one proof at most.
use denote.Struct.Props as logic
use Rattle.cell_addr.specs.declared.place.Place.{Place}
use Rattle.formula_tree.specs.Term.{Term}
use Rattle.formula_tree.specs.declared.reference.Corner.{Corner}
use Rattle.kept_book.specs.Formula.{IsFormula}
use Rattle.session_operations.specs.internal.Props.{is_proper-prop}

pub is_formula-prop : (at : Place) (t : Term Corner) → IsProp (IsFormula at t)
is_formula-prop at t = let h = is_proper-prop t in Prim.hlevel (h, logic.props)
