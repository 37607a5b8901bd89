-- Arguments of calls of which a run of operations loses nothing.
use Rattle.std.specs.Prelude.{List, [], ◌∷◌}
use Rattle.formula_tree.specs.Term.{Terms}
use Rattle.formula_tree.specs.declared.reference.Corner.{Corner}
use Rattle.shift_core.specs.Tables.{place_after}
use Rattle.shift_core.specs.declared.shift.Shift.{Shift}
use Rattle.tree_rewrite.specs.References.{EachReferenceOfAll, IsAreaInside, IsReferenceInside}
use Rattle.tree_rewrite.specs.Rewritten.{area_after}
use Rattle.tree_rewrite.specs.internal.Passage.{AllComeBack, all_placed_by}

-- the references, blocks and whole ranges of all arguments lie within the limits of a sheet
abbrev pub AllFit : Terms Corner → Type 0
AllFit = EachReferenceOfAll IsReferenceInside IsAreaInside

-- the arguments of a call come back from each operation
abbrev pub NoneLosesOfAll : List Shift → Terms Corner → Type 0
NoneLosesOfAll [] ts = Unit {0}
NoneLosesOfAll (s ∷ run) ts = AllComeBack s ts × NoneLosesOfAll run (all_placed_by (place_after s) (area_after s) ts)
