-- Formulas over runs of structural operations, one after the other. Source: this project's own.
use Rattle.std.specs.Prelude.{◌≡◌, List, [], ◌∷◌, Option, Some, MatchOption, option_and_then}
use Rattle.cell_addr.specs.declared.axis.Axis.{Axis}
use Rattle.cell_addr.specs.declared.place.Place.{Place}
use Rattle.cell_addr.specs.declared.place.Block.{Block}
use Rattle.formula_tree.specs.Term.{Term}
use Rattle.formula_tree.specs.declared.reference.Corner.{Corner}
use Rattle.formula_tree.specs.declared.reference.Home.{Home}
use Rattle.shift_core.specs.Sound.{IsSound}
use Rattle.shift_core.specs.Tables.{place_after, place_before}
use Rattle.shift_core.specs.declared.shift.Shift.{Shift}
use Rattle.tree_rewrite.specs.Rewritten.{ComesBack, area_after, area_before, home_after, home_before, returned, rewritten}

-- each operation of the run can be done
abbrev pub AreSound : List Shift → Type 0
AreSound [] = Unit {0}
AreSound (s ∷ run) = IsSound s × AreSound run

-- where the operations take something; none where one of them loses it
abbrev pub over_all : {X : Type 0} → (Shift → X → Option X) → List Shift → X → Option X
over_all step [] x = Some x
over_all step (s ∷ run) x = option_and_then (over_all step run) (step s x)

-- a place; a block, or a whole range as its block; and a home
abbrev pub place_over : List Shift → Place → Option Place
place_over = over_all place_after

abbrev pub area_over : List Shift → Option Axis → Block → Option Block
area_over run lines = over_all (λ s. area_after s lines) run

abbrev pub home_over : List Shift → Home → Option Home
home_over = over_all home_after

-- the tree after the operations
abbrev pub tree_over : List Shift → Term Corner → Term Corner
tree_over [] t = t
tree_over (s ∷ run) t = tree_over run (rewritten s t)

-- the tree comes back from each operation, as it is when that is done
abbrev pub NoneLoses : List Shift → Term Corner → Type 0
NoneLoses [] t = Unit {0}
NoneLoses (s ∷ run) t = ComesBack s t × NoneLoses run (rewritten s t)

-- the block, or the whole range as its block, comes back from each operation with the same ends
abbrev pub IsCarriedOver : List Shift → Option Axis → Block → Type 0
IsCarriedOver [] lines b = Unit {0}
IsCarriedOver (s ∷ run) lines b = MatchOption (area_after s lines b) ⊥ (λ after. (area_before s lines after ≡ Some b) × IsCarriedOver run lines after)

-- where something was before the operations, from the last one back to the first; none where it came from nowhere
abbrev pub back_all : {X : Type 0} → (Shift → X → Option X) → List Shift → X → Option X
back_all step [] x = Some x
back_all step (s ∷ run) x = option_and_then (step s) (back_all step run x)

-- a place; a block, or a whole range as its block; and a home
abbrev pub place_back : List Shift → Place → Option Place
place_back = back_all place_before

abbrev pub area_back : List Shift → Option Axis → Block → Option Block
area_back run lines = back_all (λ s. area_before s lines) run

abbrev pub home_back : List Shift → Home → Option Home
home_back = back_all home_before

-- the tree before the operations, as far as the tree after each of them tells
abbrev pub tree_back : List Shift → Term Corner → Term Corner
tree_back [] t = t
tree_back (s ∷ run) t = returned s (tree_back run t)
