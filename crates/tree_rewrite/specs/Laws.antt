-- What structural operations do to every tree, and pastes.
use Rattle.std.specs.Prelude.{◌≡◌, ◌≢◌, ◌↔◌, ℕ, true, List, Option, Some, None, is_some, option_and_then}
use Rattle.cell_addr.specs.declared.axis.Axis.{Axis}
use Rattle.cell_addr.specs.Sheets.{name_in}
use Rattle.formula_tree.specs.Level.{level}
use Rattle.formula_tree.specs.Proper.{IsProper}
use Rattle.formula_tree.specs.Reference.{IsHomeInside, block_of, sheet_of}
use Rattle.formula_tree.specs.StandsFor.{from_home}
use Rattle.formula_tree.specs.Term.{Term, depth_of}
use Rattle.formula_tree.specs.Whole.{whole_between}
use Rattle.formula_tree.specs.declared.reference.Corner.{Corner}
use Rattle.formula_tree.specs.declared.reference.Home.{Home}
use Rattle.shift_core.specs.Bent.{IsBent, IsCut}
use Rattle.shift_core.specs.Sound.{IsSound}
use Rattle.shift_core.specs.Tables.{place_after}
use Rattle.shift_core.specs.Wholes.{IsWholeBent}
use Rattle.shift_core.specs.declared.shift.Shift.{Shift}
use Rattle.tree_rewrite.specs.Pasted.{AreThere, pasted}
use Rattle.tree_rewrite.specs.References.{EachReference, FitsSheets}
use Rattle.tree_rewrite.specs.Rewritten.{area_after, area_before, rewritten, returned, home_after, home_before, ComesBack}
use Rattle.tree_rewrite.specs.Sheets.{HasSheet, Leads}

-- a proper tree stays proper, forward and backward
abbrev pub ProperStays : Type 0
ProperStays = (s : Shift) (t : Term Corner) → IsSound s → IsProper t → IsProper (rewritten s t) × IsProper (returned s t)

-- the references, blocks and whole ranges of a proper tree are within the limits of a sheet
abbrev pub ProperFits : Type 0
ProperFits = (t : Term Corner) → IsProper t → FitsSheets t

-- what is within the limits of a sheet stays so
abbrev pub FitStays : Type 0
FitStays = (s : Shift) (t : Term Corner) → IsSound s → FitsSheets t → FitsSheets (rewritten s t) × FitsSheets (returned s t)

-- a tree keeps its number of levels, and the level of its outermost operator
pub record LevelsStay : Type 0 where
  pub depth : (s : Shift) (t : Term Corner) → (depth_of (rewritten s t) ≡ depth_of t) × (depth_of (returned s t) ≡ depth_of t)
  pub outermost : (s : Shift) (t : Term Corner) → (level (rewritten s t) ≡ level t) × (level (returned s t) ≡ level t)

-- a tree without references stays as it is; so does a fault #REF! that stands for a lost one
abbrev pub OthersStay : Type 0
OthersStay = (s : Shift) (t : Term Corner) → EachReference (λ c. ⊥) (λ lines c d. ⊥) t → (rewritten s t ≡ t) × (returned s t ≡ t)

-- a sheet of a tree after an operation comes from a sheet of the tree before it, and one of the tree before it from
-- one of the tree after it
pub record SheetsFollow : Type 0 where
  pub forward : (s : Shift) (t : Term Corner) (after : ℕ) → HasSheet after (rewritten s t) → (before : ℕ) × HasSheet before t × Leads s before after
  pub backward : (s : Shift) (t : Term Corner) (before : ℕ) → HasSheet before (returned s t) → (after : ℕ) × HasSheet after t × Leads s before after

-- a reference has a place after the operation
abbrev pub IsKept : Shift → Corner → Type 0
IsKept s c = place_after s c.at ≢ None

-- a block, or a whole range, has its ends again after the operation and back
abbrev pub AreaComesBack : Shift → Option Axis → Corner → Corner → Type 0
AreaComesBack s lines c d = option_and_then (area_before s lines) (area_after s lines (block_of c d)) ≡ Some (block_of c d)

-- a proper tree comes back exactly where no reference is lost and each block and each whole range comes back
abbrev pub ComesBackByReferences : Type 0
ComesBackByReferences = (s : Shift) (t : Term Corner) → IsSound s → IsProper t → ComesBack s t ↔ EachReference (IsKept s) (AreaComesBack s) t

-- a block, or a whole range, that the operation carries along as it is
abbrev pub IsCarried : Shift → Option Axis → Corner → Corner → Type 0
IsCarried s None c d = (¬ IsBent s (block_of c d)) × (¬ IsCut s (block_of c d))
IsCarried s (Some axis) c d = ¬ IsWholeBent s (whole_between axis c d)

-- a proper tree comes back where no reference is lost and each block and each whole range is carried along as it is
abbrev pub CarriedComesBack : Type 0
CarriedComesBack = (s : Shift) (t : Term Corner) → IsSound s → IsProper t → EachReference (IsKept s) (IsCarried s) t → ComesBack s t

-- homes within the limits of a sheet stay so, come back from where they go, and go where they came from
pub record HomesFollow : Type 0 where
  pub inside_after : (s : Shift) (home other : Home) → IsSound s → IsHomeInside home → home_after s home ≡ Some other → IsHomeInside other
  pub inside_before : (s : Shift) (home other : Home) → IsSound s → IsHomeInside home → home_before s home ≡ Some other → IsHomeInside other
  pub come_back : (s : Shift) (home other : Home) → IsSound s → IsHomeInside home → home_after s home ≡ Some other → home_before s other ≡ Some home
  pub go_forth : (s : Shift) (home other : Home) → IsSound s → IsHomeInside home → home_before s home ≡ Some other → home_after s other ≡ Some home

-- of a formula that is pasted in a workbook of these sheets
pub record PastesWell : Type 0 where
  -- a proper tree stays proper, of as many levels
  pub proper : (sheets : List (ℕ × List ℕ)) (from to : Home) (t : Term Corner) → IsProper t → IsProper (pasted sheets from to t)
  pub depth : (sheets : List (ℕ × List ℕ)) (from to : Home) (t : Term Corner) → depth_of (pasted sheets from to t) ≡ depth_of t
  -- its sheets are listed, and its references, blocks and whole ranges within the limits
  pub listed : (sheets : List (ℕ × List ℕ)) (from to : Home) (t : Term Corner) (sheet : ℕ) → HasSheet sheet (pasted sheets from to t) → is_some (name_in sheets sheet) ≡ true
  pub fits : (sheets : List (ℕ × List ℕ)) (from to : Home) (t : Term Corner) → FitsSheets (pasted sheets from to t)
  -- as seen from its home it stays as it is where it stays on its sheet and nothing of it is lost or put in order
  pub stays : (sheets : List (ℕ × List ℕ)) (from to : Home) (t : Term Corner) → sheet_of from ≡ sheet_of to → AreThere sheets from to t
      → from_home to (pasted sheets from to t) ≡ from_home from t
