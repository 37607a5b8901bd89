-- What holds of formulas of which all goes along. Source: this project's own.
use Rattle.std.specs.Prelude.{◌≡◌, ◌⊎◌, ℕ, Bool, true, List, Option, Some}
use Rattle.cell_addr.specs.Place.{IsBlockInside, height, width}
use Rattle.cell_addr.specs.declared.axis.Axis.{Axis}
use Rattle.cell_addr.specs.declared.place.Block.{Block}
use Rattle.cell_addr.specs.declared.place.Place.{Place}
use Rattle.cell_value.specs.declared.scalar.Scalar.{Scalar}
use Rattle.custom_fn.specs.declared.rule.Rule.{Rule}
use Rattle.formula_tree.specs.Links.{names_in}
use Rattle.formula_tree.specs.Term.{Term}
use Rattle.formula_tree.specs.declared.reference.Corner.{Corner}
use Rattle.formula_tree.specs.declared.reference.Home.{Home}
use Rattle.calc_terms.specs.Cells.{cells_in}
use Rattle.calc_terms.specs.Meaning.{meaning}
use Rattle.calc_terms.specs.Needs.{mentions}
use Rattle.calc_terms.specs.World.{World}
use Rattle.shift_core.specs.Bent.{IsBent, IsCut}
use Rattle.shift_core.specs.Sound.{IsSound}
use Rattle.shift_core.specs.Tables.{block_after, place_after}
use Rattle.shift_core.specs.declared.shift.Shift.{Shift}
use Rattle.tree_rewrite.specs.Rewritten.{area_after, placed_by}
use Rattle.carried_terms.specs.Still.{IsStill, ShowAlong, WordsAgree, passage_of}
use Rattle.carried_terms.specs.Following.{Follows, IsWhole, KeepsOffsets}
use Rattle.carried_terms.specs.Carried.{GoesAlong, Passage, ShowsAlong, passed}

-- a formula of which all goes along means the same afterwards
abbrev pub CarriedMeansSame : Type 0
CarriedMeansSame =
    (x : Passage) (customs : List (List ℕ × Rule)) (t : Term Corner) → x.old.today ≡ x.new.today → GoesAlong x t →
    meaning x.old customs x.from t ≡ meaning x.new customs x.to (passed x t)

-- a block of the same size whose places show the same, offset by offset, has the same cells
abbrev pub CellsGoAlong : Type 0
CellsGoAlong =
    (v w : Place → Scalar) (b c : Block) → height b ≡ height c → width b ≡ width c → ShowsAlong v w b c → cells_in v b ≡ cells_in w c

-- the tree mentions then exactly the places to which those that it mentioned went, but for bare places, and the same names
pub record NeedsGo (place : Place → Option Place) (bare : Place → Bool) (t u : Term Corner) : Type 0 where
  pub forth : (p : Place) → mentions t p ≡ true → (bare p ≡ true) ⊎ ((q : Place) × (place p ≡ Some q) × (mentions u q ≡ true))
  pub back : (q : Place) → mentions u q ≡ true → (bare q ≡ true) ⊎ ((p : Place) × (place p ≡ Some q) × (mentions t p ≡ true))
  pub names : names_in u ≡ names_in t

-- it does where its references follow
abbrev pub NeedsFollow : Type 0
NeedsFollow =
    (place : Place → Option Place) (on_area : Option Axis → Block → Option Block) (bare : Place → Bool) (t : Term Corner) → Follows place on_area bare t →
    NeedsGo place bare t (placed_by place on_area t)

-- a block that an operation neither bends nor cuts nor tears keeps its size, and its places their offsets in it
abbrev pub KeptBlocksFollow : Type 0
KeptBlocksFollow =
    (s : Shift) (b c : Block) → IsSound s → IsBlockInside b → ¬ IsBent s b → ¬ IsCut s b → IsWhole s b → block_after s b ≡ Some c → KeepsOffsets s b c

-- all of a formula that an operation carries along as it is goes along, where places show the same where they are then and
-- its words find names that agree; and its references follow
abbrev pub StillGoesAlong : Type 0
StillGoesAlong =
    (s : Shift) (bare : Place → Bool) (v w : World) (from to : Home) (t : Term Corner) → IsSound s → IsStill s bare t → ShowAlong s bare v w →
    WordsAgree (passage_of s v w from to) t → GoesAlong (passage_of s v w from to) t × Follows (place_after s) (area_after s) bare t
