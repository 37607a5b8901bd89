-- Formulas that an operation carries along as they are. Source: this project's own.
use Rattle.std.specs.Prelude.{◌≡◌, ⊤, false, true, ℕ, List, Option, Some, None, ◌⊎◌, Bool}
use Rattle.cell_addr.specs.declared.axis.Axis.{Axis}
use Rattle.cell_addr.specs.declared.place.Block.{Block}
use Rattle.cell_addr.specs.Place.{IsBlockInside, IsInside}
use Rattle.cell_addr.specs.declared.place.Place.{Place}
use Rattle.formula_tree.specs.Reference.{block_of, sheet_of}
use Rattle.formula_tree.specs.Term.{Term, prefix, percent, binary, call, paren, Terms, no_terms, term}
use Rattle.formula_tree.specs.Whole.{whole_between}
use Rattle.formula_tree.specs.declared.reference.Corner.{Corner}
use Rattle.formula_tree.specs.declared.reference.Home.{Home}
use Rattle.shift_core.specs.Bent.{IsBent, IsCut}
use Rattle.shift_core.specs.Tables.{place_after}
use Rattle.shift_core.specs.Wholes.{IsAcross}
use Rattle.shift_core.specs.declared.shift.Shift.{Shift}
use Rattle.tree_rewrite.specs.References.{EachReference}
use Rattle.tree_rewrite.specs.Rewritten.{area_after}
use Rattle.calc_terms.specs.Needs.{mentions_name}
use Rattle.calc_terms.specs.References.{full_block}
use Rattle.calc_terms.specs.World.{World}
use Rattle.carried_terms.specs.Carried.{NamesAgree, Passage, asks_where}
use Rattle.carried_terms.specs.Following.{IsWhole, StaysTorn}

-- the passage of a formula that an operation rewrites
abbrev pub passage_of : Shift → World → World → Home → Home → Passage
passage_of s v w from to = record { place = place_after s; area = area_after s; old = v; new = w; from = from; to = to }

-- a reference within the limits of a sheet that isn't lost
abbrev pub IsStillReference : Shift → Corner → Type 0
IsStillReference s c = IsInside c.at × ((q : Place) × (place_after s c.at ≡ Some q))

-- a block within the limits of a sheet that is neither bent nor cut, nor torn but over bare places
abbrev pub IsStillBlock : Shift → (Place → Bool) → Block → Type 0
IsStillBlock s bare b = IsBlockInside b × (¬ IsBent s b) × (¬ IsCut s b) × (IsWhole s b ⊎ StaysTorn s bare b)

-- such a block, or a whole range of such a block; lines across it aren't edited either
abbrev pub IsStillArea : Shift → (Place → Bool) → Option Axis → Corner → Corner → Type 0
IsStillArea s bare None c d = IsStillBlock s bare (block_of c d)
IsStillArea s bare (Some axis) c d = (¬ IsAcross s (whole_between axis c d)) × IsStillBlock s bare (full_block axis c d)

abbrev mutual
  -- nothing in a tree asks where a cell stands
  pub AsksNowhere : Term Corner → Type 0
  AsksNowhere (prefix s t) = AsksNowhere t
  AsksNowhere (percent t) = AsksNowhere t
  AsksNowhere (binary o l r) = AsksNowhere l × AsksNowhere r
  AsksNowhere (call word ts) = (asks_where word ≡ false) × AllAskNowhere ts
  AsksNowhere (paren t) = AsksNowhere t
  AsksNowhere t = ⊤

  pub AllAskNowhere : Terms Corner → Type 0
  AllAskNowhere no_terms = ⊤
  AllAskNowhere (term t ts) = AsksNowhere t × AllAskNowhere ts

-- each place of the sheets that isn't lost shows the same where it is then, and each bare one where it is
pub record ShowAlong (s : Shift) (bare : Place → Bool) (v w : World) : Type 0 where
  pub moved : (p q : Place) → IsInside p → place_after s p ≡ Some q → v.shown p ≡ w.shown q
  pub bare_ones : (p : Place) → IsInside p → bare p ≡ true → v.shown p ≡ w.shown p

-- each word of the tree finds a name that agrees
abbrev pub WordsAgree : Passage → Term Corner → Type 0
WordsAgree x t =
    (word : List ℕ) → mentions_name t word ≡ true → NamesAgree x (x.old.named word (sheet_of x.from)) (x.new.named word (sheet_of x.to))

-- the operation carries the formula's tree along as it is
pub record IsStill (s : Shift) (bare : Place → Bool) (t : Term Corner) : Type 0 where
  pub references : EachReference (IsStillReference s) (IsStillArea s bare) t
  pub nowhere : AsksNowhere t
