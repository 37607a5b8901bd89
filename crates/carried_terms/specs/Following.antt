-- Where what a formula mentions goes. Source: this project's own.
use Rattle.std.specs.Prelude.{◌≡◌, ◌⊎◌, ⊤, Bool, true, false, ◌&&◌, Option, Some, None}
use Rattle.cell_addr.specs.declared.axis.Axis.{Axis}
use Rattle.cell_addr.specs.declared.place.Block.{Block}
use Rattle.cell_addr.specs.declared.place.Place.{Place}
use Rattle.cell_addr.specs.Place.{Covers, covers, height, width}
use Rattle.formula_tree.specs.Links.{is_place_word}
use Rattle.formula_tree.specs.Reference.{block_of}
use Rattle.formula_tree.specs.Term.{Term, cell, area, whole, prefix, percent, binary, call, paren, Terms, no_terms, term, is_reference}
use Rattle.formula_tree.specs.declared.reference.Corner.{Corner}
use Rattle.shift_core.specs.Carried.{carried_place, contains, destination, first_place}
use Rattle.shift_core.specs.Form.{form_of}
use Rattle.shift_core.specs.Tables.{block_after, place_after}
use Rattle.shift_core.specs.declared.form.Form.{Form}
use Rattle.shift_core.specs.declared.form.Form.TheVariants.{Cells}
use Rattle.shift_core.specs.declared.shift.Shift.{Shift}
use Rattle.carried_terms.specs.Carried.{seen_block}

-- a rule puts the places of the first block exactly at those of the second one, but for places that are bare
pub record PlacesGo (place : Place → Option Place) (bare : Place → Bool) (b c : Block) : Type 0 where
  pub forth : (p : Place) → Covers b p → (bare p ≡ true) ⊎ ((q : Place) × (place p ≡ Some q) × Covers c q)
  pub back : (q : Place) → Covers c q → (bare q ≡ true) ⊎ ((p : Place) × (place p ≡ Some q) × Covers b p)

-- a block, or that of a whole range, isn't lost, and its places go where it does
abbrev pub AreaFollows : (Place → Option Place) → (Option Axis → Block → Option Block) → (Place → Bool) → Option Axis → Block → Type 0
AreaFollows place on_area bare lines b = (c : Block) × (on_area lines b ≡ Some c) × PlacesGo place bare (seen_block lines b) (seen_block lines c)

abbrev mutual
  -- the places that a tree mentions go where its references do: none of them is lost, and the blocks and whole ranges
  -- take their places along
  pub Follows : (Place → Option Place) → (Option Axis → Block → Option Block) → (Place → Bool) → Term Corner → Type 0
  Follows place on_area bare (cell c) = (q : Place) × (place c.at ≡ Some q)
  Follows place on_area bare (area c d) = AreaFollows place on_area bare None (block_of c d)
  Follows place on_area bare (whole axis c d) = AreaFollows place on_area bare (Some axis) (block_of c d)
  Follows place on_area bare (prefix s t) = Follows place on_area bare t
  Follows place on_area bare (percent t) = Follows place on_area bare t
  Follows place on_area bare (binary o l r) = Follows place on_area bare l × Follows place on_area bare r
  Follows place on_area bare (call w ts) = AllFollow place on_area bare (is_place_word w) ts
  Follows place on_area bare (paren t) = Follows place on_area bare t
  Follows place on_area bare t = ⊤

  -- so do the arguments of a call, of which those that are references are skipped or not
  pub AllFollow : (Place → Option Place) → (Option Axis → Block → Option Block) → (Place → Bool) → Bool → Terms Corner → Type 0
  AllFollow place on_area bare skip no_terms = ⊤
  AllFollow place on_area bare skip (term t ts) = ((skip && is_reference t) ≡ false → Follows place on_area bare t) × AllFollow place on_area bare skip ts

-- a moved block of cells doesn't tear the block: it has all of it along, or meets it neither where it was nor where it comes
abbrev pub IsWholeIn : Form → Block → Type 0
IsWholeIn (Cells source to) b =
    (contains source b ≡ true) ⊎ ((p : Place) → Covers b p → (covers source p ≡ false) × (covers (destination source to) p ≡ false))
IsWholeIn _ b = ⊤

abbrev pub IsWhole : Shift → Block → Type 0
IsWhole s b = IsWholeIn (form_of s) b

-- the block is as large as before, and its places keep their offsets in it
pub record KeepsOffsets (s : Shift) (b c : Block) : Type 0 where
  pub heights : height b ≡ height c
  pub widths : width b ≡ width c
  pub offsets : (p : Place) → Covers b p → place_after s p ≡ Some (carried_place b (first_place c) p)
  pub places : PlacesGo (place_after s) (λ p. false) b c

-- the block stays where it is, though the moved cells tear it: each of its places stays too, or is bare
abbrev pub StaysTorn : Shift → (Place → Bool) → Block → Type 0
StaysTorn s bare b = (block_after s b ≡ Some b) × ((p : Place) → Covers b p → (bare p ≡ true) ⊎ (place_after s p ≡ Some p))
