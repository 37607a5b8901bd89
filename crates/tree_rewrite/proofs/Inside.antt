-- What lies within the limits of a sheet stays so over an operation. Serves the passage of trees, and the laws.
use Rattle.std.proofs.Common.{◌≡◌, subst, refl, arith, Option, Some, None, option_map}
use Rattle.std.proofs.lemmas.Option.{same_Some}
use Rattle.cell_addr.specs.declared.axis.Axis.{Axis}
use Rattle.cell_addr.specs.declared.place.Place.{Place}
use Rattle.cell_addr.specs.declared.place.Block.{Block}
use Rattle.cell_addr.specs.Place.{IsInside, IsBlockInside}
use Rattle.formula_tree.specs.Reference.{IsHomeInside, block_of}
use Rattle.formula_tree.specs.StandsFor.{ArePlacesInside, at_home, from_home}
use Rattle.formula_tree.specs.Term.{Term, number, text, truth, fault, cell, area, whole, name, prefix, percent, binary, call, paren, Terms, no_terms, term, EachCornerOfAll}
use Rattle.formula_tree.specs.declared.reference.Corner.{Corner}
use Rattle.formula_tree.specs.declared.reference.Home.{Home}
use Rattle.formula_tree.specs.declared.reference.Home.TheVariants as homes
use Rattle.formula_tree.proofs.SeenFromHome.{seen-back}
use Rattle.shift_core.specs.Form.{form_of}
use Rattle.shift_core.specs.Sound.{IsSound}
use Rattle.shift_core.specs.declared.shift.Shift.{Shift}
use Rattle.shift_core.proofs.PlaceLaws.{place_moved_inside, place_returned_inside}
use Rattle.tree_rewrite.specs.References.{EachReferenceOfAll, IsReferenceInside, IsAreaInside, FitsSheets}
use Rattle.tree_rewrite.specs.Rewritten.{cell_at, area_at}
use Rattle.tree_rewrite.specs.declared.direction.Direction.{Direction}
use Rattle.tree_rewrite.specs.declared.direction.Direction.TheVariants.{Forward, Backward}
use Rattle.tree_rewrite.specs.internal.Passage.{place_in, area_in, tree_in, home_in}
use Rattle.tree_rewrite.proofs.EachReferences.{EachReference-mapped}
use Rattle.tree_rewrite.proofs.WholeAreas.{area_in-inside}

pub place_in-inside : (d : Direction) (s : Shift) (p q : Place) → IsSound s → IsInside p → place_in d s p ≡ Some q → IsInside q
place_in-inside Forward s p q sound i h = place_moved_inside (form_of s) p q sound i h
place_in-inside Backward s p q sound i h = place_returned_inside (form_of s) q p sound i h

cell_at-inside : (c : Corner) (r : Option Place) → ((q : Place) → r ≡ Some q → IsInside q) → FitsSheets (cell_at c r)
cell_at-inside c (Some q) h = h q refl
cell_at-inside c None h = tt

area_at-inside : (lines : Option Axis) (c d : Corner) (r : Option Block) → ((b : Block) → r ≡ Some b → IsBlockInside b) → FitsSheets (area_at lines c d r)
area_at-inside None c d (Some b) h = h b refl
area_at-inside (Some axis) c d (Some b) h = h b refl
area_at-inside lines c d None h = tt

pub tree_in-fits : (d : Direction) (s : Shift) (t : Term Corner) → IsSound s → FitsSheets t → FitsSheets (tree_in d s t)
tree_in-fits d s t sound h =
    EachReference-mapped IsReferenceInside IsAreaInside IsReferenceInside IsAreaInside _ _
    (λ c i. cell_at-inside c (place_in d s c.at) (λ q e. place_in-inside d s c.at q sound i e))
    (λ lines c e i. area_at-inside lines c e (area_in d s lines (block_of c e)) (λ b f. area_in-inside d s lines (block_of c e) b sound i f)) t h

formula-inside : (r : Option Place) (to : Home) → ((q : Place) → r ≡ Some q → IsInside q) → option_map (λ p. homes.Cell p) r ≡ Some to → IsHomeInside to
formula-inside (Some q) to h e = subst IsHomeInside (same_Some _ _ e) (h q refl)
formula-inside None to h e = absurd (cc)

name-inside : {sheet : _} (to : Home) → Some (homes.Name sheet) ≡ Some to → IsHomeInside to
name-inside {sheet} to e = let i : IsHomeInside (homes.Name sheet) = (omega arith, omega arith) in subst IsHomeInside (same_Some _ _ e) i

pub home_in-inside : (d : Direction) (s : Shift) (home to : Home) → IsSound s → IsHomeInside home → home_in d s home ≡ Some to → IsHomeInside to
home_in-inside d s (homes.Cell at) to sound i e = formula-inside (place_in d s at) to (λ q f. place_in-inside d s at q sound i f) e
home_in-inside d s (homes.Name sheet) to sound i e = name-inside to e

mutual
  pub fits-inside : (t : Term Corner) → FitsSheets t → ArePlacesInside t
  fits-inside (number m) p = tt
  fits-inside (text w) p = tt
  fits-inside (truth b) p = tt
  fits-inside (fault f) p = tt
  fits-inside (cell c) p = p
  fits-inside (area c d) p = ((omega arith, omega arith), (omega arith, omega arith))
  fits-inside (whole axis c d) p = ((omega arith, omega arith), (omega arith, omega arith))
  fits-inside (name w) p = tt
  fits-inside (prefix s t) p = fits-inside t p
  fits-inside (percent t) p = fits-inside t p
  fits-inside (binary o l r) p = (fits-inside l p.0, fits-inside r p.1)
  fits-inside (call w ts) p = all_fit-inside ts p
  fits-inside (paren t) p = fits-inside t p

  all_fit-inside : (ts : Terms Corner) → EachReferenceOfAll IsReferenceInside IsAreaInside ts → EachCornerOfAll (λ c. IsInside c.at) ts
  all_fit-inside no_terms p = tt
  all_fit-inside (term t ts) p = (fits-inside t p.0, all_fit-inside ts p.1)

-- a tree that fits is itself again, seen from a home and placed there
pub fits-back : (home : Home) (t : Term Corner) → FitsSheets t → at_home home (from_home home t) ≡ t
fits-back home t p = seen-back home t (fits-inside t p)
