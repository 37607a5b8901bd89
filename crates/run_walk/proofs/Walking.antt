-- References, blocks and whole ranges of a formula over a run, as they are seen from its homes. Serves the walk over a run.
use Rattle.std.proofs.Common.{◌≡◌, ◌≢◌, ◌∙◌, sym, ap, refl, subst, arith, ℕ, ◌≤◌, length, List, [], Option, Some, None, option_and_then, ◌∷◌}
use Rattle.std.proofs.lemmas.Option.{none-some, same_Some}
use Rattle.cell_addr.specs.Place.{IsBlockInside, IsInside}
use Rattle.cell_addr.specs.declared.axis.Axis.{Axis}
use Rattle.cell_addr.specs.declared.place.Block.{Block}
use Rattle.cell_addr.specs.declared.place.Place.{Place}
use Rattle.cell_value.specs.declared.fault.FaultKind.TheVariants as faults
use Rattle.formula_tree.specs.Reference.{IsHomeInside, base_of, block_of, corner_at, ref_from}
use Rattle.formula_tree.specs.StandsFor.{at_home, from_home}
use Rattle.formula_tree.specs.Term.{Term, number, text, truth, fault, cell, area, whole, name, prefix, percent, binary, call, paren, Terms, no_terms, term, each_corner_all, mapped, shaped}
use Rattle.formula_tree.specs.declared.reference.Home.{Home}
use Rattle.formula_tree.specs.declared.reference.Ref.{Ref}
use Rattle.shift_core.specs.Carried.{first_place, last_place}
use Rattle.shift_core.specs.Sound.{IsSound}
use Rattle.shift_core.specs.Tables.{place_after, place_before}
use Rattle.shift_core.specs.declared.shift.Shift.{Shift}
use Rattle.tree_rewrite.proofs.EachReferences.{mapped-seen}
use Rattle.shift_core.proofs.PlaceLaws.{place_moved_inside, place_returned_inside}
use Rattle.shift_core.specs.Form.{form_of}
use Rattle.tree_rewrite.proofs.Inside.{fits-back}
use Rattle.tree_rewrite.proofs.Passing.{full-block, shaped-at}
use Rattle.tree_rewrite.proofs.WholeAreas.{area_after-full, area_after-inside, area_before-full, area_before-inside}
use Rattle.tree_rewrite.specs.References.{EachReference, EachReferenceOfAll, FitsSheets}
use Rattle.tree_rewrite.specs.Rewritten.{area_after, area_at, area_before, cell_at, placed_by}
use Rattle.tree_rewrite.specs.Shaped.{AreShaped}
use Rattle.tree_rewrite.specs.internal.Passage.{IsFull}
use Rattle.run_walk.specs.Run.{AreSound, back_all, over_all}
use Rattle.tree_rewrite.specs.declared.direction.Direction.{Direction}
use Rattle.tree_rewrite.specs.declared.direction.Direction.TheVariants.{Forward, Backward}
use Rattle.run_walk.specs.internal.Freed.{AllFit}
use Rattle.run_walk.specs.internal.Walked.{TakesArea, TakesCell, area_along, area_walked, cell_walked, home_along, place_along, tree_along}
use Rattle.run_walk.proofs.Fusion.{fits-along, walked}
use Rattle.run_walk.proofs.Over.{home_back-inside, home_over-inside}

-- ---- what lies within the limits of a sheet stays so

module _ {X : Type 0} (step : Shift → X → Option X) (P : X → Type 0) (stays : (s : Shift) (x y : X) → IsSound s → P x → step s x ≡ Some y → P y) where
  each-stays : (s : Shift) (run : List Shift) (x z : X) → IsSound s → P x → ((y : X) → P y → over_all step run y ≡ Some z → P z) → (o : Option X) → step s x ≡ o → option_and_then (over_all step run) o ≡ Some z → P z
  each-stays s run x z sound p each None goes is = absurd (none-some z is)
  each-stays s run x z sound p each (Some y) goes is = each y (stays s x y sound p goes) is

  stays-over : (run : List Shift) (x z : X) → AreSound run → P x → over_all step run x ≡ Some z → P z
  stays-over [] x z sound p is = subst P (same_Some x z is) p
  stays-over (s ∷ run) x z sound p is = each-stays s run x z sound.0 p (λ y q e. stays-over run y z sound.1 q e) (step s x) refl is

  last-stays : (s : Shift) (z : X) (o : Option X) → IsSound s → ((y : X) → o ≡ Some y → P y) → option_and_then (step s) o ≡ Some z → P z
  last-stays s z None sound each is = absurd (none-some z is)
  last-stays s z (Some y) sound each is = stays s y z sound (each y refl) is

  stays-back : (run : List Shift) (x z : X) → AreSound run → P x → back_all step run x ≡ Some z → P z
  stays-back [] x z sound p is = subst P (same_Some x z is) p
  stays-back (s ∷ run) x z sound p is = last-stays s z (back_all step run x) sound.0 (λ y e. stays-back run x y sound.1 p e) is

pub place_along-inside : (d : Direction) (run : List Shift) (p q : Place) → AreSound run → IsInside p → place_along d run p ≡ Some q → IsInside q
place_along-inside Forward = stays-over place_after IsInside (λ s x y sound inside is. place_moved_inside (form_of s) x y sound inside is)
place_along-inside Backward = stays-back place_before IsInside (λ s x y sound inside is. place_returned_inside (form_of s) y x sound inside is)

area_along-inside : (d : Direction) (run : List Shift) (lines : Option Axis) (b c : Block) → AreSound run → IsBlockInside b → area_along d run lines b ≡ Some c → IsBlockInside c
area_along-inside Forward run lines = stays-over (λ s. area_after s lines) IsBlockInside (λ s x y sound inside is. area_after-inside s lines x y sound inside is) run
area_along-inside Backward run lines = stays-back (λ s. area_before s lines) IsBlockInside (λ s x y sound inside is. area_before-inside s lines x y sound inside is) run

pub corners-inside : (d : Direction) (run : List Shift) (lines : Option Axis) (b c : Block) → AreSound run → IsBlockInside b → area_along d run lines b ≡ Some c → IsInside (first_place c) × IsInside (last_place c)
corners-inside d run lines b c sound inside is = let i = area_along-inside d run lines b c sound inside is in ((omega arith, omega arith), (omega arith, omega arith))

-- a whole range reaches from one end of the sheet to the other, wherever it goes
area_along-full : (d : Direction) (run : List Shift) (lines : Option Axis) (b c : Block) → AreSound run → IsFull lines b → area_along d run lines b ≡ Some c → IsFull lines c
area_along-full Forward run lines = stays-over (λ s. area_after s lines) (IsFull lines) (λ s x y sound full is. area_after-full s lines x y is) run
area_along-full Backward run lines = stays-back (λ s. area_before s lines) (IsFull lines) (λ s x y sound full is. area_before-full s lines x y is) run

pub home_along-inside : (d : Direction) (run : List Shift) (home to : Home) → AreSound run → IsHomeInside home → home_along d run home ≡ Some to → IsHomeInside to
home_along-inside Forward = home_over-inside
home_along-inside Backward = home_back-inside

-- ---- blocks and whole ranges

module _ (d : Direction) (run : List Shift) (from to : Home) where
  pub area-goes : (lines : Option Axis) (r q : Ref) (b : Block) → area_along d run lines (block_of (corner_at (base_of from) r) (corner_at (base_of from) q)) ≡ Some b
      → area_walked d run from to lines r q
      ≡ shaped lines (ref_from (base_of to) (record (corner_at (base_of from) r) { at = first_place b })) (ref_from (base_of to) (record (corner_at (base_of from) q) { at = last_place b }))
  area-goes None r q b h = ap (λ o. from_home to (area_at None (corner_at (base_of from) r) (corner_at (base_of from) q) o)) h
  area-goes (Some axis) r q b h = ap (λ o. from_home to (area_at (Some axis) (corner_at (base_of from) r) (corner_at (base_of from) q) o)) h

  pub area-lost : (lines : Option Axis) (r q : Ref) → area_along d run lines (block_of (corner_at (base_of from) r) (corner_at (base_of from) q)) ≡ None → area_walked d run from to lines r q ≡ fault faults.Ref
  area-lost lines r q h = ap (λ o. from_home to (area_at lines (corner_at (base_of from) r) (corner_at (base_of from) q) o)) h

  -- the corners of what a whole range becomes are those of one
  pub area-shaped : (lines : Option Axis) (r q : Ref) (b : Block) → AreSound run → AreShaped lines r q → area_along d run lines (block_of (corner_at (base_of from) r) (corner_at (base_of from) q)) ≡ Some b
      → AreShaped lines (ref_from (base_of to) (record (corner_at (base_of from) r) { at = first_place b })) (ref_from (base_of to) (record (corner_at (base_of from) q) { at = last_place b }))
  area-shaped lines r q b sound shape h =
      let full = area_along-full d run lines (block_of (corner_at (base_of from) r) (corner_at (base_of from) q)) b sound (full-block lines r q (base_of from) shape) h in
      shaped-at lines r q (base_of from) (base_of to) b shape full

-- ---- trees

-- what a walk makes of each reference is what the run makes of the tree
pub walked-each : (d : Direction) (run : List Shift) (from to : Home) (t : Term Ref) → mapped (cell_walked d run from to) (area_walked d run from to) t ≡ from_home to (placed_by (place_along d run) (area_along d run) (at_home from t))
walked-each d run from to t = mapped-seen (corner_at (base_of from)) (λ c. cell_at c (place_along d run c.at)) (λ lines c e. area_at lines c e (area_along d run lines (block_of c e))) (ref_from (base_of to)) t

-- placed at the home at the other end of the run it is what the operations make of it
pub walked-at_home : (d : Direction) (run : List Shift) (from to : Home) (t u : Term Ref) → run ≢ [] → AreSound run → FitsSheets (at_home from t) → u ≡ mapped (cell_walked d run from to) (area_walked d run from to) t → at_home to u ≡ tree_along d run (at_home from t)
walked-at_home d run from to t u some sound fits is =
    ap (at_home to) (is ∙ walked-each d run from to t ∙ ap (from_home to) (sym (walked d run (at_home from t) some)))
    ∙ fits-back to (tree_along d run (at_home from t)) (fits-along d run (at_home from t) sound fits)

pub walked-fits : (d : Direction) (run : List Shift) (from to : Home) (t u : Term Ref) → AreSound run → FitsSheets (at_home from t) → at_home to u ≡ tree_along d run (at_home from t) → FitsSheets (at_home to u)
walked-fits d run from to t u sound fits is = subst FitsSheets (sym is) (fits-along d run (at_home from t) sound fits)

-- a walk takes all references that fit
mutual
  pub taken-each : (run : List Shift) (count : ℕ) (from to : Home) → AreSound run → count ≤ length run → IsHomeInside to → (t : Term Ref) → FitsSheets (at_home from t) → EachReference (TakesCell run count from to) (TakesArea run count from to) t
  taken-each run count from to s w h (number m) f = tt
  taken-each run count from to s w h (text n) f = tt
  taken-each run count from to s w h (truth b) f = tt
  taken-each run count from to s w h (fault k) f = tt
  taken-each run count from to s w h (cell r) f = (s, w, h, f)
  taken-each run count from to s w h (area r q) f = (s, w, h, f)
  taken-each run count from to s w h (whole axis r q) f = (s, w, h, f)
  taken-each run count from to s w h (name n) f = tt
  taken-each run count from to s w h (prefix o t) f = taken-each run count from to s w h t f
  taken-each run count from to s w h (percent t) f = taken-each run count from to s w h t f
  taken-each run count from to s w h (binary o l r) f = (taken-each run count from to s w h l f.0, taken-each run count from to s w h r f.1)
  taken-each run count from to s w h (call n ts) f = all-taken run count from to s w h ts f
  taken-each run count from to s w h (paren t) f = taken-each run count from to s w h t f

  all-taken : (run : List Shift) (count : ℕ) (from to : Home) → AreSound run → count ≤ length run → IsHomeInside to → (ts : Terms Ref) → AllFit (each_corner_all (corner_at (base_of from)) ts) → EachReferenceOfAll (TakesCell run count from to) (TakesArea run count from to) ts
  all-taken run count from to s w h no_terms f = tt
  all-taken run count from to s w h (term t ts) f = (taken-each run count from to s w h t f.0, all-taken run count from to s w h ts f.1)
