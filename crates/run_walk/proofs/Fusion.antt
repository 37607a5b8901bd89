-- Rules for places, blocks and whole ranges, one after the other, are one rule; so a tree over a run is the tree of its references over
-- the run. Serves the walk over a run.
use Rattle.std.proofs.Common.{◌≡◌, ◌≢◌, ◌∙◌, sym, ap, refl, List, [], ◌∷◌, Option, Some, None, option_and_then}
use Rattle.cell_addr.specs.declared.axis.Axis.{Axis}
use Rattle.cell_addr.specs.declared.place.Block.{Block}
use Rattle.cell_addr.specs.declared.place.Place.{Place}
use Rattle.formula_tree.specs.Reference.{block_of}
use Rattle.formula_tree.specs.Term.{Term, number, text, truth, fault, cell, area, whole, name, prefix, percent, binary, call, paren, Terms, no_terms, term}
use Rattle.formula_tree.specs.declared.reference.Corner.{Corner}
use Rattle.shift_core.specs.Carried.{first_place, last_place}
use Rattle.shift_core.specs.Tables.{place_after, place_before}
use Rattle.shift_core.specs.declared.shift.Shift.{Shift}
use Rattle.tree_rewrite.proofs.CallerLemmas.{fit-stays}
use Rattle.tree_rewrite.specs.References.{FitsSheets}
use Rattle.tree_rewrite.specs.Rewritten.{area_after, area_at, area_before, cell_at, placed_by, returned, rewritten}
use Rattle.tree_rewrite.specs.internal.Passage.{all_placed_by}
use Rattle.run_walk.specs.Run.{AreSound, area_back, area_over, place_back, place_over, tree_back, tree_over}
use Rattle.run_walk.specs.internal.Walked.{area_along, place_along, tree_along}
use Rattle.tree_rewrite.specs.declared.direction.Direction.{Direction}
use Rattle.tree_rewrite.specs.declared.direction.Direction.TheVariants.{Forward, Backward}
use Rattle.run_walk.proofs.Over.{option-all}

-- a corner that is at another place already, at a third one
cell-again : (c : Corner) (p : Place) (o : Option Place) → cell_at (record c { at = p }) o ≡ cell_at c o
cell-again c p None = refl
cell-again c p (Some q) = refl

area-again : (lines : Option Axis) (c d : Corner) (p q : Place) (o : Option Block) → area_at lines (record c { at = p }) (record d { at = q }) o ≡ area_at lines c d o
area-again lines c d p q None = refl
area-again lines c d p q (Some b) = refl

module _ (place : Place → Option Place) (area : Option Axis → Block → Option Block) where
  cell-fused : (c : Corner) (o : Option Place) → placed_by place area (cell_at c o) ≡ cell_at c (option_and_then place o)
  cell-fused c None = refl
  cell-fused c (Some p) = cell-again c p (place p)

  area-fused : (lines : Option Axis) (c d : Corner) (o : Option Block) → placed_by place area (area_at lines c d o) ≡ area_at lines c d (option_and_then (area lines) o)
  area-fused None c d (Some b) = area-again None c d (first_place b) (last_place b) (area None b)
  area-fused (Some axis) c d (Some b) = area-again (Some axis) c d (first_place b) (last_place b) (area (Some axis) b)
  area-fused lines c d None = refl

-- the first two rules, and then the others
mutual
  fused : (f g : Place → Option Place) (h k : Option Axis → Block → Option Block) (t : Term Corner) → placed_by g k (placed_by f h t) ≡ placed_by (λ p. option_and_then g (f p)) (λ lines b. option_and_then (k lines) (h lines b)) t
  fused f g h k (number m) = refl
  fused f g h k (text w) = refl
  fused f g h k (truth b) = refl
  fused f g h k (fault e) = refl
  fused f g h k (cell c) = cell-fused g k c (f c.at)
  fused f g h k (area c d) = area-fused g k None c d (h None (block_of c d))
  fused f g h k (whole axis c d) = area-fused g k (Some axis) c d (h (Some axis) (block_of c d))
  fused f g h k (name w) = refl
  fused f g h k (prefix s t) = ap (λ x. prefix s x) (fused f g h k t)
  fused f g h k (percent t) = ap (λ x. percent x) (fused f g h k t)
  fused f g h k (binary o l r) =
      ap (λ x. binary o x (placed_by g k (placed_by f h r))) (fused f g h k l)
      ∙ ap (λ x. binary o (placed_by (λ p. option_and_then g (f p)) (λ lines b. option_and_then (k lines) (h lines b)) l) x) (fused f g h k r)
  fused f g h k (call w ts) = ap (λ x. call w x) (all-fused f g h k ts)
  fused f g h k (paren t) = ap (λ x. paren x) (fused f g h k t)

  all-fused : (f g : Place → Option Place) (h k : Option Axis → Block → Option Block) (ts : Terms Corner)
      → all_placed_by g k (all_placed_by f h ts) ≡ all_placed_by (λ p. option_and_then g (f p)) (λ lines b. option_and_then (k lines) (h lines b)) ts
  all-fused f g h k no_terms = refl
  all-fused f g h k (term t ts) =
      ap (λ x. term x (all_placed_by g k (all_placed_by f h ts))) (fused f g h k t)
      ∙ ap (λ x. term (placed_by (λ p. option_and_then g (f p)) (λ lines b. option_and_then (k lines) (h lines b)) t) x) (all-fused f g h k ts)

-- a tree over some operations, by its references, blocks and whole ranges over them
walked-some : (s : Shift) (run : List Shift) (t : Term Corner) → tree_over (s ∷ run) t ≡ placed_by (place_over (s ∷ run)) (area_over (s ∷ run)) t
walked-some s [] t = sym (λ i. placed_by (λ p. option-all (place_after s p) i) (λ lines b. option-all (area_after s lines b) i) t)
walked-some s (z ∷ run) t = walked-some z run (rewritten s t) ∙ fused (place_after s) (place_over (z ∷ run)) (area_after s) (area_over (z ∷ run)) t

-- and back over them
walked-back : (s : Shift) (run : List Shift) (t : Term Corner) → tree_back (s ∷ run) t ≡ placed_by (place_back (s ∷ run)) (area_back (s ∷ run)) t
walked-back s [] t = refl
walked-back s (z ∷ run) t = ap (returned s) (walked-back z run t) ∙ fused (place_back (z ∷ run)) (place_before s) (area_back (z ∷ run)) (area_before s) t

pub walked : (d : Direction) (run : List Shift) (t : Term Corner) → run ≢ [] → tree_along d run t ≡ placed_by (place_along d run) (area_along d run) t
walked d [] t some = absurd (some refl)
walked Forward (s ∷ run) t some = walked-some s run t
walked Backward (s ∷ run) t some = walked-back s run t

-- references, blocks and whole ranges within the limits of a sheet stay so
pub fits-along : (d : Direction) (run : List Shift) (t : Term Corner) → AreSound run → FitsSheets t → FitsSheets (tree_along d run t)
fits-along Forward [] t sound fits = fits
fits-along Forward (s ∷ run) t sound fits = fits-along Forward run (rewritten s t) sound.1 (fit-stays s t sound.0 fits).0
fits-along Backward [] t sound fits = fits
fits-along Backward (s ∷ run) t sound fits = (fit-stays s (tree_back run t) sound.0 (fits-along Backward run t sound.1 fits)).1
