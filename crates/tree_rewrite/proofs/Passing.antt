-- What the passage makes of references, blocks and whole ranges, and of trees. Serves the passage of trees.
use Rattle.std.proofs.Common.{◌≡◌, ◌∙◌, sym, ap, subst, refl, arith, Option, Some, None}
use Rattle.cell_addr.specs.declared.axis.Axis.{Axis}
use Rattle.cell_addr.specs.declared.axis.Axis.TheVariants.{Rows, Cols}
use Rattle.cell_addr.specs.Place.{IsInside, IsBlockInside}
use Rattle.cell_addr.specs.declared.place.Place.{Place}
use Rattle.cell_addr.specs.declared.place.Block.{Block}
use Rattle.cell_value.specs.declared.fault.FaultKind.TheVariants as faults
use Rattle.formula_tree.specs.Reference.{IsHomeInside, base_of, corner_at, ref_from, block_of, is_fixed, part_from, sheet_from}
use Rattle.formula_tree.specs.StandsFor.{at_home, from_home}
use Rattle.formula_tree.specs.Term.{Term, number, text, truth, fault, cell, area, whole, name, prefix, percent, binary, call, paren, Terms, no_terms, term, mapped, each_corner, each_corner_all, shaped}
use Rattle.formula_tree.specs.declared.reference.Home.{Home}
use Rattle.formula_tree.specs.Whole.{first_ref, last_ref}
use Rattle.formula_tree.specs.declared.reference.Part.{Part}
use Rattle.formula_tree.specs.declared.reference.Ref.{Ref}
use Rattle.formula_tree.specs.declared.reference.SheetPart.{SheetPart}
use Rattle.shift_core.specs.Carried.{first_place, last_place}
use Rattle.shift_core.specs.Sound.{IsSound}
use Rattle.tree_rewrite.specs.Rewritten.{cell_at, area_at}
use Rattle.formula_tree.specs.declared.reference.Corner.{Corner}
use Rattle.shift_core.specs.declared.shift.Shift.{Shift}
use Rattle.tree_rewrite.specs.declared.direction.Direction.{Direction}
use Rattle.tree_rewrite.specs.declared.passage.Passage.{Passage}
use Rattle.tree_rewrite.specs.internal.Passage.{IsFull, place_in, area_in, tree_in, Fits, passed, cell_passed, area_passed, TakesCell, TakesArea}
use Rattle.tree_rewrite.proofs.EachReferences.{mapped-seen}
use Rattle.tree_rewrite.proofs.Inside.{place_in-inside, tree_in-fits, fits-back}
use Rattle.tree_rewrite.proofs.WholeAreas.{area_in-inside}
use Rattle.tree_rewrite.specs.Shaped.{AreShaped, part_along}
use Rattle.tree_rewrite.specs.References.{EachReference, EachReferenceOfAll, IsReferenceInside, IsAreaInside, FitsSheets}

module _ (p : Passage) where
  -- references, and blocks or whole ranges
  pub cell-goes : (r : Ref) (at : Place) → place_in p.direction p.shift (corner_at (base_of p.from) r).at ≡ Some at
      → passed p (cell r) ≡ cell (ref_from (base_of p.to) (record (corner_at (base_of p.from) r) { at = at }))
  unfolding passed
  cell-goes r at h = ap (λ o. from_home p.to (cell_at (corner_at (base_of p.from) r) o)) h

  pub cell-lost : (r : Ref) → place_in p.direction p.shift (corner_at (base_of p.from) r).at ≡ None → passed p (cell r) ≡ fault faults.Ref
  unfolding passed
  cell-lost r h = ap (λ o. from_home p.to (cell_at (corner_at (base_of p.from) r) o)) h

  pub area-goes : (lines : Option Axis) (r q : Ref) (b : Block) → area_in p.direction p.shift lines (block_of (corner_at (base_of p.from) r) (corner_at (base_of p.from) q)) ≡ Some b
      → passed p (shaped lines r q)
      ≡ shaped lines (ref_from (base_of p.to) (record (corner_at (base_of p.from) r) { at = first_place b })) (ref_from (base_of p.to) (record (corner_at (base_of p.from) q) { at = last_place b }))
  unfolding passed
  area-goes None r q b h = ap (λ o. from_home p.to (area_at None (corner_at (base_of p.from) r) (corner_at (base_of p.from) q) o)) h
  area-goes (Some axis) r q b h = ap (λ o. from_home p.to (area_at (Some axis) (corner_at (base_of p.from) r) (corner_at (base_of p.from) q) o)) h

  pub area-lost : (lines : Option Axis) (r q : Ref) → area_in p.direction p.shift lines (block_of (corner_at (base_of p.from) r) (corner_at (base_of p.from) q)) ≡ None
      → passed p (shaped lines r q) ≡ fault faults.Ref
  unfolding passed
  area-lost None r q h = ap (λ o. from_home p.to (area_at None (corner_at (base_of p.from) r) (corner_at (base_of p.from) q) o)) h
  area-lost (Some axis) r q h = ap (λ o. from_home p.to (area_at (Some axis) (corner_at (base_of p.from) r) (corner_at (base_of p.from) q) o)) h

  -- where references, blocks and whole ranges come to lies within the limits of a sheet
  pub cell-inside : (r : Ref) (at : Place) → IsSound p.shift → Fits p.from (cell r) → place_in p.direction p.shift (corner_at (base_of p.from) r).at ≡ Some at → IsInside at
  unfolding Fits
  cell-inside r at sound f h = place_in-inside p.direction p.shift (corner_at (base_of p.from) r).at at sound f h

  -- the block of a reference that fits
  shaped-fits : (lines : Option Axis) (r q : Ref) → Fits p.from (shaped lines r q) → IsBlockInside (block_of (corner_at (base_of p.from) r) (corner_at (base_of p.from) q))
  unfolding Fits
  shaped-fits None r q f = f
  shaped-fits (Some axis) r q f = f

  pub area-inside : (lines : Option Axis) (r q : Ref) (b : Block) → IsSound p.shift → Fits p.from (shaped lines r q)
      → area_in p.direction p.shift lines (block_of (corner_at (base_of p.from) r) (corner_at (base_of p.from) q)) ≡ Some b → IsInside (first_place b) × IsInside (last_place b)
  area-inside lines r q b sound f h =
      let i = area_in-inside p.direction p.shift lines (block_of (corner_at (base_of p.from) r) (corner_at (base_of p.from) q)) b sound (shaped-fits lines r q f) h in
      ((omega arith, omega arith), (omega arith, omega arith))

-- the block between two corners, as the program has them
pub corners-block : (c e top bottom : Corner) (b : Block) → c ≡ top → e ≡ bottom → b ≡ block_of c e → b ≡ block_of top bottom
corners-block c e top bottom b f g h = h ∙ ap (block_of c) g ∙ ap (λ x. block_of x bottom) f

pub block-passed : (d : Direction) (s : Shift) (lines : Option Axis) (b block : Block) (r : Option Block) → b ≡ block → area_in d s lines b ≡ r → area_in d s lines block ≡ r
block-passed d s lines b block r e h = ap (area_in d s lines) (sym e) ∙ h

-- a corner at another place, as the program has it
pub ref-at : (to : Home) (c top : Corner) (at place : Place) (new : Ref) → c ≡ top → at ≡ place → new ≡ ref_from (base_of to) (record c { at = at })
    → new ≡ ref_from (base_of to) (record top { at = place })
ref-at to c top at place new f g h = h ∙ ap (λ x. ref_from (base_of to) (record x { at = at })) f ∙ ap (λ x. ref_from (base_of to) (record top { at = x })) g

pub same-area : (lines : Option Axis) (r q u v : Ref) → r ≡ u → q ≡ v → shaped lines r q ≡ shaped lines u v
same-area lines r q u v f g = ap (λ x. shaped lines x q) f ∙ ap (shaped lines u) g

-- the block between the references of a whole range
full-along : (axis : Axis) (sheet : SheetPart) (first last : Part) (base : Place) → IsFull (Some axis) (block_of (corner_at base (first_ref axis sheet first)) (corner_at base (last_ref axis sheet last)))
full-along Rows sheet first last base = refl
full-along Cols sheet first last base = refl

pub full-block : (lines : Option Axis) (r q : Ref) (base : Place) → AreShaped lines r q → IsFull lines (block_of (corner_at base r) (corner_at base q))
full-block None r q base h = tt
full-block (Some axis) r q base h =
    let first = first_ref axis r.sheet (part_along axis r) in
    let along = full-along axis r.sheet (part_along axis r) (part_along axis q) base in
    subst (λ x. IsFull (Some axis) (block_of (corner_at base x) (corner_at base q))) (sym h.0) (subst (λ x. IsFull (Some axis) (block_of (corner_at base first) (corner_at base x))) (sym h.1) along)

-- a corner of a whole range at the end of another one is seen as one
first-shaped : (axis : Axis) (r : Ref) (base to : Place) (b : Block) → r ≡ first_ref axis r.sheet (part_along axis r) → IsFull (Some axis) b
    → ref_from to (record (corner_at base r) { at = first_place b }) ≡ first_ref axis (sheet_from to.sheet b.sheet) (part_along axis (ref_from to (record (corner_at base r) { at = first_place b })))
first-shaped Rows r base to b h full =
    λ i. record {
      sheet = sheet_from to.sheet b.sheet;
      row = part_from to.row (is_fixed r.row) b.top;
      col = part_from to.col (is_fixed (ap (λ x. x.col) h i)) (sym (ap (λ x. x.left) full) i);
    }
first-shaped Cols r base to b h full =
    λ i. record {
      sheet = sheet_from to.sheet b.sheet;
      row = part_from to.row (is_fixed (ap (λ x. x.row) h i)) (sym (ap (λ x. x.top) full) i);
      col = part_from to.col (is_fixed r.col) b.left;
    }

last-shaped : (axis : Axis) (sheet : SheetPart) (q : Ref) (base to : Place) (b : Block) → q ≡ last_ref axis sheet (part_along axis q) → IsFull (Some axis) b
    → ref_from to (record (corner_at base q) { at = last_place b }) ≡ last_ref axis (sheet_from to.sheet b.sheet) (part_along axis (ref_from to (record (corner_at base q) { at = last_place b })))
last-shaped Rows sheet q base to b h full =
    λ i. record {
      sheet = sheet_from to.sheet b.sheet;
      row = part_from to.row (is_fixed q.row) b.bottom;
      col = part_from to.col (is_fixed (ap (λ x. x.col) h i)) (sym (ap (λ x. x.right) full) i);
    }
last-shaped Cols sheet q base to b h full =
    λ i. record {
      sheet = sheet_from to.sheet b.sheet;
      row = part_from to.row (is_fixed (ap (λ x. x.row) h i)) (sym (ap (λ x. x.bottom) full) i);
      col = part_from to.col (is_fixed q.col) b.right;
    }

pub shaped-at : (lines : Option Axis) (r q : Ref) (base to : Place) (b : Block) → AreShaped lines r q → IsFull lines b
    → AreShaped lines (ref_from to (record (corner_at base r) { at = first_place b })) (ref_from to (record (corner_at base q) { at = last_place b }))
shaped-at None r q base to b h full = tt
shaped-at (Some axis) r q base to b h full = (first-shaped axis r base to b h.0 full, last-shaped axis r.sheet q base to b h.1 full)

-- a tree that fits at its home
pub Fits-at_home : (home : Home) (t : Term Ref) → FitsSheets (at_home home t) → Fits home t
unfolding Fits
Fits-at_home home t h = h

-- what a tree becomes, placed at the home at the other end, is what the operation makes of it
pub passed-at_home : (p : Passage) (t : Term Ref) → IsSound p.shift → FitsSheets (at_home p.from t) → at_home p.to (passed p t) ≡ tree_in p.direction p.shift (at_home p.from t)
unfolding passed
passed-at_home p t sound h = fits-back p.to (tree_in p.direction p.shift (at_home p.from t)) (tree_in-fits p.direction p.shift (at_home p.from t) sound h)

-- what it makes of a block or whole range, as it is seen from both homes
area-seen : (p : Passage) (lines : Option Axis) (r q : Ref)
    → area_passed p lines r q
    ≡ each_corner (ref_from (base_of p.to)) (area_at lines (corner_at (base_of p.from) r) (corner_at (base_of p.from) q)
    (area_in p.direction p.shift lines (block_of (corner_at (base_of p.from) r) (corner_at (base_of p.from) q))))
unfolding passed
area-seen p None r q = refl
area-seen p (Some axis) r q = refl

-- what a passage makes of a tree is what it makes of each of its references
pub passed-each : (p : Passage) (t : Term Ref) → mapped (cell_passed p) (area_passed p) t ≡ passed p t
unfolding passed
passed-each p t =
    (λ i. mapped (cell_passed p) (λ lines r q. area-seen p lines r q i) t)
    ∙ mapped-seen (corner_at (base_of p.from)) (λ c. cell_at c (place_in p.direction p.shift c.at)) (λ lines c d. area_at lines c d (area_in p.direction p.shift lines (block_of c d))) (ref_from (base_of p.to)) t

-- a sound passage between homes takes all references that fit
mutual
  unfolding Fits

  pub taken-each : (p : Passage) → IsSound p.shift → IsHomeInside p.to → (t : Term Ref) → FitsSheets (at_home p.from t) → EachReference (TakesCell p) (TakesArea p) t
  taken-each p s h (number m) f = tt
  taken-each p s h (text w) f = tt
  taken-each p s h (truth b) f = tt
  taken-each p s h (fault k) f = tt
  taken-each p s h (cell r) f = (s, h, f)
  taken-each p s h (area r q) f = (s, h, f)
  taken-each p s h (whole axis r q) f = (s, h, f)
  taken-each p s h (name w) f = tt
  taken-each p s h (prefix o t) f = taken-each p s h t f
  taken-each p s h (percent t) f = taken-each p s h t f
  taken-each p s h (binary o l r) f = (taken-each p s h l f.0, taken-each p s h r f.1)
  taken-each p s h (call w ts) f = all_taken-each p s h ts f
  taken-each p s h (paren t) f = taken-each p s h t f

  all_taken-each : (p : Passage) → IsSound p.shift → IsHomeInside p.to → (ts : Terms Ref) → EachReferenceOfAll IsReferenceInside IsAreaInside (each_corner_all (corner_at (base_of p.from)) ts)
      → EachReferenceOfAll (TakesCell p) (TakesArea p) ts
  all_taken-each p s h no_terms f = tt
  all_taken-each p s h (term t ts) f = (taken-each p s h t f.0, all_taken-each p s h ts f.1)
