-- What stays of a tree when its references, blocks and whole ranges are replaced by leaves: its levels, and that it is proper.
-- Serves the laws.
use Rattle.std.proofs.Common.{◌≡◌, ◌<◌, ◌≤◌, sym, ap, refl, arith, ◌∙◌, ℕ, ◌+◌, max, Option, Some, None}
use Rattle.cell_addr.specs.declared.axis.Axis.{Axis}
use Rattle.cell_addr.specs.declared.axis.Axis.TheVariants.{Rows, Cols}
use Rattle.cell_addr.specs.declared.place.Place.{Place}
use Rattle.cell_addr.specs.declared.place.Block.{Block}
use Rattle.cell_addr.specs.Axis.{line_of}
use Rattle.cell_addr.specs.Place.{IsInside, IsBlockInside}
use Rattle.formula_tree.specs.Level.{level, level_of, percent_level, sign_level, atom_level}
use Rattle.formula_tree.specs.Proper.{IsProper, AreProper, AreOrdered}
use Rattle.formula_tree.specs.Reference.{block_of}
use Rattle.formula_tree.specs.Term.{Term, number, text, truth, fault, cell, area, whole, name, prefix, percent, binary, call, paren, Terms, no_terms, term, depth_of, depth_of_all, mapped, mapped_all, shaped}
use Rattle.formula_tree.specs.Whole.{AreWhole, first_corner, last_corner, fixed_along}
use Rattle.formula_tree.specs.declared.reference.Corner.{Corner}
use Rattle.shift_core.specs.Carried.{first_place, last_place}
use Rattle.shift_core.specs.Sound.{IsSound}
use Rattle.shift_core.specs.declared.shift.Shift.{Shift}
use Rattle.tree_rewrite.specs.References.{EachReference, EachReferenceOfAll, IsReferenceInside, IsAreaInside, FitsSheets}
use Rattle.tree_rewrite.specs.Rewritten.{cell_at, area_at, rewritten}
use Rattle.tree_rewrite.specs.declared.direction.Direction.{Direction}
use Rattle.tree_rewrite.specs.declared.direction.Direction.TheVariants.{Forward}
use Rattle.tree_rewrite.specs.internal.Passage.{IsFull, place_in, area_in, tree_in}
use Rattle.tree_rewrite.proofs.Inside.{place_in-inside}
use Rattle.tree_rewrite.proofs.WholeAreas.{area_in-full, area_in-inside}

depth_of-cell_at : (c : Corner) (r : Option Place) → depth_of (cell_at c r) ≡ 1
depth_of-cell_at c (Some p) = refl
depth_of-cell_at c None = refl

depth_of-area_at : (lines : Option Axis) (c d : Corner) (r : Option Block) → depth_of (area_at lines c d r) ≡ 1
depth_of-area_at None c d (Some b) = refl
depth_of-area_at (Some axis) c d (Some b) = refl
depth_of-area_at lines c d None = refl

mutual
  pub depth_of-mapped : {R S : Type 0} (f : R → Term S) (g : Option Axis → R → R → Term S) → ((r : R) → depth_of (f r) ≡ 1) → ((lines : Option Axis) (r q : R) → depth_of (g lines r q) ≡ 1) → (t : Term R) → depth_of (mapped f g t) ≡ depth_of t
  depth_of-mapped f g h k (number m) = refl
  depth_of-mapped f g h k (text w) = refl
  depth_of-mapped f g h k (truth b) = refl
  depth_of-mapped f g h k (fault e) = refl
  depth_of-mapped f g h k (cell r) = h r
  depth_of-mapped f g h k (area r q) = k None r q
  depth_of-mapped f g h k (whole axis r q) = k (Some axis) r q
  depth_of-mapped f g h k (name w) = refl
  depth_of-mapped f g h k (prefix s t) = ap (λ n. n + 1) (depth_of-mapped f g h k t)
  depth_of-mapped f g h k (percent t) = ap (λ n. n + 1) (depth_of-mapped f g h k t)
  depth_of-mapped f g h k (binary o l r) = ap (λ n. max n (depth_of (mapped f g r)) + 1) (depth_of-mapped f g h k l) ∙ ap (λ n. max (depth_of l) n + 1) (depth_of-mapped f g h k r)
  depth_of-mapped f g h k (call w ts) = ap (λ n. n + 1) (depth_of_all-mapped f g h k ts)
  depth_of-mapped f g h k (paren t) = ap (λ n. n + 1) (depth_of-mapped f g h k t)

  depth_of_all-mapped : {R S : Type 0} (f : R → Term S) (g : Option Axis → R → R → Term S) → ((r : R) → depth_of (f r) ≡ 1) → ((lines : Option Axis) (r q : R) → depth_of (g lines r q) ≡ 1) → (ts : Terms R) → depth_of_all (mapped_all f g ts) ≡ depth_of_all ts
  depth_of_all-mapped f g h k no_terms = refl
  depth_of_all-mapped f g h k (term t ts) = ap (λ n. max n (depth_of_all (mapped_all f g ts))) (depth_of-mapped f g h k t) ∙ ap (λ n. max (depth_of t) n) (depth_of_all-mapped f g h k ts)

pub depth_of-tree_in : (d : Direction) (s : Shift) (t : Term Corner) → depth_of (tree_in d s t) ≡ depth_of t
depth_of-tree_in d s t = depth_of-mapped _ _ (λ c. depth_of-cell_at c (place_in d s c.at)) (λ lines c e. depth_of-area_at lines c e (area_in d s lines (block_of c e))) t

level-cell_at : (c : Corner) (r : Option Place) → level (cell_at c r) ≡ atom_level
level-cell_at c (Some p) = refl
level-cell_at c None = refl

level-area_at : (lines : Option Axis) (c d : Corner) (r : Option Block) → level (area_at lines c d r) ≡ atom_level
level-area_at None c d (Some b) = refl
level-area_at (Some axis) c d (Some b) = refl
level-area_at lines c d None = refl

level-mapped : (f : Corner → Term Corner) (g : Option Axis → Corner → Corner → Term Corner) → ((c : Corner) → level (f c) ≡ atom_level) → ((lines : Option Axis) (c d : Corner) → level (g lines c d) ≡ atom_level) → (t : Term Corner)
    → level (mapped f g t) ≡ level t
level-mapped f g h k (number m) = refl
level-mapped f g h k (text w) = refl
level-mapped f g h k (truth b) = refl
level-mapped f g h k (fault e) = refl
level-mapped f g h k (cell c) = h c
level-mapped f g h k (area c d) = k None c d
level-mapped f g h k (whole axis c d) = k (Some axis) c d
level-mapped f g h k (name w) = refl
level-mapped f g h k (prefix o t) = refl
level-mapped f g h k (percent t) = refl
level-mapped f g h k (binary o l r) = refl
level-mapped f g h k (call w ts) = refl
level-mapped f g h k (paren t) = refl

pub level-tree_in : (d : Direction) (s : Shift) (t : Term Corner) → level (tree_in d s t) ≡ level t
level-tree_in d s t = level-mapped _ _ (λ c. level-cell_at c (place_in d s c.at)) (λ lines c e. level-area_at lines c e (area_in d s lines (block_of c e))) t

proper-cell_at : (c : Corner) (r : Option Place) → ((q : Place) → r ≡ Some q → IsInside q) → IsProper (cell_at c r)
proper-cell_at c (Some q) h = h q refl
proper-cell_at c None h = tt

ordered-block : (b : Block) → IsBlockInside b → (c d : Corner) → IsProper (area_at None c d (Some b))
ordered-block b i c d = ((omega arith, omega arith), (omega arith, omega arith), (refl, omega arith, omega arith))

-- the corners of a whole range at the ends of another one
corner-first : (axis : Axis) (c : Corner) (b : Block) → c ≡ first_corner axis c.at.sheet (line_of axis c.at) (fixed_along axis c) → IsFull (Some axis) b
    → record c { at = first_place b } ≡ first_corner axis b.sheet (line_of axis (first_place b)) (fixed_along axis c)
corner-first Rows c b w full =
    λ i. record {
      at = record { sheet = b.sheet; row = b.top; col = sym (ap (λ x. x.left) full) i };
      row_fixed = c.row_fixed;
      col_fixed = ap (λ x. x.col_fixed) w i;
    }
corner-first Cols c b w full =
    λ i. record {
      at = record { sheet = b.sheet; row = sym (ap (λ x. x.top) full) i; col = b.left };
      row_fixed = ap (λ x. x.row_fixed) w i;
      col_fixed = c.col_fixed;
    }

corner-last : (axis : Axis) (d : Corner) (b : Block) → d ≡ last_corner axis d.at.sheet (line_of axis d.at) (fixed_along axis d) → IsFull (Some axis) b
    → record d { at = last_place b } ≡ last_corner axis b.sheet (line_of axis (last_place b)) (fixed_along axis d)
corner-last Rows d b w full =
    λ i. record {
      at = record { sheet = b.sheet; row = b.bottom; col = sym (ap (λ x. x.right) full) i };
      row_fixed = d.row_fixed;
      col_fixed = ap (λ x. x.col_fixed) w i;
    }
corner-last Cols d b w full =
    λ i. record {
      at = record { sheet = b.sheet; row = sym (ap (λ x. x.bottom) full) i; col = b.right };
      row_fixed = ap (λ x. x.row_fixed) w i;
      col_fixed = d.col_fixed;
    }

-- they have the `$` that they had
kept-fixed : (axis : Axis) (c : Corner) (p : Place) → fixed_along axis (record c { at = p }) ≡ fixed_along axis c
kept-fixed Rows c p = refl
kept-fixed Cols c p = refl

whole-corners : (axis : Axis) (c d : Corner) (b : Block) → AreWhole axis c d → IsFull (Some axis) b → AreWhole axis (record c { at = first_place b }) (record d { at = last_place b })
whole-corners axis c d b w full = (
  corner-first axis c b w.0 full ∙ ap (first_corner axis b.sheet (line_of axis (first_place b))) (sym (kept-fixed axis c (first_place b))),
  corner-last axis d b w.1 full ∙ ap (last_corner axis b.sheet (line_of axis (last_place b))) (sym (kept-fixed axis d (last_place b))),
)

proper-area_at : (lines : Option Axis) (c d : Corner) (r : Option Block) → ((b : Block) → r ≡ Some b → IsBlockInside b × IsFull lines b) → IsProper (shaped lines c d) → IsProper (area_at lines c d r)
proper-area_at None c d (Some b) h p = ordered-block b (h b refl).0 c d
proper-area_at (Some axis) c d (Some b) h p =
    let o = ordered-block b (h b refl).0 c d in (o.0, o.1, o.2, whole-corners axis c d b p.3 (h b refl).1)
proper-area_at lines c d None h p = tt

-- the block of a proper tree
pub proper-block : (c d : Corner) → IsInside c.at → IsInside d.at → AreOrdered c d → IsBlockInside (block_of c d)
proper-block c d i j o = (omega arith, omega arith, omega arith, omega arith)

shaped-block : (lines : Option Axis) (c d : Corner) → IsProper (shaped lines c d) → IsBlockInside (block_of c d)
shaped-block None c d p = proper-block c d p.0 p.1 p.2
shaped-block (Some axis) c d p = proper-block c d p.0 p.1 p.2

-- a bound on a level goes over
same-level : (n k m : ℕ) → k ≡ m → n ≤ m → n ≤ k
same-level n k m e h = omega arith

higher-level : (n k m : ℕ) → k ≡ m → n < m → n < k
higher-level n k m e h = omega arith

-- a proper tree stays proper where its references, blocks and whole ranges become proper trees of the level of atoms
module _ (f : Corner → Term Corner) (g : Option Axis → Corner → Corner → Term Corner) (h : (c : Corner) → level (f c) ≡ atom_level) (k : (lines : Option Axis) (c d : Corner) → level (g lines c d) ≡ atom_level)
    (i : (c : Corner) → IsProper (cell c) → IsProper (f c)) (j : (lines : Option Axis) (c d : Corner) → IsProper (shaped lines c d) → IsProper (g lines c d)) where
  mutual
    pub proper-mapped : (t : Term Corner) → IsProper t → IsProper (mapped f g t)
    proper-mapped (number m) p = p
    proper-mapped (text w) p = tt
    proper-mapped (truth b) p = tt
    proper-mapped (fault e) p = tt
    proper-mapped (cell c) p = i c p
    proper-mapped (area c d) p = j None c d p
    proper-mapped (whole axis c d) p = j (Some axis) c d p
    proper-mapped (name w) p = p
    proper-mapped (prefix o t) p = (same-level sign_level _ _ (level-mapped f g h k t) p.0, proper-mapped t p.1)
    proper-mapped (percent t) p = (same-level percent_level _ _ (level-mapped f g h k t) p.0, proper-mapped t p.1)
    proper-mapped (binary o l r) p = (
      same-level (level_of o) _ _ (level-mapped f g h k l) p.0,
      higher-level (level_of o) _ _ (level-mapped f g h k r) p.1,
      proper-mapped l p.2,
      proper-mapped r p.3,
    )
    proper-mapped (call w ts) p = (p.0, all_proper-mapped ts p.1)
    proper-mapped (paren t) p = proper-mapped t p

    all_proper-mapped : (ts : Terms Corner) → AreProper ts → AreProper (mapped_all f g ts)
    all_proper-mapped no_terms p = tt
    all_proper-mapped (term t ts) p = (proper-mapped t p.0, all_proper-mapped ts p.1)

pub proper-tree_in : (d : Direction) (s : Shift) (t : Term Corner) → IsSound s → IsProper t → IsProper (tree_in d s t)
proper-tree_in d s t sound p =
    proper-mapped _ _ (λ c. level-cell_at c (place_in d s c.at)) (λ lines c e. level-area_at lines c e (area_in d s lines (block_of c e)))
    (λ c q. proper-cell_at c (place_in d s c.at) (λ x e. place_in-inside d s c.at x sound q e))
    (λ lines c e q. proper-area_at lines c e (area_in d s lines (block_of c e))
    (λ b x. (area_in-inside d s lines (block_of c e) b sound (shaped-block lines c e q) x, area_in-full d s lines (block_of c e) b x)) q) t p

mutual
  pub proper-fits : (t : Term Corner) → IsProper t → FitsSheets t
  proper-fits (number m) p = tt
  proper-fits (text w) p = tt
  proper-fits (truth b) p = tt
  proper-fits (fault e) p = tt
  proper-fits (cell c) p = p
  proper-fits (area c d) p = proper-block c d p.0 p.1 p.2
  proper-fits (whole axis c d) p = proper-block c d p.0 p.1 p.2
  proper-fits (name w) p = tt
  proper-fits (prefix o t) p = proper-fits t p.1
  proper-fits (percent t) p = proper-fits t p.1
  proper-fits (binary o l r) p = (proper-fits l p.2, proper-fits r p.3)
  proper-fits (call w ts) p = all_proper-fit ts p.1
  proper-fits (paren t) p = proper-fits t p

  all_proper-fit : (ts : Terms Corner) → AreProper ts → EachReferenceOfAll IsReferenceInside IsAreaInside ts
  all_proper-fit no_terms p = tt
  all_proper-fit (term t ts) p = (proper-fits t p.0, all_proper-fit ts p.1)

-- a tree without references stays
mutual
  pub others-mapped : (f : Corner → Term Corner) (g : Option Axis → Corner → Corner → Term Corner) (t : Term Corner) → EachReference (λ c. ⊥) (λ lines c d. ⊥) t → mapped f g t ≡ t
  others-mapped f g (number m) h = refl
  others-mapped f g (text w) h = refl
  others-mapped f g (truth b) h = refl
  others-mapped f g (fault e) h = refl
  others-mapped f g (cell c) h = absurd h
  others-mapped f g (area c d) h = absurd h
  others-mapped f g (whole axis c d) h = absurd h
  others-mapped f g (name w) h = refl
  others-mapped f g (prefix s t) h = ap (λ x. prefix s x) (others-mapped f g t h)
  others-mapped f g (percent t) h = ap (λ x. percent x) (others-mapped f g t h)
  others-mapped f g (binary o l r) h = ap (λ x. binary o x (mapped f g r)) (others-mapped f g l h.0) ∙ ap (λ x. binary o l x) (others-mapped f g r h.1)
  others-mapped f g (call w ts) h = ap (λ x. call w x) (all_others-mapped f g ts h)
  others-mapped f g (paren t) h = ap (λ x. paren x) (others-mapped f g t h)

  all_others-mapped : (f : Corner → Term Corner) (g : Option Axis → Corner → Corner → Term Corner) (ts : Terms Corner) → EachReferenceOfAll (λ c. ⊥) (λ lines c d. ⊥) ts → mapped_all f g ts ≡ ts
  all_others-mapped f g no_terms h = refl
  all_others-mapped f g (term t ts) h = ap (λ x. term x (mapped_all f g ts)) (others-mapped f g t h.0) ∙ ap (λ x. term t x) (all_others-mapped f g ts h.1)

-- a proper tree stays proper over an operation
pub rewritten-proper : (s : Shift) (t : Term Corner) → IsSound s → IsProper t → IsProper (rewritten s t)
rewritten-proper s t sound p = proper-tree_in Forward s t sound p
