-- Trees of formulas, with the kind of their references as a parameter.
use Rattle.std.specs.Prelude.{ℕ, ℤ, ◌+◌, max, Bool, true, false, List, [], ◌∷◌, Option, Some, None}
use Rattle.cell_addr.specs.declared.axis.Axis.{Axis}
use Rattle.cell_value.specs.declared.fault.FaultKind.{FaultKind}
use Rattle.formula_tree.specs.declared.operator.Op.{Op}
use Rattle.formula_tree.specs.declared.operator.Sign.{Sign}

-- a formula's tree, whose references are of type R; a block, and all rows or columns along an axis, have the first
-- and the last cell of the block; a call has its word and its arguments
mutual
  pub data Term (R : Type 0) : Type 0 where
    number : ℤ → Term R
    text : List ℕ → Term R
    truth : Bool → Term R
    fault : FaultKind → Term R
    cell : R → Term R
    area : R → R → Term R
    whole : Axis → R → R → Term R
    name : List ℕ → Term R
    prefix : Sign → Term R → Term R
    percent : Term R → Term R
    binary : Op → Term R → Term R → Term R
    call : List ℕ → Terms R → Term R
    paren : Term R → Term R

  pub data Terms (R : Type 0) : Type 0 where
    no_terms : Terms R
    term : Term R → Terms R → Terms R

-- the terms of a list, and the list of terms
abbrev pub terms_of : {R : Type 0} → List (Term R) → Terms R
terms_of [] = no_terms
terms_of (t ∷ ts) = term t (terms_of ts)

-- a block, or the whole range along an axis
abbrev pub shaped : {R : Type 0} → Option Axis → R → R → Term R
shaped None r q = area r q
shaped (Some axis) r q = whole axis r q

-- a reference, a block or a whole range, and no parenthesis round one
abbrev pub is_reference : {R : Type 0} → Term R → Bool
is_reference (cell c) = true
is_reference (area c d) = true
is_reference (whole axis c d) = true
is_reference t = false

-- the levels of a tree: 1 for a leaf, and 1 more than its deepest part for another node
abbrev mutual
  pub depth_of : {R : Type 0} → Term R → ℕ
  depth_of (prefix s t) = depth_of t + 1
  depth_of (percent t) = depth_of t + 1
  depth_of (binary o l r) = max (depth_of l) (depth_of r) + 1
  depth_of (call w ts) = depth_of_all ts + 1
  depth_of (paren t) = depth_of t + 1
  depth_of t = 1

  pub depth_of_all : {R : Type 0} → Terms R → ℕ
  depth_of_all no_terms = 0
  depth_of_all (term t ts) = max (depth_of t) (depth_of_all ts)

abbrev mutual
  -- the tree with each reference, and each block or whole range, replaced by the tree that a rule gives for it
  pub mapped : {R S : Type 0} → (R → Term S) → (Option Axis → R → R → Term S) → Term R → Term S
  mapped on_cell on_area (number m) = number m
  mapped on_cell on_area (text w) = text w
  mapped on_cell on_area (truth b) = truth b
  mapped on_cell on_area (fault f) = fault f
  mapped on_cell on_area (cell r) = on_cell r
  mapped on_cell on_area (area r q) = on_area None r q
  mapped on_cell on_area (whole axis r q) = on_area (Some axis) r q
  mapped on_cell on_area (name w) = name w
  mapped on_cell on_area (prefix s t) = prefix s (mapped on_cell on_area t)
  mapped on_cell on_area (percent t) = percent (mapped on_cell on_area t)
  mapped on_cell on_area (binary o l r) = binary o (mapped on_cell on_area l) (mapped on_cell on_area r)
  mapped on_cell on_area (call w ts) = call w (mapped_all on_cell on_area ts)
  mapped on_cell on_area (paren t) = paren (mapped on_cell on_area t)

  pub mapped_all : {R S : Type 0} → (R → Term S) → (Option Axis → R → R → Term S) → Terms R → Terms S
  mapped_all on_cell on_area no_terms = no_terms
  mapped_all on_cell on_area (term t ts) = term (mapped on_cell on_area t) (mapped_all on_cell on_area ts)

-- the tree with each corner replaced by another one
abbrev pub each_corner : {R S : Type 0} → (R → S) → Term R → Term S
each_corner f = mapped (λ r. cell (f r)) (λ lines r q. shaped lines (f r) (f q))

abbrev pub each_corner_all : {R S : Type 0} → (R → S) → Terms R → Terms S
each_corner_all f = mapped_all (λ r. cell (f r)) (λ lines r q. shaped lines (f r) (f q))

abbrev mutual
  -- each corner of the tree passes a test
  pub EachCorner : {R : Type 0} → (R → Type 0) → Term R → Type 0
  EachCorner P (cell r) = P r
  EachCorner P (area r q) = P r × P q
  EachCorner P (whole axis r q) = P r × P q
  EachCorner P (prefix s t) = EachCorner P t
  EachCorner P (percent t) = EachCorner P t
  EachCorner P (binary o l r) = EachCorner P l × EachCorner P r
  EachCorner P (call w ts) = EachCornerOfAll P ts
  EachCorner P (paren t) = EachCorner P t
  EachCorner P t = Unit {0}

  pub EachCornerOfAll : {R : Type 0} → (R → Type 0) → Terms R → Type 0
  EachCornerOfAll P no_terms = Unit {0}
  EachCornerOfAll P (term t ts) = EachCorner P t × EachCornerOfAll P ts
