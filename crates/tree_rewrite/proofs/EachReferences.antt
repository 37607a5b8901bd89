-- What each reference, block and whole range of a tree passes, and trees in their places. Serves the passage of trees, and the laws.
use Rattle.std.proofs.Common.{◌≡◌, ◌∙◌, ap, refl, ℕ, inl, inr, Option, Some, None}
use Rattle.cell_addr.specs.declared.axis.Axis.{Axis}
use Rattle.formula_tree.specs.Term.{Term, number, text, truth, fault, cell, area, whole, name, prefix, percent, binary, call, paren, Terms, no_terms, term, mapped, mapped_all, each_corner, each_corner_all}
use Rattle.formula_tree.specs.declared.reference.Corner.{Corner}
use Rattle.tree_rewrite.specs.Sheets.{HasSheet, SomeHasSheet}
use Rattle.tree_rewrite.specs.References.{EachReference, EachReferenceOfAll}

-- where one pair of tests leads to another
mutual
  pub EachReference-map : {R : Type 0} (P V : R → Type 0) (Q W : Option Axis → R → R → Type 0) → ((r : R) → P r → V r) → ((lines : Option Axis) (r q : R) → Q lines r q → W lines r q) → (t : Term R)
      → EachReference P Q t → EachReference V W t
  EachReference-map P V Q W f g (number m) h = tt
  EachReference-map P V Q W f g (text w) h = tt
  EachReference-map P V Q W f g (truth b) h = tt
  EachReference-map P V Q W f g (fault k) h = tt
  EachReference-map P V Q W f g (cell r) h = f r h
  EachReference-map P V Q W f g (area r q) h = g None r q h
  EachReference-map P V Q W f g (whole axis r q) h = g (Some axis) r q h
  EachReference-map P V Q W f g (name w) h = tt
  EachReference-map P V Q W f g (prefix s t) h = EachReference-map P V Q W f g t h
  EachReference-map P V Q W f g (percent t) h = EachReference-map P V Q W f g t h
  EachReference-map P V Q W f g (binary o l r) h = (EachReference-map P V Q W f g l h.0, EachReference-map P V Q W f g r h.1)
  EachReference-map P V Q W f g (call w ts) h = EachReferenceOfAll-map P V Q W f g ts h
  EachReference-map P V Q W f g (paren t) h = EachReference-map P V Q W f g t h

  pub EachReferenceOfAll-map : {R : Type 0} (P V : R → Type 0) (Q W : Option Axis → R → R → Type 0) → ((r : R) → P r → V r) → ((lines : Option Axis) (r q : R) → Q lines r q → W lines r q) → (ts : Terms R)
      → EachReferenceOfAll P Q ts → EachReferenceOfAll V W ts
  EachReferenceOfAll-map P V Q W f g no_terms h = tt
  EachReferenceOfAll-map P V Q W f g (term t ts) h = (EachReference-map P V Q W f g t h.0, EachReferenceOfAll-map P V Q W f g ts h.1)

-- and where references, blocks and whole ranges are replaced
mutual
  pub EachReference-mapped : {R S : Type 0} (P : R → Type 0) (Q : Option Axis → R → R → Type 0) (V : S → Type 0) (W : Option Axis → S → S → Type 0) (f : R → Term S) (g : Option Axis → R → R → Term S)
      → ((r : R) → P r → EachReference V W (f r)) → ((lines : Option Axis) (r q : R) → Q lines r q → EachReference V W (g lines r q)) → (t : Term R)
      → EachReference P Q t → EachReference V W (mapped f g t)
  EachReference-mapped P Q V W f g i j (number m) h = tt
  EachReference-mapped P Q V W f g i j (text w) h = tt
  EachReference-mapped P Q V W f g i j (truth b) h = tt
  EachReference-mapped P Q V W f g i j (fault k) h = tt
  EachReference-mapped P Q V W f g i j (cell r) h = i r h
  EachReference-mapped P Q V W f g i j (area r q) h = j None r q h
  EachReference-mapped P Q V W f g i j (whole axis r q) h = j (Some axis) r q h
  EachReference-mapped P Q V W f g i j (name w) h = tt
  EachReference-mapped P Q V W f g i j (prefix s t) h = EachReference-mapped P Q V W f g i j t h
  EachReference-mapped P Q V W f g i j (percent t) h = EachReference-mapped P Q V W f g i j t h
  EachReference-mapped P Q V W f g i j (binary o l r) h = (EachReference-mapped P Q V W f g i j l h.0, EachReference-mapped P Q V W f g i j r h.1)
  EachReference-mapped P Q V W f g i j (call w ts) h = EachReferenceOfAll-mapped P Q V W f g i j ts h
  EachReference-mapped P Q V W f g i j (paren t) h = EachReference-mapped P Q V W f g i j t h

  pub EachReferenceOfAll-mapped : {R S : Type 0} (P : R → Type 0) (Q : Option Axis → R → R → Type 0) (V : S → Type 0) (W : Option Axis → S → S → Type 0) (f : R → Term S) (g : Option Axis → R → R → Term S)
      → ((r : R) → P r → EachReference V W (f r)) → ((lines : Option Axis) (r q : R) → Q lines r q → EachReference V W (g lines r q)) → (ts : Terms R)
      → EachReferenceOfAll P Q ts → EachReferenceOfAll V W (mapped_all f g ts)
  EachReferenceOfAll-mapped P Q V W f g i j no_terms h = tt
  EachReferenceOfAll-mapped P Q V W f g i j (term t ts) h = (EachReference-mapped P Q V W f g i j t h.0, EachReferenceOfAll-mapped P Q V W f g i j ts h.1)

-- where every reference, block and whole range passes
mutual
  pub EachReference-all : {R : Type 0} (P : R → Type 0) (Q : Option Axis → R → R → Type 0) → ((r : R) → P r) → ((lines : Option Axis) (r q : R) → Q lines r q) → (t : Term R) → EachReference P Q t
  EachReference-all P Q f g (number m) = tt
  EachReference-all P Q f g (text w) = tt
  EachReference-all P Q f g (truth b) = tt
  EachReference-all P Q f g (fault k) = tt
  EachReference-all P Q f g (cell r) = f r
  EachReference-all P Q f g (area r q) = g None r q
  EachReference-all P Q f g (whole axis r q) = g (Some axis) r q
  EachReference-all P Q f g (name w) = tt
  EachReference-all P Q f g (prefix s t) = EachReference-all P Q f g t
  EachReference-all P Q f g (percent t) = EachReference-all P Q f g t
  EachReference-all P Q f g (binary o l r) = (EachReference-all P Q f g l, EachReference-all P Q f g r)
  EachReference-all P Q f g (call w ts) = EachReferenceOfAll-all P Q f g ts
  EachReference-all P Q f g (paren t) = EachReference-all P Q f g t

  EachReferenceOfAll-all : {R : Type 0} (P : R → Type 0) (Q : Option Axis → R → R → Type 0) → ((r : R) → P r) → ((lines : Option Axis) (r q : R) → Q lines r q) → (ts : Terms R) → EachReferenceOfAll P Q ts
  EachReferenceOfAll-all P Q f g no_terms = tt
  EachReferenceOfAll-all P Q f g (term t ts) = (EachReference-all P Q f g t, EachReferenceOfAll-all P Q f g ts)

-- to replace references as they are seen from one home by what is seen from another one
mutual
  pub mapped-seen : {R S : Type 0} (h : R → S) (f : S → Term S) (g : Option Axis → S → S → Term S) (k : S → R) (t : Term R)
      → mapped (λ r. each_corner k (f (h r))) (λ lines r q. each_corner k (g lines (h r) (h q))) t ≡ each_corner k (mapped f g (each_corner h t))
  mapped-seen h f g k (number m) = refl
  mapped-seen h f g k (text w) = refl
  mapped-seen h f g k (truth b) = refl
  mapped-seen h f g k (fault e) = refl
  mapped-seen h f g k (cell r) = refl
  mapped-seen h f g k (area r q) = refl
  mapped-seen h f g k (whole axis r q) = refl
  mapped-seen h f g k (name w) = refl
  mapped-seen h f g k (prefix s t) = ap (λ x. prefix s x) (mapped-seen h f g k t)
  mapped-seen h f g k (percent t) = ap (λ x. percent x) (mapped-seen h f g k t)
  mapped-seen h f g k (binary o l r) =
      ap (λ x. binary o x (mapped (λ r. each_corner k (f (h r))) (λ lines r q. each_corner k (g lines (h r) (h q))) r)) (mapped-seen h f g k l)
      ∙ ap (λ x. binary o (each_corner k (mapped f g (each_corner h l))) x) (mapped-seen h f g k r)
  mapped-seen h f g k (call w ts) = ap (λ x. call w x) (mapped_all-seen h f g k ts)
  mapped-seen h f g k (paren t) = ap (λ x. paren x) (mapped-seen h f g k t)

  pub mapped_all-seen : {R S : Type 0} (h : R → S) (f : S → Term S) (g : Option Axis → S → S → Term S) (k : S → R) (ts : Terms R)
      → mapped_all (λ r. each_corner k (f (h r))) (λ lines r q. each_corner k (g lines (h r) (h q))) ts ≡ each_corner_all k (mapped_all f g (each_corner_all h ts))
  mapped_all-seen h f g k no_terms = refl
  mapped_all-seen h f g k (term t ts) =
      ap (λ x. term x (mapped_all (λ r. each_corner k (f (h r))) (λ lines r q. each_corner k (g lines (h r) (h q))) ts)) (mapped-seen h f g k t)
      ∙ ap (λ x. term (each_corner k (mapped f g (each_corner h t))) x) (mapped_all-seen h f g k ts)

-- a sheet of a tree where other trees came in the places of references is one of theirs
mutual
  pub mapped-sheet : (n : ℕ) (P : Type 0) (f : Corner → Term Corner) (g : Option Axis → Corner → Corner → Term Corner) → ((c : Corner) → HasSheet n (f c) → P) → ((lines : Option Axis) (c d : Corner) → HasSheet n (g lines c d) → P)
      → (t : Term Corner) → HasSheet n (mapped f g t) → P
  mapped-sheet n P f g i j (number m) h = absurd h
  mapped-sheet n P f g i j (text w) h = absurd h
  mapped-sheet n P f g i j (truth b) h = absurd h
  mapped-sheet n P f g i j (fault k) h = absurd h
  mapped-sheet n P f g i j (cell c) h = i c h
  mapped-sheet n P f g i j (area c d) h = j None c d h
  mapped-sheet n P f g i j (whole axis c d) h = j (Some axis) c d h
  mapped-sheet n P f g i j (name w) h = absurd h
  mapped-sheet n P f g i j (prefix s t) h = mapped-sheet n P f g i j t h
  mapped-sheet n P f g i j (percent t) h = mapped-sheet n P f g i j t h
  mapped-sheet n P f g i j (binary o l r) (inl h) = mapped-sheet n P f g i j l h
  mapped-sheet n P f g i j (binary o l r) (inr h) = mapped-sheet n P f g i j r h
  mapped-sheet n P f g i j (call w ts) h = mapped_all-sheet n P f g i j ts h
  mapped-sheet n P f g i j (paren t) h = mapped-sheet n P f g i j t h

  mapped_all-sheet : (n : ℕ) (P : Type 0) (f : Corner → Term Corner) (g : Option Axis → Corner → Corner → Term Corner) → ((c : Corner) → HasSheet n (f c) → P) → ((lines : Option Axis) (c d : Corner) → HasSheet n (g lines c d) → P)
      → (ts : Terms Corner) → SomeHasSheet n (mapped_all f g ts) → P
  mapped_all-sheet n P f g i j no_terms h = absurd h
  mapped_all-sheet n P f g i j (term t ts) (inl h) = mapped-sheet n P f g i j t h
  mapped_all-sheet n P f g i j (term t ts) (inr h) = mapped_all-sheet n P f g i j ts h
