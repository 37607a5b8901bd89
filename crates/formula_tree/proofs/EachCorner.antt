-- Trees with each corner replaced by another one: what stays the same. Serves the walks over shared trees.
use Rattle.std.proofs.Common.{◌≡◌, ap, refl, ◌∙◌, ◌+◌, max, ◌++◌}
use Rattle.formula_tree.specs.Term.{Term, number, text, truth, fault, cell, area, whole, name, prefix, percent, binary, call, paren, Terms, no_terms, term, depth_of, depth_of_all, each_corner, each_corner_all, EachCorner, EachCornerOfAll, is_reference}
use Rattle.formula_tree.specs.Links.{names_in, names_in_all}

mutual
  pub depth_of-each_corner : {R S : Type 0} (f : R → S) (t : Term R) → depth_of (each_corner f t) ≡ depth_of t
  depth_of-each_corner f (number m) = refl
  depth_of-each_corner f (text w) = refl
  depth_of-each_corner f (truth b) = refl
  depth_of-each_corner f (fault k) = refl
  depth_of-each_corner f (cell r) = refl
  depth_of-each_corner f (area r q) = refl
  depth_of-each_corner f (whole axis r q) = refl
  depth_of-each_corner f (name w) = refl
  depth_of-each_corner f (prefix s t) = ap (λ n. n + 1) (depth_of-each_corner f t)
  depth_of-each_corner f (percent t) = ap (λ n. n + 1) (depth_of-each_corner f t)
  depth_of-each_corner f (binary o l r) = ap (λ n. max n (depth_of (each_corner f r)) + 1) (depth_of-each_corner f l) ∙ ap (λ n. max (depth_of l) n + 1) (depth_of-each_corner f r)
  depth_of-each_corner f (call w ts) = ap (λ n. n + 1) (depth_of_all-each_corner f ts)
  depth_of-each_corner f (paren t) = ap (λ n. n + 1) (depth_of-each_corner f t)

  depth_of_all-each_corner : {R S : Type 0} (f : R → S) (ts : Terms R) → depth_of_all (each_corner_all f ts) ≡ depth_of_all ts
  depth_of_all-each_corner f no_terms = refl
  depth_of_all-each_corner f (term t ts) = ap (λ n. max n (depth_of_all (each_corner_all f ts))) (depth_of-each_corner f t) ∙ ap (λ n. max (depth_of t) n) (depth_of_all-each_corner f ts)

mutual
  pub names_in-each_corner : {R S : Type 0} (f : R → S) (t : Term R) → names_in (each_corner f t) ≡ names_in t
  names_in-each_corner f (number m) = refl
  names_in-each_corner f (text w) = refl
  names_in-each_corner f (truth b) = refl
  names_in-each_corner f (fault k) = refl
  names_in-each_corner f (cell r) = refl
  names_in-each_corner f (area r q) = refl
  names_in-each_corner f (whole axis r q) = refl
  names_in-each_corner f (name w) = refl
  names_in-each_corner f (prefix s t) = names_in-each_corner f t
  names_in-each_corner f (percent t) = names_in-each_corner f t
  names_in-each_corner f (binary o l r) = ap (λ ws. ws ++ names_in (each_corner f r)) (names_in-each_corner f l) ∙ ap (λ ws. names_in l ++ ws) (names_in-each_corner f r)
  names_in-each_corner f (call w ts) = names_in_all-each_corner f ts
  names_in-each_corner f (paren t) = names_in-each_corner f t

  names_in_all-each_corner : {R S : Type 0} (f : R → S) (ts : Terms R) → names_in_all (each_corner_all f ts) ≡ names_in_all ts
  names_in_all-each_corner f no_terms = refl
  names_in_all-each_corner f (term t ts) = ap (λ ws. ws ++ names_in_all (each_corner_all f ts)) (names_in-each_corner f t) ∙ ap (λ ws. names_in t ++ ws) (names_in_all-each_corner f ts)

pub is_reference-each_corner : {R S : Type 0} (f : R → S) (t : Term R) → is_reference (each_corner f t) ≡ is_reference t
is_reference-each_corner f (number m) = refl
is_reference-each_corner f (text w) = refl
is_reference-each_corner f (truth b) = refl
is_reference-each_corner f (fault k) = refl
is_reference-each_corner f (cell r) = refl
is_reference-each_corner f (area r q) = refl
is_reference-each_corner f (whole axis r q) = refl
is_reference-each_corner f (name w) = refl
is_reference-each_corner f (prefix s t) = refl
is_reference-each_corner f (percent t) = refl
is_reference-each_corner f (binary o l r) = refl
is_reference-each_corner f (call w ts) = refl
is_reference-each_corner f (paren t) = refl

-- there and back again
mutual
  pub each_corner-back : {R S : Type 0} (f : R → S) (g : S → R) (t : Term R) → EachCorner (λ r. g (f r) ≡ r) t → each_corner g (each_corner f t) ≡ t
  each_corner-back f g (number m) e = refl
  each_corner-back f g (text w) e = refl
  each_corner-back f g (truth b) e = refl
  each_corner-back f g (fault k) e = refl
  each_corner-back f g (cell r) e = ap (λ x. cell x) e
  each_corner-back f g (area r q) e = ap (λ x. area x (g (f q))) e.0 ∙ ap (λ x. area r x) e.1
  each_corner-back f g (whole axis r q) e = ap (λ x. whole axis x (g (f q))) e.0 ∙ ap (λ x. whole axis r x) e.1
  each_corner-back f g (name w) e = refl
  each_corner-back f g (prefix s t) e = ap (λ x. prefix s x) (each_corner-back f g t e)
  each_corner-back f g (percent t) e = ap (λ x. percent x) (each_corner-back f g t e)
  each_corner-back f g (binary o l r) e = ap (λ x. binary o x (each_corner g (each_corner f r))) (each_corner-back f g l e.0) ∙ ap (λ x. binary o l x) (each_corner-back f g r e.1)
  each_corner-back f g (call w ts) e = ap (λ x. call w x) (each_corner_all-back f g ts e)
  each_corner-back f g (paren t) e = ap (λ x. paren x) (each_corner-back f g t e)

  each_corner_all-back : {R S : Type 0} (f : R → S) (g : S → R) (ts : Terms R) → EachCornerOfAll (λ r. g (f r) ≡ r) ts → each_corner_all g (each_corner_all f ts) ≡ ts
  each_corner_all-back f g no_terms e = refl
  each_corner_all-back f g (term t ts) e = ap (λ x. term x (each_corner_all g (each_corner_all f ts))) (each_corner-back f g t e.0) ∙ ap (λ x. term t x) (each_corner_all-back f g ts e.1)

-- what each corner passes, where one test leads to another
mutual
  pub EachCorner-map : {R : Type 0} (P Q : R → Type 0) → ((r : R) → P r → Q r) → (t : Term R) → EachCorner P t → EachCorner Q t
  EachCorner-map P Q h (number m) p = tt
  EachCorner-map P Q h (text w) p = tt
  EachCorner-map P Q h (truth b) p = tt
  EachCorner-map P Q h (fault k) p = tt
  EachCorner-map P Q h (cell r) p = h r p
  EachCorner-map P Q h (area r q) p = (h r p.0, h q p.1)
  EachCorner-map P Q h (whole axis r q) p = (h r p.0, h q p.1)
  EachCorner-map P Q h (name w) p = tt
  EachCorner-map P Q h (prefix s t) p = EachCorner-map P Q h t p
  EachCorner-map P Q h (percent t) p = EachCorner-map P Q h t p
  EachCorner-map P Q h (binary o l r) p = (EachCorner-map P Q h l p.0, EachCorner-map P Q h r p.1)
  EachCorner-map P Q h (call w ts) p = EachCornerOfAll-map P Q h ts p
  EachCorner-map P Q h (paren t) p = EachCorner-map P Q h t p

  EachCornerOfAll-map : {R : Type 0} (P Q : R → Type 0) → ((r : R) → P r → Q r) → (ts : Terms R) → EachCornerOfAll P ts → EachCornerOfAll Q ts
  EachCornerOfAll-map P Q h no_terms p = tt
  EachCornerOfAll-map P Q h (term t ts) p = (EachCorner-map P Q h t p.0, EachCornerOfAll-map P Q h ts p.1)
