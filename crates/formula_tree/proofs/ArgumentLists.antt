-- The arguments of a call, one after another. Serves the walks over trees.
use Rattle.std.proofs.Common.{◌≡◌, sym, ap, subst, refl, arith, ℕ, zero, suc, ◌<◌, ◌≤◌, List, [], ◌∷◌, map, length, get_or}
use Rattle.formula_tree.specs.Term.{Term, term, terms_of, depth_of, depth_of_all, each_corner, each_corner_all, EachCorner, EachCornerOfAll}

-- what each corner of all arguments passes, each corner of one passes
pub EachCorner-item : {X R : Type 0} (P : R → Type 0) (f : X → Term R) (items : List X) (i : ℕ) (item : X) → i < length items → item ≡ get_or items i item
    → EachCornerOfAll P (terms_of (map f items)) → EachCorner P (f item)
EachCorner-item P f [] i item h e p = absurd (omega arith)
EachCorner-item P f (x ∷ xs) zero item h e p = subst (λ y. EachCorner P (f y)) (sym e) p.0
EachCorner-item P f (x ∷ xs) (suc i) item h e p = EachCorner-item P f xs i item (omega arith) e p.1

-- no argument is deeper than all
pub depth_of-item : {X R : Type 0} (f : X → Term R) (items : List X) (i : ℕ) (item : X) → i < length items → item ≡ get_or items i item
    → depth_of (f item) ≤ depth_of_all (terms_of (map f items))
depth_of-item f [] i item h e = absurd (omega arith)
depth_of-item f (x ∷ xs) zero item h e = let d : depth_of (f item) ≡ depth_of (f x) = ap (λ y. depth_of (f y)) e in omega arith
depth_of-item f (x ∷ xs) (suc i) item h e = let d = depth_of-item f xs i item (omega arith) e in omega (arith, d)

-- the corners of all arguments are those of each
pub each_corner_all-terms_of : {X R S : Type 0} (f : R → S) (g : X → Term R) (items : List X)
    → each_corner_all f (terms_of (map g items)) ≡ terms_of (map (λ x. each_corner f (g x)) items)
each_corner_all-terms_of f g [] = refl
each_corner_all-terms_of f g (x ∷ xs) = ap (λ ts. term (each_corner f (g x)) ts) (each_corner_all-terms_of f g xs)
