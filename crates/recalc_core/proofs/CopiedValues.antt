-- Copies of kept values, entry by entry. Serves what copies them.
use Rattle.std.proofs.Common.{◌≡◌, ◌∙◌, sym, ap, refl, subst, arith, Bool, true, false, cond, List, [], ◌∷◌, ◌++◌, length, get_or, Some, None, ◌<◌}
use Rattle.std.specs.List.{IsDistinct}
use Rattle.std.specs.Map.{keys_of, lookup}
use Rattle.std.proofs.lemmas.Bool.{false≢true}
use Rattle.std.proofs.lemmas.List.Elements.{All-from_recursion, All-get_or}
use Rattle.std.proofs.lemmas.Map.Keys.{IsDistinct-head, IsDistinct-tail}
use Rattle.cell_value.specs.declared.scalar.Scalar.{Scalar}
use Rattle.dep_graph.specs.Nodes.{same_node}
use Rattle.dep_graph.specs.declared.node.Node.{Node}
use Rattle.dep_graph.specs.internal.Hashed.{own_node, same_nodes}
use Rattle.recalc_core.specs.Kept.{Kept}
use Rattle.recalc_core.specs.internal.KeptTables.{IsPut}

-- no key in front is the one in the middle
front_apart : (done rest : List (Node × Scalar)) (e : Node × Scalar) (x : Node × Scalar) → IsDistinct same_node (keys_of (x ∷ done ++ e ∷ rest)) → same_node x.0 e.0 ≡ false
front_apart done rest e x distinct =
    subst (λ k. same_node x.0 k ≡ false) (middle done)
    (All-get_or (λ k. same_node x.0 k ≡ false) (keys_of (done ++ e ∷ rest)) (length done) e.0 (inside done)
    (All-from_recursion (λ k. same_node x.0 k ≡ false) (keys_of (done ++ e ∷ rest)) (IsDistinct-head same_node x.0 (keys_of (done ++ e ∷ rest)) distinct)))
  where
    middle : (xs : List (Node × Scalar)) → get_or (keys_of (xs ++ e ∷ rest)) (length xs) e.0 ≡ e.0
    middle [] = refl
    middle (y ∷ ys) = middle ys

    inside : (xs : List (Node × Scalar)) → length xs < length (keys_of (xs ++ e ∷ rest))
    inside [] = omega arith
    inside (y ∷ ys) = let low = inside ys in omega (arith, low)

-- what is looked up behind the others
last_found : (done rest : List (Node × Scalar)) (e : Node × Scalar) (a : Node) → IsDistinct same_node (keys_of (done ++ e ∷ rest)) → same_node a e.0 ≡ true → lookup (same_node a) (done ++ e ∷ []) ≡ Some e.1
last_found [] rest e a distinct same = ap (λ t. cond t (Some e.1) None) same
last_found (x ∷ done) rest e a distinct same =
    ap (λ t. cond t (Some x.1) (lookup (same_node a) (done ++ e ∷ []))) (other (same_node a x.0) refl)
    ∙ last_found done rest e a (IsDistinct-tail same_node x.0 (keys_of (done ++ e ∷ rest)) distinct) same
  where
    other : (t : Bool) → same_node a x.0 ≡ t → same_node a x.0 ≡ false
    other true h =
        absurd (false≢true (sym (front_apart done rest e x distinct) ∙ ap (λ n. same_node n e.0) (sym (same_nodes a x.0 h)) ∙ same))
    other false h = h

last_passed : (done : List (Node × Scalar)) (e : Node × Scalar) (a : Node) → same_node a e.0 ≡ false → lookup (same_node a) (done ++ e ∷ []) ≡ lookup (same_node a) done
last_passed [] e a apart = ap (λ t. cond t (Some e.1) None) apart
last_passed (x ∷ done) e a apart = ap (cond (same_node a x.0) (Some x.1)) (last_passed done e a apart)

-- one entry more
pub copied_on : (done rest : List (Node × Scalar)) (e : Node × Scalar) (old new : Kept) → IsDistinct same_node (keys_of (done ++ e ∷ rest)) → ((a : Node) → old a ≡ lookup (same_node a) done) → IsPut e.0 (Some e.1) old new
    → (a : Node) → new a ≡ lookup (same_node a) (done ++ e ∷ [])
copied_on done rest e old new distinct was put a = by (same_node e.0 a) refl
  where
    flipped : (t : Bool) → same_node e.0 a ≡ false → same_node a e.0 ≡ t → same_node a e.0 ≡ false
    flipped true h s = absurd (false≢true (sym h ∙ ap (same_node e.0) (same_nodes a e.0 s) ∙ own_node e.0))
    flipped false h s = s

    by : (t : Bool) → same_node e.0 a ≡ t → new a ≡ lookup (same_node a) (done ++ e ∷ [])
    by true h =
        put a ∙ ap (λ t. cond t (Some e.1) (old a)) h
        ∙ sym (last_found done rest e a distinct (ap (same_node a) (same_nodes e.0 a h) ∙ own_node a))
    by false h =
        put a ∙ ap (λ t. cond t (Some e.1) (old a)) h ∙ was a
        ∙ sym (last_passed done e a (flipped (same_node a e.0) h refl))
