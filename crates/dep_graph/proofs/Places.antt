-- Lists of nodes: what they have, and where it stands. Serves all that speaks of lists of nodes.
use Rattle.std.proofs.Common.{◌≡◌, ◌≢◌, ◌∙◌, sym, refl, subst, arith, ℕ, zero, suc, ◌<◌, inl, inr, ◌⊎◌, ⊎_elim, Bool, true, false, List, [], ◌∷◌, ◌++◌, map, length, get_or, nat_eq}
use Rattle.std.specs.Bool.{Decides}
use Rattle.std.proofs.lemmas.Bool.{or_cases, or_left, or_right, false≢true}
use Rattle.std.proofs.lemmas.List.Folds.{list_any-append, list_any_at}
use Rattle.std.specs.List.{IsDistinct}
use Rattle.std.proofs.lemmas.Map.Made.{AllPairs-from_IsDistinct}
use Rattle.needs_order.specs.Needs as plain
use Rattle.needs_order.proofs.Lists as lists
use Rattle.dep_graph.specs.Nodes.{has, same_node}
use Rattle.dep_graph.specs.Walks.{IsOnce}
use Rattle.dep_graph.specs.declared.node.Node.{Node}
use Rattle.dep_graph.specs.internal.Hashed.{own_node, same_nodes}

-- ---- the test of nodes

pub cases_true : (t : Bool) → (t ≡ true) ⊎ (t ≡ false)
cases_true true = inl refl
cases_true false = inr refl

-- two nodes are the same or not
pub cases_node : (a b : Node) → (a ≡ b) ⊎ (a ≢ b)
cases_node a b = ⊎_elim
    (λ (same : same_node a b ≡ true). inl (same_nodes a b same))
    (λ (other : same_node a b ≡ false). inr (λ same. false≢true (sym other ∙ subst (λ c. same_node a c ≡ true) same (own_node a))))
    (cases_true (same_node a b))

pub other_node : (a b : Node) → (a ≢ b) → same_node a b ≡ false
other_node a b other = ⊎_elim (λ (same : same_node a b ≡ true). absurd (other (same_nodes a b same))) (λ (is : same_node a b ≡ false). is) (cases_true (same_node a b))

pub decides_nodes : (a b : Node) → Decides (same_node a b) (a ≡ b)
decides_nodes a b = (same_nodes a b, λ same. subst (λ c. same_node a c ≡ true) same (own_node a))

-- ---- what lists have

pub has_first : (a : Node) (xs : List Node) → has a (a ∷ xs) ≡ true
has_first a xs = or_left (same_node a a) (has a xs) (own_node a)

pub has_later : (a x : Node) (xs : List Node) → has a xs ≡ true → has a (x ∷ xs) ≡ true
has_later a x xs h = or_right (same_node a x) (has a xs) h

pub has_cases : (a x : Node) (xs : List Node) → has a (x ∷ xs) ≡ true → (a ≡ x) ⊎ (has a xs ≡ true)
has_cases a x xs h = ⊎_elim (λ (same : same_node a x ≡ true). inl (same_nodes a x same)) (λ (later : has a xs ≡ true). inr later) (or_cases (same_node a x) (has a xs) h)

pub has-append_left : (a : Node) (xs ys : List Node) → has a xs ≡ true → has a (xs ++ ys) ≡ true
has-append_left a xs ys h = list_any-append (same_node a) xs ys ∙ or_left (has a xs) (has a ys) h

pub has-append_right : (a : Node) (xs ys : List Node) → has a ys ≡ true → has a (xs ++ ys) ≡ true
has-append_right a xs ys h = list_any-append (same_node a) xs ys ∙ or_right (has a xs) (has a ys) h

pub has-append_cases : (a : Node) (xs ys : List Node) → has a (xs ++ ys) ≡ true → (has a xs ≡ true) ⊎ (has a ys ≡ true)
has-append_cases a xs ys h = or_cases (has a xs) (has a ys) (sym (list_any-append (same_node a) xs ys) ∙ h)

pub has_one : (a x : Node) → has a (x ∷ []) ≡ true → a ≡ x
has_one a x h = ⊎_elim (λ (same : a ≡ x). same) (λ (none : false ≡ true). absurd (false≢true none)) (has_cases a x [] h)

pub has_at : (xs : List Node) (m : ℕ) (d : Node) → m < length xs → has (get_or xs m d) xs ≡ true
has_at xs m d inside = list_any_at (same_node (get_or xs m d)) xs m d inside (own_node (get_or xs m d))

pub at_has : (a : Node) (xs : List Node) (d : Node) → has a xs ≡ true → (m : ℕ) × (m < length xs) × (get_or xs m d ≡ a)
at_has a [] d h = absurd (false≢true h)
at_has a (x ∷ xs) d h = ⊎_elim
    (λ (same : a ≡ x). (zero, omega arith, sym same))
    (λ (later : has a xs ≡ true). let (m, inside, is) = at_has a xs d later in (suc m, omega (arith, inside), is))
    (has_cases a x xs h)

-- the nodes of numbers
pub has_map : (f : ℕ → Node) (ns : List ℕ) (n : ℕ) → plain.has n ns ≡ true → has (f n) (map f ns) ≡ true
has_map f [] n h = absurd (false≢true h)
has_map f (k ∷ ns) n h = ⊎_elim
    (λ (same : k ≡ n). subst (λ j. has (f n) (f j ∷ map f ns) ≡ true) (sym same) (has_first (f n) (map f ns)))
    (λ (later : plain.has n ns ≡ true). has_later (f n) (f k) (map f ns) (has_map f ns n later))
    (lists.has_cases n k ns h)

pub map_has : (f : ℕ → Node) (ns : List ℕ) (a : Node) → has a (map f ns) ≡ true → (n : ℕ) × (plain.has n ns ≡ true) × (f n ≡ a)
map_has f [] a h = absurd (false≢true h)
map_has f (k ∷ ns) a h = ⊎_elim
    (λ (same : a ≡ f k). (k, lists.has_first k ns, sym same))
    (λ (later : has a (map f ns) ≡ true). let (n, there, is) = map_has f ns a later in (n, or_right (nat_eq k n) (plain.has n ns) there, is))
    (has_cases a (f k) (map f ns) h)

-- ---- nodes of sets

pub once_nodes : (keys : List Node) → IsDistinct same_node keys → IsOnce keys
once_nodes keys distinct = AllPairs-from_IsDistinct decides_nodes keys distinct
