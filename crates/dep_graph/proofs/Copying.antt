-- Nets that are copied node by node. Serves the copy.
use Rattle.std.proofs.Common.{◌≡◌, ◌≢◌, ◌∙◌, sym, ap, refl, subst, arith, ℕ, ◌+◌, ◌<◌, ◌≤◌, inl, inr, ◌⊎◌, ⊎_elim, Bool, true, false, cond, List, [], ◌∷◌, ◌++◌, map, nat_lt, Some, None}
use Rattle.needs_order.specs.Needs as plain
use Rattle.needs_order.proofs.Lists as lists
use Rattle.std.specs.List.{filter_map}
use Rattle.std.proofs.lemmas.Bool.{cases_lt}
use Rattle.std.proofs.lemmas.Option.{same_Some}
use Rattle.std.proofs.lemmas.Bool.Decides.{nat_tests}
use Rattle.node_links.specs.Nodes.{needs_of}
use Rattle.dep_graph.specs.Graph.{AreLinked, AreSame}
use Rattle.dep_graph.specs.Needs.{Links}
use Rattle.dep_graph.specs.Nodes.{same_node}
use Rattle.dep_graph.specs.declared.net.Net.{Net}
use Rattle.dep_graph.specs.declared.node.Node.{Node}
use Rattle.dep_graph.specs.internal.Copied.{AddsCopied}
use Rattle.dep_graph.specs.internal.Hashed.{own_node}
use Rattle.dep_graph.specs.internal.Nets.{links_in}
use Rattle.dep_graph.specs.internal.Numbers.{count_of, found_at, node_at, place_of}
use Rattle.dep_graph.proofs.Growing.{unknown_links}
use Rattle.dep_graph.proofs.Numbers.{found_all, found_place, place_found}
use Rattle.dep_graph.proofs.Places.{cases_node, other_node}

-- the nodes of the first numbers have their links
abbrev pub AreCopied : Net → ℕ → Links → Type 0
AreCopied net i links = (x : Node) → links x ≡ cond (nat_lt (place_of net.nodes x) i) (links_in net x) []

below_next : (k i : ℕ) → k ≢ i → nat_lt k (i + 1) ≡ nat_lt k i
below_next k i other = grind (arith, nat_tests)

is_below : (k i : ℕ) → k ≡ i → nat_lt k (i + 1) ≡ true
is_below k i same = grind (arith, nat_tests)

below_true : (k i : ℕ) → k < i → nat_lt k i ≡ true
below_true k i h = grind (arith, nat_tests)

below_false : (k i : ℕ) → i ≤ k → nat_lt k i ≡ false
below_false k i h = grind (arith, nat_tests)

pub none_copied : (net : Net) (links : Links) → ((a : Node) → links a ≡ []) → AreCopied net 0 links
none_copied net links none x = none x ∙ sym (ap (λ t. cond t (links_in net x) []) (below_false (place_of net.nodes x) 0 (omega arith)))

one_copied : (net : Net) (old new : Links) (i : ℕ) (a : Node) → i < count_of net.nodes → found_at net.nodes i ≡ Some a → AreCopied net i old → AreLinked a (filter_map (found_at net.nodes) (needs_of net.links i)) old new → AreCopied net (i + 1) new
one_copied net old new i a inside found before linked x =
    let at : place_of net.nodes a ≡ i = place_found net.nodes i a found in
    let needs : List Node = filter_map (found_at net.nodes) (needs_of net.links i) in
    linked x ∙ ⊎_elim
    (λ (same : x ≡ a).
    let here : place_of net.nodes x ≡ i = ap (place_of net.nodes) same ∙ at in
    ap (λ t. cond t needs (old x)) (subst (λ y. same_node x y ≡ true) same (own_node x))
    ∙ (found_all net.nodes (needs_of net.links i) (λ n h. (net.alive i n h).1)
    ∙ (ap (λ n. map (node_at net.nodes) (needs_of net.links n)) (sym here) ∙ sym (ap (λ t. cond t (links_in net x) []) (is_below (place_of net.nodes x) i here)))))
    (λ (other : x ≢ a).
    let apart : place_of net.nodes x ≢ i = λ (here : place_of net.nodes x ≡ i).
    other (same_Some x a (sym (ap (found_at net.nodes) (sym here) ∙ found_place net.nodes x (subst (λ n. n < count_of net.nodes) (sym here) inside)) ∙ found)) in
    ap (λ t. cond t needs (old x)) (other_node x a other) ∙ (before x ∙ sym (ap (λ t. cond t (links_in net x) []) (below_next (place_of net.nodes x) i apart))))
    (cases_node x a)

nothing_copied : (net : Net) (old new : Links) (i : ℕ) → needs_of net.links i ≡ [] → AreCopied net i old → AreSame old new → AreCopied net (i + 1) new
nothing_copied net old new i none before same x = same x ∙ (before x ∙ by (either (place_of net.nodes x) i))
  where
    either : (k i : ℕ) → (k ≡ i) ⊎ (k ≢ i)
    either k i = ⊎_elim (λ (low : k < i). inr (λ same. omega (arith, same, low))) (λ (past : i ≤ k). ⊎_elim (λ (more : i < k). inr (λ same. omega (arith, same, more))) (λ (here : k ≤ i). inl (omega (arith, past, here))) (cases_lt i k)) (cases_lt k i)

    by : (place_of net.nodes x ≡ i) ⊎ (place_of net.nodes x ≢ i) → cond (nat_lt (place_of net.nodes x) i) (links_in net x) [] ≡ cond (nat_lt (place_of net.nodes x) (i + 1)) (links_in net x) []
    by (inl here) =
        ap (λ t. cond t (links_in net x) []) (below_false (place_of net.nodes x) i (omega (arith, here)))
        ∙ (sym (ap (map (node_at net.nodes)) (ap (needs_of net.links) here ∙ none)) ∙ sym (ap (λ t. cond t (links_in net x) []) (is_below (place_of net.nodes x) i here)))
    by (inr apart) = sym (ap (λ t. cond t (links_in net x) []) (below_next (place_of net.nodes x) i apart))

pub next_copied : (net : Net) (old new : Links) (i : ℕ) → i < count_of net.nodes → AreCopied net i old → AddsCopied net i old new → AreCopied net (i + 1) new
next_copied net old new i inside before adds = ⊎_elim
    (λ (nothing : (needs_of net.links i ≡ []) × AreSame old new). nothing_copied net old new i nothing.0 before nothing.1)
    (λ (one : (a : Node) × (found_at net.nodes i ≡ Some a) × AreLinked a (filter_map (found_at net.nodes) (needs_of net.links i)) old new). one_copied net old new i one.0 inside one.1 before one.2)
    adds

-- a number that has no node has no needs
pub none_needed : (net : Net) (n : ℕ) → found_at net.nodes n ≡ None → needs_of net.links n ≡ []
none_needed net n none = by (needs_of net.links n) refl
  where
    nothing : None ≡ Some (node_at net.nodes n) → ⊥
    nothing e = cc

    by : (l : List ℕ) → needs_of net.links n ≡ l → l ≡ []
    by [] e = refl
    by (m ∷ l) e = absurd (nothing (sym none ∙ (net.alive n m (subst (λ k. plain.has m k ≡ true) (sym e) (lists.has_first m l))).0))

pub all_copied : (net : Net) (links : Links) (i : ℕ) → count_of net.nodes ≤ i → AreCopied net i links → AreSame (links_in net) links
all_copied net links i past copied x = copied x ∙ ⊎_elim
    (λ (inside : place_of net.nodes x < count_of net.nodes). ap (λ t. cond t (links_in net x) []) (below_true (place_of net.nodes x) i (omega (arith, inside, past))))
    (λ (out : count_of net.nodes ≤ place_of net.nodes x). either (nat_lt (place_of net.nodes x) i) (links_in net x) (unknown_links net x out))
    (cases_lt (place_of net.nodes x) (count_of net.nodes))
  where
    either : (t : Bool) (l : List Node) → l ≡ [] → cond t l [] ≡ l
    either true l none = refl
    either false l none = sym none

-- what is named without unknown nodes
pub needs_named : (net : Net) (n : ℕ) (none found : List Node) (list : List ℕ) → none ≡ [] → list ≡ needs_of net.links n → found ≡ none ++ filter_map (found_at net.nodes) list → found ≡ filter_map (found_at net.nodes) (needs_of net.links n)
needs_named net n none found list empty same is = is ∙ (ap (λ u. u ++ filter_map (found_at net.nodes) list) empty ∙ ap (filter_map (found_at net.nodes)) same)
