-- Lists made in loops, one element after another. Serves the arrows and the walks.
use Rattle.std.proofs.Common.{◌≡◌, ◌∙◌, sym, ap, refl, subst, arith, ℕ, ◌+◌, ◌<◌, ◌≤◌, inl, inr, ◌⊎◌, ⊎_elim, Bool, true, false, cond, ◌||◌, List, [], ◌∷◌, ◌++◌, length, get_or, take, drop, append_assoc, ◌-◌, Option, Some, None, Result, Ok, Err, IfOk, IsTrue, ◌↔◌, nat_lt}
use Rattle.std.specs.List.{cons_option, filter_map, flat_map, position, position_or_len, All}
use Rattle.std.specs.Option.{option_to_list}
use Rattle.block_index.proofs.Tests.{filter_map_more}
use Rattle.std.specs.declared.alloc.Global.{Global}
use Rattle.std.specs.declared.vec.Vec.{Vec}
use Rattle.std.proofs.lemmas.Bool.{or_cases, or_left, or_right}
use Rattle.std.proofs.lemmas.Bool.Decides.{nat_tests}
use Rattle.std.proofs.lemmas.Grind.{flat_map-append}
use Rattle.std.proofs.lemmas.List.{append-nil, drop_more, take_more}
use Rattle.std.proofs.lemmas.List.Folds.{list_any_more}
use Rattle.node_links.proofs.Relinking.{all_of}
use Rattle.needs_order.specs.Needs as plain
use Rattle.dep_graph.specs.Nodes.{has, same_node}
use Rattle.dep_graph.specs.Walks.{IsOnce}
use Rattle.dep_graph.specs.declared.key.Key.{Key}
use Rattle.dep_graph.specs.declared.net.Net.{Net}
use Rattle.dep_graph.specs.declared.node.Node.{Node}
use Rattle.dep_graph.specs.internal.Arrows.{node_total}
use Rattle.dep_graph.specs.internal.Numbers.{place_of}
use Rattle.dep_graph.specs.internal.Walked.{AreKnown, AreUnknown, pick, picks}
use Rattle.dep_graph.specs.internal.Keys.{same_key}
use Rattle.dep_graph.proofs.Numbers.{place_within}
use Rattle.dep_graph.proofs.Places.{has_one}
use Rattle.dep_graph.specs.internal.Hashed.{own_node}

-- ---- one element more

pub flat_map_next : {X : Type 0} (f : X → List ℕ) (xs : List X) (i : ℕ) (d : X) → i < length xs → flat_map f (take (i + 1) xs) ≡ flat_map f (take i xs) ++ f (get_or xs i d)
flat_map_next f xs i d inside =
    ap (flat_map f) (take_more xs i d inside) ∙ (flat_map-append f (take i xs) (get_or xs i d ∷ []) ∙ ap (λ ys. flat_map f (take i xs) ++ ys) (append-nil (f (get_or xs i d))))

-- ---- numbers that were looked up

pub some_number : (keys : List Key) (k : Key) (n : ℕ) → Some n ≡ position (same_key k) keys → (n ≡ position_or_len (same_key k) keys) × (n < length keys)
some_number keys a n is = by (nat_lt (position_or_len (same_key a) keys) (length keys)) refl is
  where
    below : (i m : ℕ) → nat_lt i m ≡ true → i < m
    below i m h = grind (arith, nat_tests)

    by : (t : Bool) → nat_lt (position_or_len (same_key a) keys) (length keys) ≡ t → Some n ≡ cond t (Some (position_or_len (same_key a) keys)) None → (n ≡ position_or_len (same_key a) keys) × (n < length keys)
    by true e same = let here : n ≡ position_or_len (same_key a) keys = cc in (here, subst (λ k. k < length keys) (sym here) (below (position_or_len (same_key a) keys) (length keys) e))
    by false e same = absurd (cc)

pub none_number : (keys : List Key) (k : Key) → None ≡ position (same_key k) keys → length keys ≤ position_or_len (same_key k) keys
none_number keys a is = by (nat_lt (position_or_len (same_key a) keys) (length keys)) refl is
  where
    not_below : (i m : ℕ) → nat_lt i m ≡ false → m ≤ i
    not_below i m h = grind (arith, nat_tests)

    by : (t : Bool) → nat_lt (position_or_len (same_key a) keys) (length keys) ≡ t → None ≡ cond t (Some (position_or_len (same_key a) keys)) None → length keys ≤ position_or_len (same_key a) keys
    by true e same = absurd (cc)
    by false e same = not_below (position_or_len (same_key a) keys) (length keys) e

pub last_number : (keys : List Key) (k : Key) → None ≡ position (same_key k) keys → position_or_len (same_key k) keys ≡ length keys
last_number keys k is = omega (arith, none_number keys k is, place_within keys k)

-- ---- known and unknown nodes, one more gone by

module _ (net : Net) (nodes : List Node) (i : ℕ) (d : Node) (inside : i < length nodes) where
  taken : (a : Node) → has a (take (i + 1) nodes) ≡ (has a (take i nodes) || same_node a (get_or nodes i d))
  taken a = list_any_more (same_node a) nodes i d inside

  was_taken : (a : Node) → has a (take i nodes) ≡ true → has a (take (i + 1) nodes) ≡ true
  was_taken a h = taken a ∙ or_left (has a (take i nodes)) (same_node a (get_or nodes i d)) h

  now_taken : (a : Node) → a ≡ get_or nodes i d → has a (take (i + 1) nodes) ≡ true
  now_taken a same = taken a ∙ or_right (has a (take i nodes)) (same_node a (get_or nodes i d)) (subst (λ x. same_node a x ≡ true) same (own_node a))

  either_taken : (a : Node) → has a (take (i + 1) nodes) ≡ true → (has a (take i nodes) ≡ true) ⊎ (a ≡ get_or nodes i d)
  either_taken a h = ⊎_elim
      (λ (before : has a (take i nodes) ≡ true). inl before)
      (λ (now : same_node a (get_or nodes i d) ≡ true). inr (has_one a (get_or nodes i d) (or_left (same_node a (get_or nodes i d)) false now)))
      (or_cases (has a (take i nodes)) (same_node a (get_or nodes i d)) (sym (taken a) ∙ h))

  pub known_next : (old new : List ℕ) (node : Node) → get_or nodes i d ≡ node → AreKnown net (take i nodes) old
      → ((n : ℕ) → IsTrue (plain.has n new) ↔ (IsTrue (plain.has n old) ⊎ ((n ≡ place_of net.nodes node) × (n < node_total net)))) → AreKnown net (take (i + 1) nodes) new
  known_next old new node at before put n = (
    λ h. ⊎_elim
        (λ (was : plain.has n old ≡ true). let (a, listed, placed, low) = (before n).0 was in (a, was_taken a listed, placed, low))
        (λ (now : (n ≡ place_of net.nodes node) × (n < node_total net)). (node, now_taken node (sym at), now.0, now.1))
        ((put n).0 h),
    λ (known : (a : Node) × IsTrue (has a (take (i + 1) nodes)) × (n ≡ place_of net.nodes a) × (n < node_total net)). (put n).1 (⊎_elim
        (λ (listed : has known.0 (take i nodes) ≡ true). inl ((before n).1 (known.0, listed, known.2, known.3)))
        (λ (same : known.0 ≡ get_or nodes i d). inr (known.2 ∙ ap (place_of net.nodes) (same ∙ at), known.3))
        (either_taken known.0 known.1)),
  )

  pub unknown_next : (old new : List Node) (node : Node) → get_or nodes i d ≡ node → AreUnknown net (take i nodes) old
      → ((a : Node) → IsTrue (has a new) ↔ (IsTrue (has a old) ⊎ ((a ≡ node) × (node_total net ≤ place_of net.nodes node)))) → IsOnce new → AreUnknown net (take (i + 1) nodes) new
  unknown_next old new node at before put once = (
    λ a. (
      λ h. ⊎_elim
          (λ (was : has a old ≡ true). let both = (before.0 a).0 was in (was_taken a both.0, both.1))
          (λ (now : (a ≡ node) × (node_total net ≤ place_of net.nodes node)). (now_taken a (now.0 ∙ sym at), subst (λ x. node_total net ≤ place_of net.nodes x) (sym now.0) now.1))
          ((put a).0 h),
      λ (both : IsTrue (has a (take (i + 1) nodes)) × (node_total net ≤ place_of net.nodes a)). (put a).1 (⊎_elim
          (λ (listed : has a (take i nodes) ≡ true). inl ((before.0 a).1 (listed, both.1)))
          (λ (same : a ≡ get_or nodes i d). let is : a ≡ node = same ∙ at in inr (is, subst (λ x. node_total net ≤ place_of net.nodes x) is both.1))
          (either_taken a both.0)),
    ),
    once,
  )

-- ---- the same where the list is known as what it grew from

pub flat_map_more : {X : Type 0} (f : X → List ℕ) (xs : List X) (i : ℕ) (d x : X) (old new : List ℕ) → i < length xs → get_or xs i d ≡ x → old ≡ flat_map f (take i xs) → new ≡ old ++ f x → new ≡ flat_map f (take (i + 1) xs)
flat_map_more f xs i d x old new inside at before is = is ∙ (ap (λ l. l ++ f x) before ∙ (ap (λ y. flat_map f (take i xs) ++ f y) (sym at) ∙ sym (flat_map_next f xs i d inside)))

-- ---- nodes that are found under numbers

pub found_next : (f : ℕ → Option Node) (ns : List ℕ) (i : ℕ) (before old new : List Node) → i < length ns → old ≡ before ++ filter_map f (take i ns) → new ≡ old ++ option_to_list (f (get_or ns i 0))
    → new ≡ before ++ filter_map f (take (i + 1) ns)
found_next f ns i before old new inside was added =
    added ∙ (ap (λ l. l ++ option_to_list (f (get_or ns i 0))) was
    ∙ (append_assoc before (filter_map f (take i ns)) (option_to_list (f (get_or ns i 0)))
    ∙ ap (λ l. before ++ l) (sym (filter_map_more f ns i 0 inside))))

found_append : (f : ℕ → Option Node) (xs ys : List ℕ) → filter_map f (xs ++ ys) ≡ filter_map f xs ++ filter_map f ys
found_append f [] ys = refl
found_append f (x ∷ xs) ys = ap (cons_option (f x)) (found_append f xs ys) ∙ moved (f x) (filter_map f xs) (filter_map f ys)
  where
    moved : (o : Option Node) (l r : List Node) → cons_option o (l ++ r) ≡ cons_option o l ++ r
    moved None l r = refl
    moved (Some a) l r = refl

-- one more of a walk from its end
picks_more : (known walk : List ℕ) (marks : List Bool) (i : ℕ) → i < length walk → i < length marks → picks known (drop i walk) (drop i marks) ≡ picks known (drop (i + 1) walk) (drop (i + 1) marks) ++ pick known (get_or walk i 0) (get_or marks i false)
picks_more known walk marks i first second = ap (λ l. picks known l (drop i marks)) (drop_more walk i 0 first) ∙ ap (λ l. picks known (get_or walk i 0 ∷ drop (i + 1) walk) l) (drop_more marks i false second)

pub ordered_next : (f : ℕ → Option Node) (known walk : List ℕ) (marks : List Bool) (left : ℕ) (before old new : List Node) → 0 < left → left ≤ length walk → length marks ≡ length walk
    → old ≡ before ++ filter_map f (picks known (drop left walk) (drop left marks)) → new ≡ old ++ filter_map f (pick known (get_or walk (left - 1) 0) (get_or marks (left - 1) false))
    → new ≡ before ++ filter_map f (picks known (drop (left - 1) walk) (drop (left - 1) marks))
ordered_next f known walk marks left before old new some low count was added =
    let back : left - 1 + 1 ≡ left = omega (arith, some) in
    added ∙ (ap (λ l. l ++ filter_map f (pick known (get_or walk (left - 1) 0) (get_or marks (left - 1) false))) was
    ∙ (append_assoc before (filter_map f (picks known (drop left walk) (drop left marks))) (filter_map f (pick known (get_or walk (left - 1) 0) (get_or marks (left - 1) false)))
    ∙ ap (λ l. before ++ l) (sym (found_append f (picks known (drop left walk) (drop left marks)) (pick known (get_or walk (left - 1) 0) (get_or marks (left - 1) false)))
    ∙ ap (filter_map f) (sym (picks_more known walk marks (left - 1) (omega (arith, some, low)) (omega (arith, some, low, count))
    ∙ ap (λ n. picks known (drop n walk) (drop n marks) ++ pick known (get_or walk (left - 1) 0) (get_or marks (left - 1) false)) back)))))

-- ---- by results

pub if_ok : {A B : Type 0} (r : Result A B) (P Q : A → Type 0) → IfOk r P → ((x : A) → P x → Q x) → IfOk r Q
if_ok (Ok x) P Q h f = f x h
if_ok (Err e) P Q h f = tt

-- numbers that are all below a count
pub all_inside : {B : Type 0} (r : Result (Vec ℕ Global) B) (targets : List ℕ) (n : ℕ) → IfOk r (λ found. found.items ≡ targets) → ((b : ℕ) → plain.has b targets ≡ true → b < n) → IfOk r (λ found. All (λ b. b < n) found.items)
all_inside (Ok found) targets n is each = subst (λ l. All (λ b. b < n) l) (sym is) (all_of n targets each)
all_inside (Err e) targets n is each = tt
