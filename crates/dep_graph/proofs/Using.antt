-- Nodes that use a cell, by the numbers of those that are over it. Serves the users.
use Rattle.std.proofs.Common.{◌≡◌, ◌≢◌, ◌∙◌, sym, ap, subst, ℕ, ◌+◌, ◌<◌, ◌≤◌, inl, inr, ⊎_elim, true, false, cond, List, [], ◌∷◌, get_or, length, map, take, nat_lt, arith, IsTrue}
use Rattle.std.specs.List.{AllPairs, filter_map, flat_map}
use Rattle.std.proofs.lemmas.Bool.{cases_lt, false≢true}
use Rattle.std.proofs.lemmas.Bool.Decides.{nat_tests}
use Rattle.cell_addr.proofs.SamePlaces.{same_place-equal, same_place-self}
use Rattle.cell_addr.specs.declared.place.Place.{Place}
use Rattle.needs_order.specs.Needs as plain
use Rattle.needs_order.proofs.Lists as lists
use Rattle.node_links.specs.Nodes.{needs_of, users_of}
use Rattle.dep_graph.specs.Nodes.{covers_node, has}
use Rattle.dep_graph.specs.Users.{AreLinkedTo, AreUsers, IsUserOf, is_over}
use Rattle.dep_graph.specs.declared.net.Net.{Net}
use Rattle.dep_graph.specs.declared.node.Node.{Node}
use Rattle.dep_graph.specs.declared.node.Node.TheVariants.{Cell, Name, Range, Whole}
use Rattle.dep_graph.specs.internal.Arrows.{from_slot, node_total}
use Rattle.dep_graph.specs.internal.Nets.{links_in}
use Rattle.dep_graph.specs.internal.Numbers.{IsAlive, count_of, found_at, node_at, place_of}
use Rattle.dep_graph.specs.internal.Touches.{AddsAll}
use Rattle.dep_graph.specs.internal.UserNumbers.{AreUsersOf, numbers_over, own_number}
use Rattle.dep_graph.proofs.Numbers.{alive_inside, alive_place, at_place, found_all, place_is}
use Rattle.dep_graph.proofs.Places.{has_map, map_has}
use Rattle.dep_graph.proofs.Reaching.{once_map}
use Rattle.dep_graph.proofs.Untouched.{taken_before, taken_cases, taken_here}
use Rattle.dep_graph.proofs.Walking.{cover_used, covered_slot, link_user, spot_slots}

-- ---- lists of lists

flat_has : (f : ℕ → List ℕ) (ns : List ℕ) (n v : ℕ) → plain.has n ns ≡ true → plain.has v (f n) ≡ true → plain.has v (flat_map f ns) ≡ true
flat_has f [] n v h there = absurd (false≢true h)
flat_has f (k ∷ ns) n v h there = ⊎_elim
    (λ (same : k ≡ n). lists.has-append_left v (f k) (flat_map f ns) (subst (λ j. plain.has v (f j) ≡ true) (sym same) there))
    (λ (later : plain.has n ns ≡ true). lists.has-append_right v (f k) (flat_map f ns) (flat_has f ns n v later there))
    (lists.has_cases n k ns h)

has_flat : (f : ℕ → List ℕ) (ns : List ℕ) (v : ℕ) → plain.has v (flat_map f ns) ≡ true → (n : ℕ) × (plain.has n ns ≡ true) × (plain.has v (f n) ≡ true)
has_flat f [] v h = absurd (false≢true h)
has_flat f (k ∷ ns) v h = ⊎_elim
    (λ (here : plain.has v (f k) ≡ true). (k, lists.has_first k ns, here))
    (λ (later : plain.has v (flat_map f ns) ≡ true). let (n, there, is) = has_flat f ns v later in (n, lists.has-append_right n (k ∷ []) ns there, is))
    (lists.has-append_cases v (f k) (flat_map f ns) h)

-- ---- nodes over a cell

over_cell : (p : Place) (a : Node) → covers_node a (Cell p) ≡ true → is_over p a ≡ true
over_cell p (Range b) h = h
over_cell p (Whole w) h = h
over_cell p (Cell q) h = absurd (false≢true h)
over_cell p (Name scope word) h = absurd (false≢true h)

lt_true : (v n : ℕ) → v < n → nat_lt v n ≡ true
lt_true v n h = grind (arith, nat_tests)

ge_false : (v n : ℕ) → n ≤ v → nat_lt v n ≡ false
ge_false v n h = grind (arith, nat_tests)

module _ (net : Net) where
  own_low : (a : Node) → place_of net.nodes a < node_total net → own_number net a ≡ place_of net.nodes a ∷ []
  own_low a h = ap (λ t. cond t (place_of net.nodes a ∷ []) []) (lt_true (place_of net.nodes a) (node_total net) h)

  own_high : (a : Node) → node_total net ≤ place_of net.nodes a → own_number net a ≡ []
  own_high a h = ap (λ t. cond t (place_of net.nodes a ∷ []) []) (ge_false (place_of net.nodes a) (node_total net) h)

  -- the own number of a node, where it has one, is that of the node
  own_only : (a : Node) (m : ℕ) → plain.has m (own_number net a) ≡ true → IsAlive net.nodes m × (node_at net.nodes m ≡ a)
  own_only a m h = ⊎_elim
      (λ (low : place_of net.nodes a < node_total net).
      let same : place_of net.nodes a ≡ m = ⊎_elim (λ (same : place_of net.nodes a ≡ m). same) (λ (none : false ≡ true). absurd (false≢true none)) (lists.has_cases m (place_of net.nodes a) [] (subst (λ l. plain.has m l ≡ true) (own_low a low) h)) in
      subst (λ k. IsAlive net.nodes k × (node_at net.nodes k ≡ a)) same (alive_place net.nodes a low, at_place net.nodes a low))
      (λ (past : node_total net ≤ place_of net.nodes a). absurd (false≢true (subst (λ l. plain.has m l ≡ true) (own_high a past) h)))
      (cases_lt (place_of net.nodes a) (node_total net))

  -- so it is the number of a key
  pub own_inside : (a : Node) (m : ℕ) → plain.has m (own_number net a) ≡ true → m < count_of net.nodes
  own_inside a m h = alive_inside net.nodes m (own_only a m h).0

  -- the numbers over a cell have nodes that are
  over_only : (p : Place) (m : ℕ) → plain.has m (numbers_over net p) ≡ true → IsAlive net.nodes m × (is_over p (node_at net.nodes m) ≡ true)
  over_only p m h = ⊎_elim
      (λ (own : plain.has m (own_number net (Cell p)) ≡ true). ⊎_elim
      (λ (low : place_of net.nodes (Cell p) < node_total net).
      let same : place_of net.nodes (Cell p) ≡ m = one (place_of net.nodes (Cell p)) m (subst (λ l. plain.has m l ≡ true) (own_low (Cell p) low) own) in
      subst (λ k. IsAlive net.nodes k × (is_over p (node_at net.nodes k) ≡ true)) same (alive_place net.nodes (Cell p) low, ap (is_over p) (at_place net.nodes (Cell p) low) ∙ same_place-self p))
      (λ (past : node_total net ≤ place_of net.nodes (Cell p)). absurd (false≢true (subst (λ l. plain.has m l ≡ true) (own_high (Cell p) past) own)))
      (cases_lt (place_of net.nodes (Cell p)) (node_total net)))
      (λ (filed : plain.has m (flat_map (from_slot net) (spot_slots net p)) ≡ true).
      let (s, slot, under) = has_flat (from_slot net) (spot_slots net p) m filed in
      let (alive, covered, used) = cover_used net p s m slot under in
      (alive, over_cell p (node_at net.nodes m) covered))
      (lists.has-append_cases m (own_number net (Cell p)) (flat_map (from_slot net) (spot_slots net p)) h)
    where
      one : (x a : ℕ) → plain.has a (x ∷ []) ≡ true → x ≡ a
      one x a h = ⊎_elim (λ (same : x ≡ a). same) (λ (none : false ≡ true). absurd (false≢true none)) (lists.has_cases a x [] h)

  -- so all of them are numbers of keys
  pub over_inside : (p : Place) (m : ℕ) → plain.has m (numbers_over net p) ≡ true → m < count_of net.nodes
  over_inside p m h = alive_inside net.nodes m (over_only p m h).0

  -- each node over a cell that another is linked to is among them
  over_all : (p : Place) (a b : Node) → has b (links_in net a) ≡ true → is_over p b ≡ true → plain.has (place_of net.nodes b) (numbers_over net p) ≡ true
  over_all p a (Cell q) link over =
      let (a_in, b_in, listed) = link_user net a (Cell q) link in
      let same : q ≡ p = same_place-equal q p over in
      lists.has-append_left (place_of net.nodes (Cell q)) (own_number net (Cell p)) (flat_map (from_slot net) (spot_slots net p))
      (subst (λ r. plain.has (place_of net.nodes (Cell q)) (own_number net (Cell r)) ≡ true) same
      (subst (λ l. plain.has (place_of net.nodes (Cell q)) l ≡ true) (sym (own_low (Cell q) b_in)) (lists.has_first (place_of net.nodes (Cell q)) [])))
  over_all p a (Name scope word) link over = absurd (false≢true over)
  over_all p a (Range b) link over =
      let (inside, (s, slot, under)) = covered_slot net (Range b) p over (a, link) in
      lists.has-append_right (place_of net.nodes (Range b)) (own_number net (Cell p)) (flat_map (from_slot net) (spot_slots net p))
      (flat_has (from_slot net) (spot_slots net p) s (place_of net.nodes (Range b)) slot under)
  over_all p a (Whole w) link over =
      let (inside, (s, slot, under)) = covered_slot net (Whole w) p over (a, link) in
      lists.has-append_right (place_of net.nodes (Whole w)) (own_number net (Cell p)) (flat_map (from_slot net) (spot_slots net p))
      (flat_has (from_slot net) (spot_slots net p) s (place_of net.nodes (Whole w)) slot under)

  -- ---- users

  -- no numbers have no users
  pub no_users : (users : List ℕ) → users ≡ [] → AreUsersOf net [] users
  no_users users none n = (
    λ h. absurd (false≢true (sym (ap (plain.has n) none) ∙ h)),
    λ (by : (m : ℕ) × IsTrue (plain.has m []) × IsTrue (plain.has m (needs_of net.links n))). absurd (false≢true by.1),
  )

  -- one number more
  pub next_users : (numbers more : List ℕ) (i d : ℕ) (old new : List ℕ) → i < length numbers → AreUsersOf net (take i numbers) old → more ≡ users_of net.links (get_or numbers i d) → AddsAll more old new
      → AreUsersOf net (take (i + 1) numbers) new
  next_users numbers more i d old new inside before is adds n = (
    λ h. elim ((adds n).0 h) [
      | inl was ↦ let (m, early, user) = (before n).0 was in (m, taken_before numbers i m d inside early, user)
      | inr user ↦ (get_or numbers i d, taken_here numbers i d inside, sym (net.links.exact n (get_or numbers i d)) ∙ subst (λ l. plain.has n l ≡ true) is user)
    ],
    λ (by : (m : ℕ) × IsTrue (plain.has m (take (i + 1) numbers)) × IsTrue (plain.has m (needs_of net.links n))).
        let (m, taken, user) = by in
        elim (taken_cases numbers i m d inside taken) [
          | inl early ↦ (adds n).1 (inl ((before n).1 (m, early, user)))
          | inr here ↦ (adds n).1 (inr (subst (λ l. plain.has n l ≡ true) (sym is) (net.links.exact n (get_or numbers i d) ∙ subst (λ k. plain.has k (needs_of net.links n) ≡ true) here user)))
        ],
  )

  -- the nodes of the users of all numbers over a cell are its users
  pub all_users : (p : Place) (users : List ℕ) (nodes : List Node) → AreUsersOf net (numbers_over net p) users → AllPairs (λ a b. a ≢ b) users → nodes ≡ filter_map (found_at net.nodes) users
      → AreUsers p (links_in net) nodes
  all_users p users nodes are once is = (
    λ a. (
      λ h.
          let (n, there, at) = map_has (node_at net.nodes) users a (subst (λ l. has a l ≡ true) mapped h) in
          let (m, low, listed) = (are n).0 there in
          let place : place_of net.nodes a ≡ n = place_is net.nodes a n (alive n there) at in (
            node_at net.nodes m,
            subst (λ k. has (node_at net.nodes m) (map (node_at net.nodes) (needs_of net.links k)) ≡ true) (sym place) (has_map (node_at net.nodes) (needs_of net.links n) m listed),
            (over_only p m low).1,
          ),
      λ (by : IsUserOf p (links_in net) a).
          let (b, link, over) = by in
          let (a_in, b_in, listed) = link_user net a b link in
          let user : plain.has (place_of net.nodes a) users ≡ true = (are (place_of net.nodes a)).1 (place_of net.nodes b, over_all p a b link over, listed) in
          subst (λ l. has a l ≡ true) (sym mapped) (subst (λ x. has x (map (node_at net.nodes) users) ≡ true) (at_place net.nodes a a_in) (has_map (node_at net.nodes) users (place_of net.nodes a) user)),
    ),
    subst (AllPairs (λ a b. a ≢ b)) (sym mapped) (once_map net.nodes users once alive),
  )
    where
      alive : (n : ℕ) → plain.has n users ≡ true → IsAlive net.nodes n
      alive n h = let (m, low, listed) = (are n).0 h in (net.alive n m listed).0

      mapped : nodes ≡ map (node_at net.nodes) users
      mapped = is ∙ found_all net.nodes users alive

  -- the nodes of the users of a node's own number are those that are linked to it
  pub own_users : (a : Node) (users : List ℕ) (nodes : List Node) → AreUsersOf net (own_number net a) users → AllPairs (λ n m. n ≢ m) users → nodes ≡ filter_map (found_at net.nodes) users
      → AreLinkedTo a (links_in net) nodes
  own_users a users nodes are once is = (
    λ b. (
      λ h.
          let (n, there, at) = map_has (node_at net.nodes) users b (subst (λ l. has b l ≡ true) mapped h) in
          let (m, own, listed) = (are n).0 there in
          let place : place_of net.nodes b ≡ n = place_is net.nodes b n (alive n there) at in
          subst (λ x. has x (links_in net b) ≡ true) (own_only a m own).1
          (subst (λ k. has (node_at net.nodes m) (map (node_at net.nodes) (needs_of net.links k)) ≡ true) (sym place) (has_map (node_at net.nodes) (needs_of net.links n) m listed)),
      λ (link : IsTrue (has a (links_in net b))).
          let (b_in, a_in, listed) = link_user net b a link in
          let own : plain.has (place_of net.nodes a) (own_number net a) ≡ true = subst (λ l. plain.has (place_of net.nodes a) l ≡ true) (sym (own_low a a_in)) (lists.has_first (place_of net.nodes a) []) in
          let user : plain.has (place_of net.nodes b) users ≡ true = (are (place_of net.nodes b)).1 (place_of net.nodes a, own, listed) in
          subst (λ l. has b l ≡ true) (sym mapped) (subst (λ x. has x (map (node_at net.nodes) users) ≡ true) (at_place net.nodes b b_in) (has_map (node_at net.nodes) users (place_of net.nodes b) user)),
    ),
    subst (AllPairs (λ n m. n ≢ m)) (sym mapped) (once_map net.nodes users once alive),
  )
    where
      alive : (n : ℕ) → plain.has n users ≡ true → IsAlive net.nodes n
      alive n h = let (m, own, listed) = (are n).0 h in (net.alive n m listed).0

      mapped : nodes ≡ map (node_at net.nodes) users
      mapped = is ∙ found_all net.nodes users alive
