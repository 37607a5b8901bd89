-- Nodes that an operation bends, by those that it touches. Serves the bent nodes.
use Rattle.std.proofs.Common.{◌≡◌, ◌≢◌, ◌∙◌, sym, ap, subst, ℕ, ◌+◌, ◌<◌, inl, inr, true, List, [], get_or, length, map, take, IsTrue}
use Rattle.std.specs.List.{AllPairs, filter_map}
use Rattle.std.proofs.lemmas.Bool.{false≢true}
use Rattle.needs_order.specs.Needs as plain
use Rattle.node_links.specs.Nodes.{needs_of, users_of}
use Rattle.shift_core.specs.declared.shift.Shift.{Shift}
use Rattle.dep_graph.specs.Bent.{AreBent, Bends, IsBentBy}
use Rattle.dep_graph.specs.Nodes.{has}
use Rattle.dep_graph.specs.declared.net.Net.{Net}
use Rattle.dep_graph.specs.declared.node.Node.{Node}
use Rattle.dep_graph.specs.internal.BentNumbers.{AddsBentUsers, AreBentUsers, IsBentUser}
use Rattle.dep_graph.specs.internal.Nets.{links_in}
use Rattle.dep_graph.specs.internal.Numbers.{IsAlive, found_at, node_at, place_of}
use Rattle.dep_graph.specs.internal.Touches.{AddsAll, FindsTouched}
use Rattle.dep_graph.proofs.Numbers.{at_place, found_all, found_place, place_is}
use Rattle.dep_graph.proofs.Places.{has_map, map_has}
use Rattle.dep_graph.proofs.Reaching.{once_map}
use Rattle.dep_graph.proofs.Untouched.{taken_before, taken_cases, taken_here, untouched_still}
use Rattle.dep_graph.proofs.Walking.{link_user}

-- no numbers have no users
pub no_users : (s : Shift) (net : Net) (users : List ℕ) → users ≡ [] → AreBentUsers s net [] users
no_users s net users none n = (
  λ h. absurd (false≢true (sym (ap (plain.has n) none) ∙ h)),
  λ (by : (m : ℕ) × IsTrue (plain.has m []) × IsBentUser s net n m). absurd (false≢true by.1),
)

-- the users of a node that isn't bent are none that count
pub none_added : (s : Shift) (net : Net) (m : ℕ) (users : List ℕ) → ¬ Bends s (node_at net.nodes m) → AddsBentUsers s net m users users
none_added s net m users still n = (
  λ h. inl h,
  λ h. elim h [ inl was ↦ was | inr user ↦ absurd (still user.1) ],
)

-- the users of a node that is bent were added
pub users_added : (s : Shift) (net : Net) (m : ℕ) (more old new : List ℕ) → Bends s (node_at net.nodes m) → more ≡ users_of net.links m → AddsAll more old new → AddsBentUsers s net m old new
users_added s net m more old new bends is adds n = (
  λ h. elim ((adds n).0 h) [
    | inl was ↦ inl was
    | inr user ↦ inr (sym (net.links.exact n m) ∙ subst (λ l. plain.has n l ≡ true) is user, bends)
  ],
  λ h. elim h [
    | inl was ↦ (adds n).1 (inl was)
    | inr user ↦ (adds n).1 (inr (subst (λ l. plain.has n l ≡ true) (sym is) (net.links.exact n m ∙ user.0)))
  ],
)

-- one number more
pub next_users : (s : Shift) (net : Net) (found : List ℕ) (i d : ℕ) (old new : List ℕ) → i < length found → AreBentUsers s net (take i found) old → AddsBentUsers s net (get_or found i d) old new
    → AreBentUsers s net (take (i + 1) found) new
next_users s net found i d old new inside before adds n = (
  λ h. elim ((adds n).0 h) [
    | inl was ↦ let (m, early, user) = (before n).0 was in (m, taken_before found i m d inside early, user)
    | inr user ↦ (get_or found i d, taken_here found i d inside, user)
  ],
  λ (by : (m : ℕ) × IsTrue (plain.has m (take (i + 1) found)) × IsBentUser s net n m).
      let (m, taken, user) = by in
      elim (taken_cases found i m d inside taken) [
        | inl early ↦ (adds n).1 (inl ((before n).1 (m, early, user)))
        | inr is ↦ (adds n).1 (inr (subst (IsBentUser s net n) is user))
      ],
)

-- the nodes of all of them are the bent ones
pub all_bent : (s : Shift) (net : Net) (found users : List ℕ) (nodes : List Node) → FindsTouched s net.nodes found → AreBentUsers s net found users → AllPairs (λ a b. a ≢ b) users
    → nodes ≡ filter_map (found_at net.nodes) users → AreBent s (links_in net) nodes
all_bent s net found users nodes finds are once is = (
  λ a. (
    λ h.
        let (n, there, at) = map_has (node_at net.nodes) users a (subst (λ l. has a l ≡ true) mapped h) in
        let (m, low, (listed, bends)) = (are n).0 there in
        let place : place_of net.nodes a ≡ n = place_is net.nodes a n (alive n there) at in
        (node_at net.nodes m, subst (λ k. has (node_at net.nodes m) (map (node_at net.nodes) (needs_of net.links k)) ≡ true) (sym place) (has_map (node_at net.nodes) (needs_of net.links n) m listed), bends),
    λ (by : IsBentBy s (links_in net) a).
        let (b, link, bends) = by in
        let (a_in, b_in, listed) = link_user net a b link in
        let here : plain.has (place_of net.nodes b) found ≡ true
        = elim (finds (place_of net.nodes b) b (found_place net.nodes b b_in)) [ inl h ↦ h | inr untouched ↦ absurd (untouched_still s b untouched bends) ] in
        let user : plain.has (place_of net.nodes a) users ≡ true
        = (are (place_of net.nodes a)).1 (place_of net.nodes b, here, (listed, subst (Bends s) (sym (at_place net.nodes b b_in)) bends)) in
        subst (λ l. has a l ≡ true) (sym mapped) (subst (λ x. has x (map (node_at net.nodes) users) ≡ true) (at_place net.nodes a a_in) (has_map (node_at net.nodes) users (place_of net.nodes a) user)),
  ),
  subst (AllPairs (λ a b. a ≢ b)) (sym mapped) (once_map net.nodes users once alive),
)
  where
    alive : (n : ℕ) → plain.has n users ≡ true → IsAlive net.nodes n
    alive n h = let (m, low, (listed, bends)) = (are n).0 h in (net.alive n m listed).0

    mapped : nodes ≡ map (node_at net.nodes) users
    mapped = is ∙ found_all net.nodes users alive
