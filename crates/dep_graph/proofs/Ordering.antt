-- Exactly the nodes on no cycle are ordered, each after what its needs lead to. Serves the order of nodes.
use Rattle.std.proofs.Common.{◌≡◌, ◌∙◌, sym, ap, refl, subst, arith, ℕ, suc, ◌+◌, ◌-◌, ◌<◌, ◌≤◌, inl, inr, ◌⊎◌, ⊎_elim, Bool, true, false, List, [], ◌∷◌, ◌++◌, map, length, get_or, take, drop, ◌↔◌}
use Rattle.std.proofs.lemmas.Bool.{cases_lt, false≢true}
use Rattle.std.proofs.lemmas.List.{drop_more, get_or-append_right, get_or-take, length-append, length-take-le, take-append-drop}
use Rattle.needs_order.specs.Needs as plain
use Rattle.needs_order.proofs.Lists as lists
use Rattle.node_reach.specs.Arrows as arrows
use Rattle.node_reach.specs.Arrows.{LeadsTo}
use Rattle.dep_graph.specs.Needs.{OnCycle}
use Rattle.dep_graph.specs.Nodes.{has}
use Rattle.dep_graph.specs.Walks.{InOrder, IsOnce, IsOrdered}
use Rattle.dep_graph.specs.declared.net.Net.{Net}
use Rattle.dep_graph.specs.declared.node.Node.{Node}
use Rattle.dep_graph.specs.internal.Arrows.{node_total, targets_of, total}
use Rattle.dep_graph.specs.internal.Numbers.{IsAlive, node_at, place_of}
use Rattle.dep_graph.specs.internal.Nets.{links_in}
use Rattle.dep_graph.specs.internal.Walked.{AreKnown, AreUnknown, picks}
use Rattle.dep_graph.proofs.Picking.{has_picks, picks_has, picks_once, picks_split}
use Rattle.dep_graph.proofs.Numbers.{alive_inside, alive_number, alive_place, at_place, place_is}
use Rattle.dep_graph.proofs.Places.{cases_true, has-append_cases, has-append_left, has-append_right, has_first, has_map, map_has}
use Rattle.dep_graph.proofs.Reaching.{once-append, once_map}
use Rattle.dep_graph.proofs.Walking.{chain_back, chain_leads, leads_chain, leads_on}

-- ---- where one element stands

node_split : (xs ys front back : List Node) (a : Node) → xs ++ ys ≡ front ++ a ∷ back
    → ((rest : List Node) × (xs ≡ front ++ a ∷ rest)) ⊎ ((more : List Node) × (front ≡ xs ++ more) × (ys ≡ more ++ a ∷ back))
node_split [] ys front back a e = inr (front, refl, e)
node_split (x ∷ xs) ys [] back a e = let first : x ≡ a = cc in inl (xs, ap (λ y. y ∷ xs) first)
node_split (x ∷ xs) ys (y ∷ front) back a e =
    let first : x ≡ y = cc in
    let others : xs ++ ys ≡ front ++ a ∷ back = cc in
    ⊎_elim
    (λ (found : (rest : List Node) × (xs ≡ front ++ a ∷ rest)). let (rest, is) = found in inl (rest, cc))
    (λ (found : (more : List Node) × (front ≡ xs ++ more) × (ys ≡ more ++ a ∷ back)). let (more, is, behind) = found in inr (more, cc, behind))
    (node_split xs ys front back a others)

has_middle : (front back : List Node) (a : Node) → has a (front ++ a ∷ back) ≡ true
has_middle front back a = has-append_right a front (a ∷ back) (has_first a back)

map_split : (f : ℕ → Node) (ns : List ℕ) (front back : List Node) (a : Node) → map f ns ≡ front ++ a ∷ back → (low : List ℕ) × (high : List ℕ) × (n : ℕ) × (ns ≡ low ++ n ∷ high) × (map f low ≡ front) × (f n ≡ a)
map_split f [] front back a e = absurd (none front e)
  where
    none : (front : List Node) → [] ≡ front ++ a ∷ back → ⊥
    none [] e = cc
    none (x ∷ front) e = cc
map_split f (n ∷ ns) [] back a e = let first : f n ≡ a = cc in ([], ns, n, refl, refl, first)
map_split f (n ∷ ns) (x ∷ front) back a e =
    let first : f n ≡ x = cc in
    let others : map f ns ≡ front ++ a ∷ back = cc in
    let (low, high, m, split, fronts, is) = map_split f ns front back a others in
    (n ∷ low, high, m, ap (λ l. n ∷ l) split, (λ i. first i ∷ fronts i), is)

split_at : (walk : List ℕ) (j : ℕ) → j < length walk → walk ≡ take j walk ++ get_or walk j 0 ∷ drop (j + 1) walk
split_at walk j inside = sym (take-append-drop j walk) ∙ ap (λ l. take j walk ++ l) (drop_more walk j 0 inside)

first : (l n : ℕ) (high : List ℕ) → get_or (n ∷ high) (l - l) 0 ≡ n
first l n high = ap (λ i. get_or (n ∷ high) i 0) (gone l)
  where
    gone : (l : ℕ) → l - l ≡ 0
    gone l = omega arith

less : (j l : ℕ) → l < j → j - l ≡ suc (j - (l + 1))
less j l h = omega (arith, h)

behind : (low : List ℕ) (n : ℕ) (high : List ℕ) (j : ℕ) → length low < j → get_or (low ++ n ∷ high) j 0 ≡ get_or high (j - (length low + 1)) 0
behind low n high j later = get_or-append_right low (n ∷ high) (length low) j 0 refl (omega (arith, later)) ∙ ap (λ i. get_or (n ∷ high) i 0) (less j (length low) later)

-- ---- the order

module _ (net : Net) (nodes unknown order : List Node) (known walk : List ℕ) (marks : List Bool) (rest : AreUnknown net nodes unknown) (numbers : AreKnown net nodes known)
    (walked : arrows.AreReached (targets_of net) known walk) (count : length marks ≡ length walk) (cycles : arrows.CyclesAre (targets_of net) walk marks) (in_order : arrows.InOrder (targets_of net) walk)
    (is : order ≡ unknown ++ map (node_at net.nodes) (picks known walk marks)) where
  -- a known number is that of one of the nodes
  known_node : (n : ℕ) → plain.has n known ≡ true → (IsAlive net.nodes n) × (has (node_at net.nodes n) nodes ≡ true)
  known_node n h =
      let (a, listed, at, inside) = (numbers n).0 h in
      let low : place_of net.nodes a < node_total net = subst (λ k. k < node_total net) at inside in
      (subst (IsAlive net.nodes) (sym at) (alive_place net.nodes a low), subst (λ x. has x nodes ≡ true) (sym (at_place net.nodes a low) ∙ ap (node_at net.nodes) (sym at)) listed)

  -- one that isn't marked is on no cycle
  unmarked : (j : ℕ) → j < length walk → IsAlive net.nodes (get_or walk j 0) → get_or marks j false ≡ false → OnCycle (links_in net) (node_at net.nodes (get_or walk j 0)) → ⊥
  unmarked j inside alive mark cycle =
      let at : place_of net.nodes (node_at net.nodes (get_or walk j 0)) ≡ get_or walk j 0 = alive_number net.nodes (get_or walk j 0) alive in
      let led : LeadsTo (targets_of net) (get_or walk j 0) (get_or walk j 0)
      = subst (λ n. LeadsTo (targets_of net) n n) at (chain_leads net cycle (subst (λ n. n < node_total net) (sym at) (alive_inside net.nodes (get_or walk j 0) alive))) in
      false≢true (sym mark ∙ (cycles j inside).1 led)

  only : (a : Node) → has a order ≡ true → (has a nodes ≡ true) × ¬ OnCycle (links_in net) a
  only a h = ⊎_elim
      (λ (out : has a unknown ≡ true). let (listed, past) = (rest.0 a).0 out in (listed, λ cycle. absurd (omega (arith, past, (chain_back net cycle).0))))
      (λ (inside : has a (map (node_at net.nodes) (picks known walk marks)) ≡ true).
      let (n, there, same) = map_has (node_at net.nodes) (picks known walk marks) a inside in
      let (k, (j, j_in, at, mark)) = picks_has known walk marks n there in
      let (alive, listed) = known_node n k in (
        subst (λ x. has x nodes ≡ true) same listed,
        λ cycle. unmarked j j_in (subst (IsAlive net.nodes) (sym at) alive) mark (subst (λ x. OnCycle (links_in net) x) (sym same ∙ ap (node_at net.nodes) (sym at)) cycle),
      ))
      (has-append_cases a unknown (map (node_at net.nodes) (picks known walk marks)) (subst (λ l. has a l ≡ true) is h))

  every : (a : Node) → has a nodes ≡ true → ¬ OnCycle (links_in net) a → has a order ≡ true
  every a listed apart = subst (λ l. has a l ≡ true) (sym is) (⊎_elim
      (λ (inside : place_of net.nodes a < node_total net).
      let k : plain.has (place_of net.nodes a) known ≡ true = (numbers (place_of net.nodes a)).1 (a, listed, refl, inside) in
      let (j, j_in, at) = lists.at_has (place_of net.nodes a) walk ((walked.0 (place_of net.nodes a)).1 (inl k)) in
      let mark : get_or marks j false ≡ false = ⊎_elim
      (λ (marked : get_or marks j false ≡ true). absurd (apart (subst (λ x. OnCycle (links_in net) x) (ap (node_at net.nodes) at ∙ at_place net.nodes a inside)
      (leads_chain net (get_or walk j 0) (get_or walk j 0) (subst (IsAlive net.nodes) (sym at) (alive_place net.nodes a inside)) (subst (λ n. n < node_total net) (sym at) inside) ((cycles j j_in).0 marked)))))
      (λ (out : get_or marks j false ≡ false). out)
      (cases_true (get_or marks j false)) in
      has-append_right a unknown (map (node_at net.nodes) (picks known walk marks))
      (subst (λ x. has x (map (node_at net.nodes) (picks known walk marks)) ≡ true) (ap (node_at net.nodes) at ∙ at_place net.nodes a inside)
      (has_map (node_at net.nodes) (picks known walk marks) (get_or walk j 0) (has_picks known walk marks j count j_in (subst (λ n. plain.has n known ≡ true) (sym at) k) mark))))
      (λ (past : node_total net ≤ place_of net.nodes a). has-append_left a unknown (map (node_at net.nodes) (picks known walk marks)) ((rest.0 a).1 (listed, past)))
      (cases_lt (place_of net.nodes a) (node_total net)))

  once : IsOnce order
  once = subst IsOnce (sym is) (once-append unknown (map (node_at net.nodes) (picks known walk marks)) rest.1
      (once_map net.nodes (picks known walk marks) (picks_once known walk marks walked.1) (λ n there. (known_node n (picks_has known walk marks n there).0).0))
      (λ a out inside.
      let (n, there, same) = map_has (node_at net.nodes) (picks known walk marks) a inside in
      let alive : IsAlive net.nodes n = (known_node n (picks_has known walk marks n there).0).0 in
      absurd (omega (arith, place_is net.nodes a n alive same, alive_inside net.nodes n alive, ((rest.0 a).0 out).1))))

  -- of two picked numbers of which the first leads to the second, the second is picked later in the walk than the first
  module _ (front back : List ℕ) (n m : ℕ) (split : picks known walk marks ≡ front ++ n ∷ back) (there : plain.has m (picks known walk marks) ≡ true) (led : LeadsTo (targets_of net) m n) where
    before : plain.has m front ≡ true
    before =
        let (low, high, more, parts, counts, fronts, same) = picks_split known walk marks front back n count split in
        let (k, (j, j_in, at, mark)) = picks_has known walk marks m there in
        let alone : LeadsTo (targets_of net) m m → ⊥ = λ cycle. false≢true (sym mark ∙ (cycles j j_in).1 (subst (λ x. LeadsTo (targets_of net) x x) (sym at) cycle)) in
        let n_at : get_or walk (length low) 0 ≡ n = ap (λ l. get_or l (length low) 0) parts ∙ (get_or-append_right low (n ∷ high) (length low) (length low) 0 refl (omega arith) ∙ first (length low) n high) in
        let long : length walk ≡ length low + suc (length high) = ap length parts ∙ length-append low (n ∷ high) in
        ⊎_elim
        (λ (early : j < length low).
        let here : plain.has n (take j walk) ≡ true = subst (λ x. plain.has x (take j walk) ≡ true) refl (in_order (take j walk) (drop (j + 1) walk) m n (split_at walk j j_in ∙ ap (λ x. take j walk ++ x ∷ drop (j + 1) walk) at) led (λ back_to. alone (leads_on led back_to))) in
        let (i, i_in, i_at) = lists.at_has n (take j walk) here in
        let i_low : i < j = omega (arith, i_in, length-take-le j walk (omega (arith, j_in))) in
        absurd (walked.1 i (length low) 0 (omega (arith, i_low, early)) (omega (arith, long)) (sym (get_or-take j walk i 0 i_low) ∙ (i_at ∙ sym n_at))))
        (λ (late : length low ≤ j). ⊎_elim
        (λ (later : length low < j).
        let i_in : j - (length low + 1) < length high = omega (arith, later, j_in, long) in
        let place : length low + 1 + (j - (length low + 1)) ≡ j = omega (arith, later) in
        let i_at : get_or high (j - (length low + 1)) 0 ≡ m
        = sym (behind low n high j later) ∙ (ap (λ l. get_or l j 0) (sym parts) ∙ at) in
        let i_mark : get_or more (j - (length low + 1)) false ≡ false = same (j - (length low + 1)) ∙ (ap (λ x. get_or marks x false) place ∙ mark) in
        subst (λ l. plain.has m l ≡ true) (sym fronts) (subst (λ x. plain.has x (picks known high more) ≡ true) i_at
        (has_picks known high more (j - (length low + 1)) counts i_in (subst (λ x. plain.has x known ≡ true) (sym i_at) k) i_mark)))
        (λ (there_too : j ≤ length low).
        let j_is : j ≡ length low = omega (arith, late, there_too) in
        let one : m ≡ n = sym at ∙ (ap (λ x. get_or walk x 0) j_is ∙ n_at) in
        absurd (alone (subst (λ x. LeadsTo (targets_of net) m x) (sym one) led)))
        (cases_lt (length low) j))
        (cases_lt j (length low))

  sorted : InOrder (links_in net) order
  sorted front back a b split there chain = ⊎_elim
      (λ (early : (others : List Node) × (unknown ≡ front ++ a ∷ others)).
      absurd (omega (arith, (chain_back net chain).0, ((rest.0 a).0 (subst (λ l. has a l ≡ true) (sym early.1) (has_middle front early.0 a))).1)))
      (λ (late : (more : List Node) × (front ≡ unknown ++ more) × (map (node_at net.nodes) (picks known walk marks) ≡ more ++ a ∷ back)).
      subst (λ l. has b l ≡ true) (sym late.1) (⊎_elim
      (λ (out : has b unknown ≡ true). has-append_left b unknown late.0 out)
      (λ (inside : has b (map (node_at net.nodes) (picks known walk marks)) ≡ true).
      let (low, high, n, parts, fronts, n_is) = map_split (node_at net.nodes) (picks known walk marks) late.0 back a late.2 in
      let (m, m_in, m_is) = map_has (node_at net.nodes) (picks known walk marks) b inside in
      let n_alive : IsAlive net.nodes n = (known_node n (picks_has known walk marks n (subst (λ l. plain.has n l ≡ true) (sym parts) (lists.has-append_right n low (n ∷ high) (lists.has_first n high)))).0).0 in
      let m_alive : IsAlive net.nodes m = (known_node m (picks_has known walk marks m m_in).0).0 in
      let n_at : place_of net.nodes a ≡ n = place_is net.nodes a n n_alive n_is in
      let m_at : place_of net.nodes b ≡ m = place_is net.nodes b m m_alive m_is in
      let led : LeadsTo (targets_of net) m n
      = subst (λ x. LeadsTo (targets_of net) x n) m_at (subst (λ x. LeadsTo (targets_of net) (place_of net.nodes b) x) n_at (chain_leads net chain (subst (λ x. x < node_total net) (sym m_at) (alive_inside net.nodes m m_alive)))) in
      has-append_right b unknown late.0 (subst (λ l. has b l ≡ true) fronts (subst (λ x. has x (map (node_at net.nodes) low) ≡ true) m_is (has_map (node_at net.nodes) low m (before low high n m parts m_in led)))))
      (has-append_cases b unknown (map (node_at net.nodes) (picks known walk marks)) (subst (λ l. has b l ≡ true) is there))))
      (node_split unknown (map (node_at net.nodes) (picks known walk marks)) front back a (sym is ∙ split))

  pub all_ordered : IsOrdered (links_in net) nodes order
  all_ordered = record { which = λ a. (only a, λ h. every a h.0 h.1); once = once; in_order = sorted }

-- ---- one node on a cycle

pub cycle_of : (net : Net) (a : Node) (number : ℕ) (walk : List ℕ) (marks : List Bool) (flag : Bool) → number ≡ place_of net.nodes a → number < node_total net
    → arrows.AreReached (targets_of net) (number ∷ []) walk → arrows.CyclesAre (targets_of net) walk marks → ((i : ℕ) → i < length walk → get_or walk i 0 ≡ number → flag ≡ get_or marks i false)
    → (flag ≡ true) ↔ OnCycle (links_in net) a
cycle_of net a number walk marks flag at low walked cycles told =
    let (j, j_in, j_at) = lists.at_has number walk ((walked.0 number).1 (inl (lists.has_first number []))) in
    let node : node_at net.nodes number ≡ a = ap (node_at net.nodes) at ∙ at_place net.nodes a (subst (λ n. n < node_total net) at low) in (
      λ h.
          let led : LeadsTo (targets_of net) number number = subst (λ n. LeadsTo (targets_of net) n n) j_at ((cycles j j_in).0 (sym (told j j_in j_at) ∙ h)) in
          subst (λ x. OnCycle (links_in net) x) node (leads_chain net number number (subst (IsAlive net.nodes) (sym at) (alive_place net.nodes a (subst (λ n. n < node_total net) at low))) low led),
      λ cycle.
          let led : LeadsTo (targets_of net) number number = subst (λ n. LeadsTo (targets_of net) n n) (sym at) (chain_leads net cycle (subst (λ n. n < node_total net) at low)) in
          told j j_in j_at ∙ (cycles j j_in).1 (subst (λ n. LeadsTo (targets_of net) n n) (sym j_at) led),
    )

pub no_cycle : (net : Net) (a : Node) → node_total net ≤ place_of net.nodes a → (false ≡ true) ↔ OnCycle (links_in net) a
no_cycle net a past = (λ h. absurd (false≢true h), λ cycle. absurd (omega (arith, past, (chain_back net cycle).0)))

pub known_inside_total : (net : Net) (nodes : List Node) (known : List ℕ) → AreKnown net nodes known → (n : ℕ) → plain.has n known ≡ true → n < total net
known_inside_total net nodes known numbers n h = let (a, listed, at, inside) = (numbers n).0 h in omega (arith, inside)

-- a known number has a node
pub known_alive : (net : Net) (nodes : List Node) (known : List ℕ) → AreKnown net nodes known → (n : ℕ) → plain.has n known ≡ true → IsAlive net.nodes n
known_alive net nodes known numbers n h = let (a, listed, at, inside) = (numbers n).0 h in subst (IsAlive net.nodes) (sym at) (alive_place net.nodes a (subst (λ k. k < node_total net) at inside))
