-- Exactly the nodes that reach a mark are reached. Serves reach.
use Rattle.std.proofs.Common.{◌≡◌, ◌≢◌, ◌∙◌, sym, ap, subst, arith, ℕ, zero, suc, ◌<◌, ◌≤◌, inl, inr, ⊎_elim, Bool, true, false, cond, List, [], ◌∷◌, ◌++◌, map, filter, get_or, nat_lt}
use Rattle.std.specs.List.{flat_map, AllPairs}
use Rattle.std.proofs.lemmas.Bool.{cases_lt, false≢true}
use Rattle.std.proofs.lemmas.Bool.Decides.{nat_tests}
use Rattle.std.proofs.lemmas.List.{get_or_default}
use Rattle.needs_order.specs.Needs as plain
use Rattle.needs_order.proofs.Lists as lists
use Rattle.node_reach.specs.Arrows as arrows
use Rattle.node_reach.specs.Arrows.{LeadsTo}
use Rattle.dep_graph.specs.Needs.{Chain, Reaches}
use Rattle.dep_graph.specs.Nodes.{has}
use Rattle.dep_graph.specs.Walks.{AreReached, IsOnce}
use Rattle.dep_graph.specs.declared.net.Net.{Net}
use Rattle.dep_graph.specs.declared.node.Node.{Node}
use Rattle.dep_graph.specs.internal.Arrows.{node_total, starts_of, targets_of, total}
use Rattle.dep_graph.specs.declared.table.NodeTable.{NodeTable}
use Rattle.dep_graph.specs.internal.Keys.{key_of}
use Rattle.dep_graph.specs.internal.Numbers.{IsAlive, node_at, place_of}
use Rattle.dep_graph.specs.internal.Nets.{links_in}
use Rattle.dep_graph.specs.internal.Walked.{AreUnknown}
use Rattle.dep_graph.proofs.Numbers.{alive_number, alive_place, at_place, place_is}
use Rattle.dep_graph.proofs.Places.{at_has, has-append_cases, has-append_left, has-append_right, has_at, has_cases, has_first, has_later, has_map, map_has}
use Rattle.dep_graph.proofs.Walking.{behind_inside, chain_back, filter_has, has_filter, led_alive, starts_chain, starts_high, starts_low, behind_high}

-- ---- starts of a list

pub starts_has : (f : Node → List ℕ) (nodes : List Node) (a : Node) (v : ℕ) → has a nodes ≡ true → plain.has v (f a) ≡ true → plain.has v (flat_map f nodes) ≡ true
starts_has f [] a v h there = absurd (false≢true h)
starts_has f (x ∷ nodes) a v h there = ⊎_elim
    (λ (same : a ≡ x). lists.has-append_left v (f x) (flat_map f nodes) (subst (λ y. plain.has v (f y) ≡ true) same there))
    (λ (later : has a nodes ≡ true). lists.has-append_right v (f x) (flat_map f nodes) (starts_has f nodes a v later there))
    (has_cases a x nodes h)

pub has_starts : (f : Node → List ℕ) (nodes : List Node) (v : ℕ) → plain.has v (flat_map f nodes) ≡ true → (a : Node) × (has a nodes ≡ true) × (plain.has v (f a) ≡ true)
has_starts f [] v h = absurd (false≢true h)
has_starts f (x ∷ nodes) v h = ⊎_elim
    (λ (here : plain.has v (f x) ≡ true). (x, has_first x nodes, here))
    (λ (later : plain.has v (flat_map f nodes) ≡ true). let (a, inside, there) = has_starts f nodes v later in (a, has_later a x nodes inside, there))
    (lists.has-append_cases v (f x) (flat_map f nodes) h)

-- ---- lists in which no node stands twice

-- a list without its first
once_first : (x : Node) (xs : List Node) → IsOnce (x ∷ xs) → has x xs ≡ true → ⊥
once_first x xs once h = let (m, inside, is) = at_has x xs x h in once zero (suc m) x (omega arith) (omega (arith, inside)) (sym is)

once_rest : (x : Node) (xs : List Node) → IsOnce (x ∷ xs) → IsOnce xs
once_rest x xs once i j d before inside = once (suc i) (suc j) d (omega (arith, before)) (omega (arith, inside))

pub once_more : (x : Node) (xs : List Node) → (has x xs ≡ true → ⊥) → IsOnce xs → IsOnce (x ∷ xs)
once_more x xs fresh once zero zero d before inside = absurd (omega (arith, before))
once_more x xs fresh once zero (suc j) d before inside = λ same. fresh (subst (λ y. has y xs ≡ true) (sym same) (has_at xs j d (omega (arith, inside))))
once_more x xs fresh once (suc i) zero d before inside = absurd (omega (arith, before))
once_more x xs fresh once (suc i) (suc j) d before inside = once i j d (omega (arith, before)) (omega (arith, inside))

pub once-append : (xs ys : List Node) → IsOnce xs → IsOnce ys → ((a : Node) → has a xs ≡ true → has a ys ≡ true → ⊥) → IsOnce (xs ++ ys)
once-append [] ys first second apart = second
once-append (x ∷ xs) ys first second apart =
    once_more x (xs ++ ys)
    (λ h. ⊎_elim (λ (front : has x xs ≡ true). once_first x xs first front) (λ (back : has x ys ≡ true). apart x (has_first x xs) back) (has-append_cases x xs ys h))
    (once-append xs ys (once_rest x xs first) second (λ a front back. apart a (has_later a x xs front) back))

-- the nodes of numbers that stand once
pub once_map : (t : NodeTable) (ns : List ℕ) → AllPairs (λ a b. a ≢ b) ns → ((n : ℕ) → plain.has n ns ≡ true → IsAlive t n) → IsOnce (map (node_at t) ns)
once_map t [] distinct alive = λ i j d before low. absurd (omega (arith, low))
once_map t (n ∷ ns) distinct alive =
    once_more (node_at t n) (map (node_at t) ns)
    (λ h.
    let (m, there, is) = map_has (node_at t) ns (node_at t n) h in
    let same : n ≡ m = sym (alive_number t n (alive n (lists.has_first n ns))) ∙ place_is t (node_at t n) m (alive m (lists.has-append_right m (n ∷ []) ns there)) is in
    let (k, k_in, k_is) = lists.at_has m ns there in
    distinct zero (suc k) 0 (omega arith) (omega (arith, k_in)) (same ∙ sym k_is))
    (once_map t ns (λ i j d before low. distinct (suc i) (suc j) d (omega (arith, before)) (omega (arith, low))) (λ m there. alive m (lists.has-append_right m (n ∷ []) ns there)))

-- numbers that are picked by a test stand once
pub once_filter : (q : ℕ → Bool) (ns : List ℕ) → AllPairs (λ a b. a ≢ b) ns → AllPairs (λ a b. a ≢ b) (filter q ns)
once_filter q [] distinct = λ i j d before inside. absurd (omega (arith, inside))
once_filter q (n ∷ ns) distinct = by (q n) (once_filter q ns (λ i j d before inside. distinct (suc i) (suc j) d (omega (arith, before)) (omega (arith, inside))))
  where
    by : (t : Bool) → AllPairs (λ a b. a ≢ b) (filter q ns) → AllPairs (λ a b. a ≢ b) (cond t (n ∷ filter q ns) (filter q ns))
    by true rest zero zero d before inside = absurd (omega (arith, before))
    by true rest zero (suc j) d before inside = λ same.
        let here : plain.has (get_or (filter q ns) j 0) ns ≡ true = (filter_has q ns (get_or (filter q ns) j 0) (lists.has_at (filter q ns) j (omega (arith, inside)))).0 in
        let (k, k_in, k_is) = lists.at_has (get_or (filter q ns) j 0) ns here in
        distinct zero (suc k) 0 (omega arith) (omega (arith, k_in)) (same ∙ (get_or_default (filter q ns) j d 0 (omega (arith, inside)) ∙ sym k_is))
    by true rest (suc i) zero d before inside = absurd (omega (arith, before))
    by true rest (suc i) (suc j) d before inside = rest i j d (omega (arith, before)) (omega (arith, inside))
    by false rest i j d before inside = rest i j d before inside

lt_true : (v n : ℕ) → v < n → nat_lt v n ≡ true
lt_true v n h = grind (arith, nat_tests)

true_lt : (v n : ℕ) → nat_lt v n ≡ true → v < n
true_lt v n h = grind (arith, nat_tests)

-- starts are nodes and slots
pub starts_inside : (net : Net) (nodes : List Node) → (v : ℕ) → plain.has v (flat_map (starts_of net) nodes) ≡ true → v < total net
starts_inside net nodes v h =
    let (m, listed, start) = has_starts (starts_of net) nodes v h in
    ⊎_elim
    (λ (m_in : place_of net.nodes m < node_total net).
    let same : place_of net.nodes m ≡ v = one (place_of net.nodes m) v (subst (λ l. plain.has v l ≡ true) (starts_low net m m_in) start) in
    omega (arith, same, m_in))
    (λ (past : node_total net ≤ place_of net.nodes m). behind_inside net (key_of net.nodes.lines m) v (subst (λ l. plain.has v l ≡ true) (starts_high net m past) start))
    (cases_lt (place_of net.nodes m) (node_total net))
  where
    one : (x a : ℕ) → plain.has a (x ∷ []) ≡ true → x ≡ a
    one x a h = ⊎_elim (λ (same : x ≡ a). same) (λ (none : false ≡ true). absurd (false≢true none)) (lists.has_cases a x [] h)

-- ---- all that is reached

module _ (net : Net) (marks : List Node) (starts reached : List ℕ) (begun : starts ≡ flat_map (starts_of net) marks) (walked : arrows.AreReached (targets_of net) starts reached) where
  -- a start below the nodes' count has a node
  start_alive : (v : ℕ) → v < node_total net → plain.has v starts ≡ true → IsAlive net.nodes v
  start_alive v v_in h =
      let (m, marked, start) = has_starts (starts_of net) marks v (subst (λ l. plain.has v l ≡ true) begun h) in
      ⊎_elim
      (λ (m_in : place_of net.nodes m < node_total net).
      let same : place_of net.nodes m ≡ v = one (place_of net.nodes m) v (subst (λ l. plain.has v l ≡ true) (starts_low net m m_in) start) in
      subst (IsAlive net.nodes) same (alive_place net.nodes m m_in))
      (λ (past : node_total net ≤ place_of net.nodes m). absurd (omega (arith, v_in, behind_high net (key_of net.nodes.lines m) v (subst (λ l. plain.has v l ≡ true) (starts_high net m past) start))))
      (cases_lt (place_of net.nodes m) (node_total net))
    where
      one : (x a : ℕ) → plain.has a (x ∷ []) ≡ true → x ≡ a
      one x a h = ⊎_elim (λ (same : x ≡ a). same) (λ (none : false ≡ true). absurd (false≢true none)) (lists.has_cases a x [] h)

  -- what is reached has a node
  pub reached_alive : (v : ℕ) → plain.has v reached ≡ true → v < node_total net → IsAlive net.nodes v
  reached_alive v h v_in = ⊎_elim
      (λ (start : plain.has v starts ≡ true). start_alive v v_in start)
      (λ (led : (u : ℕ) × (plain.has u starts ≡ true) × LeadsTo (targets_of net) u v). led_alive net led.2 v_in)
      ((walked.0 v).0 h)

module _ (net : Net) (marks unknown nodes : List Node) (starts reached : List ℕ) (rest : AreUnknown net marks unknown) (begun : starts ≡ flat_map (starts_of net) marks)
    (walked : arrows.AreReached (targets_of net) starts reached) (is : nodes ≡ unknown ++ map (node_at net.nodes) (filter (λ v. nat_lt v (node_total net)) reached)) where
  -- a start below the nodes' count is a mark
  start_mark : (v : ℕ) → v < node_total net → plain.has v starts ≡ true → has (node_at net.nodes v) marks ≡ true
  start_mark v v_in h =
      let (m, marked, start) = has_starts (starts_of net) marks v (subst (λ l. plain.has v l ≡ true) begun h) in
      ⊎_elim
      (λ (m_in : place_of net.nodes m < node_total net).
      let same : place_of net.nodes m ≡ v = one (place_of net.nodes m) v (subst (λ l. plain.has v l ≡ true) (starts_low net m m_in) start) in
      subst (λ x. has x marks ≡ true) (sym (at_place net.nodes m m_in) ∙ ap (node_at net.nodes) same) marked)
      (λ (past : node_total net ≤ place_of net.nodes m). absurd (omega (arith, v_in, behind_high net (key_of net.nodes.lines m) v (subst (λ l. plain.has v l ≡ true) (starts_high net m past) start))))
      (cases_lt (place_of net.nodes m) (node_total net))
    where
      one : (x a : ℕ) → plain.has a (x ∷ []) ≡ true → x ≡ a
      one x a h = ⊎_elim (λ (same : x ≡ a). same) (λ (none : false ≡ true). absurd (false≢true none)) (lists.has_cases a x [] h)

  reaches : (v : ℕ) → v < node_total net → plain.has v reached ≡ true → Reaches (links_in net) marks (node_at net.nodes v)
  reaches v v_in h = ⊎_elim
      (λ (start : plain.has v starts ≡ true). inl (start_mark v v_in start))
      (λ (led : (u : ℕ) × (plain.has u starts ≡ true) × LeadsTo (targets_of net) u v).
      let (m, marked, start) = has_starts (starts_of net) marks led.0 (subst (λ l. plain.has led.0 l ≡ true) begun led.1) in
      inr (m, marked, starts_chain net m led.0 v start led.2 v_in))
      ((walked.0 v).0 h)

  named : (v : ℕ) → v < node_total net → plain.has v reached ≡ true → has (node_at net.nodes v) nodes ≡ true
  named v v_in h = subst (λ l. has (node_at net.nodes v) l ≡ true) (sym is)
      (has-append_right (node_at net.nodes v) unknown (map (node_at net.nodes) (filter (λ v. nat_lt v (node_total net)) reached))
      (has_map (node_at net.nodes) (filter (λ v. nat_lt v (node_total net)) reached) v (has_filter (λ v. nat_lt v (node_total net)) reached v h (lt_true v (node_total net) v_in))))

  placed : (a : Node) → place_of net.nodes a < node_total net → plain.has (place_of net.nodes a) reached ≡ true → has a nodes ≡ true
  placed a a_in h = subst (λ x. has x nodes ≡ true) (at_place net.nodes a a_in) (named (place_of net.nodes a) a_in h)

  only : (a : Node) → has a nodes ≡ true → Reaches (links_in net) marks a
  only a h = ⊎_elim
      (λ (out : has a unknown ≡ true). inl ((rest.0 a).0 out).0)
      (λ (inside : has a (map (node_at net.nodes) (filter (λ v. nat_lt v (node_total net)) reached)) ≡ true).
      let (v, there, same) = map_has (node_at net.nodes) (filter (λ v. nat_lt v (node_total net)) reached) a inside in
      let (v_reached, v_low) = filter_has (λ v. nat_lt v (node_total net)) reached v there in
      subst (λ x. Reaches (links_in net) marks x) same (reaches v (true_lt v (node_total net) v_low) v_reached))
      (has-append_cases a unknown (map (node_at net.nodes) (filter (λ v. nat_lt v (node_total net)) reached)) (subst (λ l. has a l ≡ true) is h))

  every : (a : Node) → Reaches (links_in net) marks a → has a nodes ≡ true
  every a reached_by = ⊎_elim
      (λ (marked : has a marks ≡ true). ⊎_elim
      (λ (a_in : place_of net.nodes a < node_total net).
      placed a a_in ((walked.0 (place_of net.nodes a)).1 (inl (subst (λ l. plain.has (place_of net.nodes a) l ≡ true) (sym begun)
      (starts_has (starts_of net) marks a (place_of net.nodes a) marked (subst (λ l. plain.has (place_of net.nodes a) l ≡ true) (sym (starts_low net a a_in)) (lists.has_first (place_of net.nodes a) [])))))))
      (λ (past : node_total net ≤ place_of net.nodes a).
      subst (λ l. has a l ≡ true) (sym is) (has-append_left a unknown (map (node_at net.nodes) (filter (λ v. nat_lt v (node_total net)) reached)) ((rest.0 a).1 (marked, past))))
      (cases_lt (place_of net.nodes a) (node_total net)))
      (λ (led : (m : Node) × (has m marks ≡ true) × Chain (links_in net) a m).
      let (a_in, (v, start, arrow)) = chain_back net led.2 in
      placed a a_in ((walked.0 (place_of net.nodes a)).1 (inr (v, subst (λ l. plain.has v l ≡ true) (sym begun) (starts_has (starts_of net) marks led.0 v led.1 start), arrow))))
      reached_by

  once : IsOnce nodes
  once = subst IsOnce (sym is) (once-append unknown (map (node_at net.nodes) (filter (λ v. nat_lt v (node_total net)) reached)) rest.1
      (once_map net.nodes (filter (λ v. nat_lt v (node_total net)) reached) (once_filter (λ v. nat_lt v (node_total net)) reached walked.1)
      (λ n there. let (here, low) = filter_has (λ v. nat_lt v (node_total net)) reached n there in reached_alive net marks starts reached begun walked n here (true_lt n (node_total net) low)))
      (λ a out inside.
      let (v, there, same) = map_has (node_at net.nodes) (filter (λ v. nat_lt v (node_total net)) reached) a inside in
      let v_in : v < node_total net = true_lt v (node_total net) (filter_has (λ v. nat_lt v (node_total net)) reached v there).1 in
      let at : place_of net.nodes a ≡ v = place_is net.nodes a v (reached_alive net marks starts reached begun walked v (filter_has (λ v. nat_lt v (node_total net)) reached v there).0 v_in) same in
      absurd (omega (arith, at, v_in, ((rest.0 a).0 out).1))))

  pub all_reached : AreReached (links_in net) marks nodes
  all_reached = (λ a. (only a, every a), once)
