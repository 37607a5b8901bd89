-- Arrows of a net and chains of needs: the ones lead where the others come from. Serves all walks.
use Rattle.std.proofs.Common.{◌≡◌, ◌∙◌, sym, ap, refl, subst, arith, ℕ, ◌+◌, ◌-◌, ◌<◌, ◌≤◌, inl, inr, ◌⊎◌, ⊎_elim, Bool, true, false, cond, List, [], ◌∷◌, map, filter, length, nat_lt, Option, Some, None}
use Rattle.std.proofs.lemmas.Bool.{cases_lt, false≢true}
use Rattle.std.proofs.lemmas.Bool.Decides.{nat_tests}
use Rattle.std.specs.Prelude.{IsSome}
use Rattle.std.proofs.lemmas.Option.{same_Some}
use Rattle.cell_addr.specs.declared.place.Place.{Place}
use Rattle.place_lines.specs.Spots.{spot_of}
use Rattle.needs_order.specs.Needs as plain
use Rattle.needs_order.proofs.Lists as lists
use Rattle.node_links.specs.Nodes.{needs_of, users_of}
use Rattle.node_reach.specs.Arrows.{LeadsTo, at_once, after}
use Rattle.block_index.proofs.Tests.{any_has, has_any}
use Rattle.dep_graph.specs.Needs as needs
use Rattle.dep_graph.specs.Needs.{Chain, IsUsed, Needs}
use Rattle.dep_graph.specs.Nodes.{covers_node, has}
use Rattle.dep_graph.specs.declared.net.Net.{Net}
use Rattle.dep_graph.specs.declared.node.Node.{Node}
use Rattle.dep_graph.specs.declared.node.Node.TheVariants.{Cell, Name, Range, Whole}
use Rattle.dep_graph.specs.internal.Arrows.{cell_slots, from_node, from_slot, is_used, node_total, slots_behind, starts_of, targets_of, total, under_slot}
use Rattle.dep_graph.specs.internal.Numbers.{IsAlive, found_at, is_range, key_at, node_at, place_of}
use Rattle.dep_graph.specs.internal.Files.{FindsNode, filed_at, slot_total, slots_over}
use Rattle.dep_graph.specs.internal.Filings.{filing_of}
use Rattle.dep_graph.specs.internal.Keys.{key_of}
use Rattle.dep_graph.specs.internal.Nets.{links_in}
use Rattle.dep_graph.specs.declared.key.Key.{Key}
use Rattle.dep_graph.specs.declared.key.Key.TheVariants as key
use Rattle.dep_graph.proofs.Filed.{held_node, node_covers}
use Rattle.dep_graph.proofs.FiledSlots.{map_plus, plus_map, slots_inside}
use Rattle.dep_graph.proofs.Growing.{unknown_links}
use Rattle.dep_graph.proofs.Numbers.{alive_inside, alive_number, alive_place, at_place, found_place, key_is, place_is}
use Rattle.dep_graph.proofs.Places.{has_map, map_has}
use Rattle.dep_graph.proofs.Served.{served_node}

-- ---- plain lists

lt_true : (v n : ℕ) → v < n → nat_lt v n ≡ true
lt_true v n h = grind (arith, nat_tests)

ge_false : (v n : ℕ) → n ≤ v → nat_lt v n ≡ false
ge_false v n h = grind (arith, nat_tests)

pub some_of : (xs : List ℕ) → nat_lt 0 (length xs) ≡ true → (u : ℕ) × (plain.has u xs ≡ true)
some_of [] h = absurd (false≢true (sym (none 0 refl) ∙ h))
  where
    none : (n : ℕ) → n ≡ 0 → nat_lt 0 n ≡ false
    none n h = grind (arith, nat_tests)
some_of (u ∷ xs) h = (u, lists.has_first u xs)

pub of_some : (xs : List ℕ) (u : ℕ) → plain.has u xs ≡ true → nat_lt 0 (length xs) ≡ true
of_some [] u h = absurd (false≢true h)
of_some (x ∷ xs) u h = lt_true 0 (length (x ∷ xs)) (omega arith)

pub filter_has : (q : ℕ → Bool) (xs : List ℕ) (a : ℕ) → plain.has a (filter q xs) ≡ true → (plain.has a xs ≡ true) × (q a ≡ true)
filter_has q [] a h = absurd (false≢true h)
filter_has q (x ∷ xs) a h = by (q x) refl (λ later. filter_has q xs a later) h
  where
    by : (t : Bool) → q x ≡ t → (plain.has a (filter q xs) ≡ true → (plain.has a xs ≡ true) × (q a ≡ true)) → plain.has a (cond t (x ∷ filter q xs) (filter q xs)) ≡ true → (plain.has a (x ∷ xs) ≡ true) × (q a ≡ true)
    by true e rest there = ⊎_elim
        (λ (same : x ≡ a). (subst (λ k. plain.has k (x ∷ xs) ≡ true) same (lists.has_first x xs), subst (λ k. q k ≡ true) same e))
        (λ (later : plain.has a (filter q xs) ≡ true). (lists.has-append_right a (x ∷ []) xs (rest later).0, (rest later).1))
        (lists.has_cases a x (filter q xs) there)
    by false e rest there = (lists.has-append_right a (x ∷ []) xs (rest there).0, (rest there).1)

pub has_filter : (q : ℕ → Bool) (xs : List ℕ) (a : ℕ) → plain.has a xs ≡ true → q a ≡ true → plain.has a (filter q xs) ≡ true
has_filter q [] a h passes = absurd (false≢true h)
has_filter q (x ∷ xs) a h passes = by (q x) refl (λ later. has_filter q xs a later passes)
  where
    by : (t : Bool) → q x ≡ t → (plain.has a xs ≡ true → plain.has a (filter q xs) ≡ true) → plain.has a (cond t (x ∷ filter q xs) (filter q xs)) ≡ true
    by true e rest = ⊎_elim
        (λ (same : x ≡ a). subst (λ k. plain.has a (k ∷ filter q xs) ≡ true) (sym same) (lists.has_first a (filter q xs)))
        (λ (later : plain.has a xs ≡ true). lists.has-append_right a (x ∷ []) (filter q xs) (rest later))
        (lists.has_cases a x xs h)
    by false e rest = ⊎_elim
        (λ (same : x ≡ a). absurd (false≢true (sym e ∙ subst (λ k. q k ≡ true) (sym same) passes)))
        (λ (later : plain.has a xs ≡ true). rest later)
        (lists.has_cases a x xs h)

-- ---- nodes that cover

cell_of : (a b : Node) → covers_node a b ≡ true → (p : Place) × (b ≡ Cell p)
cell_of (Range x) (Cell p) h = (p, refl)
cell_of (Range x) (Name scope word) h = absurd (false≢true h)
cell_of (Range x) (Range y) h = absurd (false≢true h)
cell_of (Range x) (Whole y) h = absurd (false≢true h)
cell_of (Whole x) (Cell p) h = (p, refl)
cell_of (Whole x) (Name scope word) h = absurd (false≢true h)
cell_of (Whole x) (Range y) h = absurd (false≢true h)
cell_of (Whole x) (Whole y) h = absurd (false≢true h)
cell_of (Cell p) b h = absurd (false≢true h)
cell_of (Name scope word) b h = absurd (false≢true h)

-- ---- chains

pub chain_end : {links : Node → List Node} {a b c : Node} → Chain links a b → Needs links b c → Chain links a c
chain_end (needs.at_once x) y = needs.after x (needs.at_once y)
chain_end (needs.after x rest) y = needs.after x (chain_end rest y)

pub leads_on : {targets : ℕ → List ℕ} {a b c : ℕ} → LeadsTo targets a b → LeadsTo targets b c → LeadsTo targets a c
leads_on (at_once x) rest = after x rest
leads_on (after x led) rest = after x (leads_on led rest)

some_filing : (o : Option ℕ) → IsSome o → (f : ℕ) × (o ≡ Some f)
some_filing (Some f) h = (f, refl)
some_filing None h = absurd (false≢true h)

-- what covers a cell is a range
range_covers : (a : Node) (p : Place) → covers_node a (Cell p) ≡ true → is_range (Some a) ≡ true
range_covers (Range b) p h = refl
range_covers (Whole w) p h = refl
range_covers (Cell q) p h = absurd (false≢true h)
range_covers (Name scope word) p h = absurd (false≢true h)

-- the slots that hold a place
abbrev pub spot_slots : Net → Place → List ℕ
spot_slots net p = slots_over net.files (spot_of net.nodes.lines p)

module _ (net : Net) where
  -- ---- arrows of one node

  pub targets_low : (v : ℕ) → v < node_total net → targets_of net v ≡ from_node net v
  targets_low v h = ap (λ t. cond t (from_node net v) (from_slot net (v - node_total net))) (lt_true v (node_total net) h)

  pub targets_high : (v : ℕ) → node_total net ≤ v → targets_of net v ≡ from_slot net (v - node_total net)
  targets_high v h = ap (λ t. cond t (from_node net v) (from_slot net (v - node_total net))) (ge_false v (node_total net) h)

  -- a user of a number is a node that is linked to its node, and both have numbers
  pub user_alive : (i u : ℕ) → plain.has u (users_of net.links i) ≡ true → IsAlive net.nodes u × IsAlive net.nodes i
  user_alive i u h = net.alive u i (sym (net.links.exact u i) ∙ h)

  pub user_link : (i u : ℕ) → plain.has u (users_of net.links i) ≡ true → (IsAlive net.nodes u) × (has (node_at net.nodes i) (links_in net (node_at net.nodes u)) ≡ true)
  user_link i u h =
      let linked : plain.has i (needs_of net.links u) ≡ true = sym (net.links.exact u i) ∙ h in
      let alive : IsAlive net.nodes u = (net.alive u i linked).0 in
      (alive, subst (λ n. has (node_at net.nodes i) (map (node_at net.nodes) (needs_of net.links n)) ≡ true) (sym (alive_number net.nodes u alive)) (has_map (node_at net.nodes) (needs_of net.links u) i linked))

  -- a linked node has a user, and both have numbers
  pub link_user : (a b : Node) → has b (links_in net a) ≡ true
      → (place_of net.nodes a < node_total net) × (place_of net.nodes b < node_total net) × (plain.has (place_of net.nodes b) (needs_of net.links (place_of net.nodes a)) ≡ true)
  link_user a b h =
      let (k, there, is) = map_has (node_at net.nodes) (needs_of net.links (place_of net.nodes a)) b h in
      let alive : IsAlive net.nodes k = (net.alive (place_of net.nodes a) k there).1 in
      let same : place_of net.nodes b ≡ k = place_is net.nodes b k alive is in (
        ⊎_elim
            (λ (low : place_of net.nodes a < node_total net). low)
            (λ (past : node_total net ≤ place_of net.nodes a). absurd (false≢true (subst (λ l. has b l ≡ true) (unknown_links net a past) h)))
            (cases_lt (place_of net.nodes a) (node_total net)),
        subst (λ n. n < node_total net) (sym same) (alive_inside net.nodes k alive),
        subst (λ n. plain.has n (needs_of net.links (place_of net.nodes a)) ≡ true) (sym same) there,
      )

  user_of : (a b : Node) → has b (links_in net a) ≡ true → plain.has (place_of net.nodes a) (users_of net.links (place_of net.nodes b)) ≡ true
  user_of a b h = net.links.exact (place_of net.nodes a) (place_of net.nodes b) ∙ (link_user a b h).2

  -- a used number is that of a used node
  pub used_node : (r : ℕ) → is_used net r ≡ true → (IsAlive net.nodes r) × IsUsed (links_in net) (node_at net.nodes r)
  used_node r h =
      let (u, user) = some_of (users_of net.links r) h in
      ((user_alive r u user).1, (node_at net.nodes u, (user_link r u user).1))

  -- ---- ranges

  -- what is filed under a slot of a cell and used covers the cell
  pub cover_used : (p : Place) (s r : ℕ) → plain.has s (spot_slots net p) ≡ true → plain.has r (from_slot net s) ≡ true
      → (IsAlive net.nodes r) × (covers_node (node_at net.nodes r) (Cell p) ≡ true) × IsUsed (links_in net) (node_at net.nodes r)
  cover_used p s r slot under =
      let (owned, used) = filter_has (is_used net) (under_slot net s) r under in
      let (first, at) = served_node net.files r (filed_at net.files s) owned in
      let (alive, is) = used_node r used in
      let (a, found_a, holds) = held_node net.nodes.lines net.nodes.keys.keys net.files r (net.filed r first at) in
      let found : FindsNode net.files r (spot_of net.nodes.lines p) = any_has (λ t. plain.has r (under_slot net t)) (spot_slots net p) s slot owned in
      let covered : covers_node a (Cell p) ≡ true = (node_covers net.nodes.lines (FindsNode net.files r) a p holds).0 found in
      (alive, subst (λ x. covers_node x (Cell p) ≡ true) (sym (same_Some (node_at net.nodes r) a (sym alive ∙ found_a))) covered, is)

  -- so it needs the cell
  cover_need : (p : Place) (s r : ℕ) → plain.has s (spot_slots net p) ≡ true → plain.has r (from_slot net s) ≡ true → (IsAlive net.nodes r) × Needs (links_in net) (node_at net.nodes r) (Cell p)
  cover_need p s r slot under = let (alive, covered, is) = cover_used p s r slot under in (alive, inr (covered, is))

  -- a used node that covers a cell is filed under a slot of it
  pub covered_slot : (a : Node) (p : Place) → covers_node a (Cell p) ≡ true → IsUsed (links_in net) a
      → (place_of net.nodes a < node_total net) × ((s : ℕ) × (plain.has s (spot_slots net p) ≡ true) × (plain.has (place_of net.nodes a) (from_slot net s) ≡ true))
  covered_slot a p covers_it (c, h) =
      let (c_in, a_in, listed) = link_user c a h in
      let here : found_at net.nodes (place_of net.nodes a) ≡ Some a = found_place net.nodes a a_in in
      let range : is_range (found_at net.nodes (place_of net.nodes a)) ≡ true = ap is_range here ∙ range_covers a p covers_it in
      let (first, at) = some_filing (filing_of net.files.current (place_of net.nodes a)) (net.used (place_of net.nodes c) (place_of net.nodes a) listed range) in
      let (x, there, holds) = held_node net.nodes.lines net.nodes.keys.keys net.files (place_of net.nodes a) (net.filed (place_of net.nodes a) first at) in
      let found : FindsNode net.files (place_of net.nodes a) (spot_of net.nodes.lines p)
      = (node_covers net.nodes.lines (FindsNode net.files (place_of net.nodes a)) x p holds).1 (subst (λ y. covers_node y (Cell p) ≡ true) (same_Some a x (sym here ∙ there)) covers_it) in
      let (s, slot, owned) = has_any (λ t. plain.has (place_of net.nodes a) (under_slot net t)) (spot_slots net p) found in
      (a_in, (s, slot, has_filter (is_used net) (under_slot net s) (place_of net.nodes a) owned (of_some (users_of net.links (place_of net.nodes a)) (place_of net.nodes c) (user_of c a h))))

  -- ---- from arrows to chains

  pub record Fwd (v w : ℕ) : Type 0 where
    pub low : v < node_total net → IsAlive net.nodes v → Chain (links_in net) (node_at net.nodes w) (node_at net.nodes v)
    pub high : node_total net ≤ v → (r : ℕ) × (plain.has r (from_slot net (v - node_total net)) ≡ true) × ((r ≡ w) ⊎ Chain (links_in net) (node_at net.nodes w) (node_at net.nodes r))

  -- a chain to a range that needs a cell goes on to the cell
  to_cell : (p : Place) (s r w : ℕ) → plain.has s (spot_slots net p) ≡ true → plain.has r (from_slot net s) ≡ true → (r ≡ w) ⊎ Chain (links_in net) (node_at net.nodes w) (node_at net.nodes r)
      → Chain (links_in net) (node_at net.nodes w) (Cell p)
  to_cell p s r w slot under ends =
      let need : Needs (links_in net) (node_at net.nodes r) (Cell p) = (cover_need p s r slot under).1 in
      ⊎_elim
      (λ (same : r ≡ w). needs.at_once (subst (λ n. Needs (links_in net) (node_at net.nodes n) (Cell p)) same need))
      (λ (chain : Chain (links_in net) (node_at net.nodes w) (node_at net.nodes r)). chain_end chain need)
      ends

  -- from the slots of a node
  from_behind : (a : Node) (c w : ℕ) → plain.has c (slots_behind net (key_of net.nodes.lines a)) ≡ true → Fwd c w → Chain (links_in net) (node_at net.nodes w) a
  from_behind (Cell p) c w there f =
      let (s, slot, is) = map_plus (node_total net) (spot_slots net p) c there in
      let (r, under, ends) = f.high (omega (arith, is)) in
      let here : c - node_total net ≡ s = omega (arith, is) in
      to_cell p s r w slot (subst (λ n. plain.has r (from_slot net n) ≡ true) here under) ends
  from_behind (Name scope word) c w there f = absurd (false≢true there)
  from_behind (Range b) c w there f = absurd (false≢true there)
  from_behind (Whole v) c w there f = absurd (false≢true there)

  pub behind_high : (k : Key) (c : ℕ) → plain.has c (slots_behind net k) ≡ true → node_total net ≤ c
  behind_high k c there = let (s, slot, is) = map_plus (node_total net) (cell_slots net.files k) c there in omega (arith, is)

  step : (v c w : ℕ) → w < node_total net → plain.has c (targets_of net v) ≡ true → (c ≡ w) ⊎ Fwd c w → Fwd v w
  step v c w w_in next led = record {
    low = λ v_in alive. ⊎_elim
        (λ (user : plain.has c (users_of net.links v) ≡ true).
        let (c_alive, linked) = user_link v c user in
        ⊎_elim
        (λ (same : c ≡ w). needs.at_once (inl (subst (λ n. has (node_at net.nodes v) (links_in net (node_at net.nodes n)) ≡ true) same linked)))
        (λ (f : Fwd c w). chain_end (f.low (alive_inside net.nodes c c_alive) c_alive) (inl linked))
        led)
        (λ (slot : plain.has c (slots_behind net (key_at net.nodes v)) ≡ true). ⊎_elim
        (λ (same : c ≡ w). absurd (omega (arith, same, w_in, behind_high (key_at net.nodes v) c slot)))
        (λ (f : Fwd c w). from_behind (node_at net.nodes v) c w (subst (λ k. plain.has c (slots_behind net k) ≡ true) (key_is net.nodes v alive) slot) f)
        led)
        (lists.has-append_cases c (users_of net.links v) (slots_behind net (key_at net.nodes v)) (subst (λ l. plain.has c l ≡ true) (targets_low v v_in) next));
    high = λ past.
        let under : plain.has c (from_slot net (v - node_total net)) ≡ true = subst (λ l. plain.has c l ≡ true) (targets_high v past) next in
        let (filed, used) = filter_has (is_used net) (under_slot net (v - node_total net)) c under in
        let alive : IsAlive net.nodes c = (used_node c used).0 in
        (c, under, ⊎_elim (λ (same : c ≡ w). inl same) (λ (f : Fwd c w). inr (f.low (alive_inside net.nodes c alive) alive)) led);
  }

  pub fwd : {v w : ℕ} → LeadsTo (targets_of net) v w → w < node_total net → Fwd v w
  fwd {v = v} {w = w} (at_once next) w_in = step v w w w_in next (inl refl)
  fwd {v = v} {w = w} (after {b = c} next rest) w_in = step v c w w_in next (inr (fwd rest w_in))

  -- a number to which arrows lead has a node
  target_alive : (v w : ℕ) → plain.has w (targets_of net v) ≡ true → w < node_total net → IsAlive net.nodes w
  target_alive v w next w_in = ⊎_elim
      (λ (v_in : v < node_total net). ⊎_elim
      (λ (user : plain.has w (users_of net.links v) ≡ true). (user_alive v w user).0)
      (λ (slot : plain.has w (slots_behind net (key_at net.nodes v)) ≡ true). absurd (omega (arith, w_in, behind_high (key_at net.nodes v) w slot)))
      (lists.has-append_cases w (users_of net.links v) (slots_behind net (key_at net.nodes v)) (subst (λ l. plain.has w l ≡ true) (targets_low v v_in) next)))
      (λ (past : node_total net ≤ v).
      let (filed, used) = filter_has (is_used net) (under_slot net (v - node_total net)) w (subst (λ l. plain.has w l ≡ true) (targets_high v past) next) in
      (used_node w used).0)
      (cases_lt v (node_total net))

  pub led_alive : {v w : ℕ} → LeadsTo (targets_of net) v w → w < node_total net → IsAlive net.nodes w
  led_alive {v = v} {w = w} (at_once next) w_in = target_alive v w next w_in
  led_alive (after next rest) w_in = led_alive rest w_in

  -- ---- from chains to arrows

  need_leads : (a b : Node) → Needs (links_in net) a b → place_of net.nodes b < node_total net
      → (place_of net.nodes a < node_total net) × LeadsTo (targets_of net) (place_of net.nodes b) (place_of net.nodes a)
  need_leads a b need b_in = ⊎_elim
      (λ (h : has b (links_in net a) ≡ true). (
        (link_user a b h).0,
        at_once (subst (λ l. plain.has (place_of net.nodes a) l ≡ true) (sym (targets_low (place_of net.nodes b) b_in))
            (lists.has-append_left (place_of net.nodes a) (users_of net.links (place_of net.nodes b)) (slots_behind net (key_at net.nodes (place_of net.nodes b))) (user_of a b h))),
      ))
      (λ (h : (covers_node a b ≡ true) × IsUsed (links_in net) a).
      let (p, cell) = cell_of a b h.0 in
      let (a_in, (s, slot, under)) = covered_slot a p (subst (λ x. covers_node a x ≡ true) cell h.0) h.1 in
      let behind : plain.has (node_total net + s) (slots_behind net (key_at net.nodes (place_of net.nodes b))) ≡ true
      = subst (λ x. plain.has (node_total net + s) (slots_behind net x) ≡ true) (sym (key_is net.nodes (place_of net.nodes b) (alive_place net.nodes b b_in) ∙ ap (key_of net.nodes.lines) (at_place net.nodes b b_in ∙ cell))) (plus_map (node_total net) (spot_slots net p) s slot) in (
        a_in,
        after (subst (λ l. plain.has (node_total net + s) l ≡ true) (sym (targets_low (place_of net.nodes b) b_in))
            (lists.has-append_right (node_total net + s) (users_of net.links (place_of net.nodes b)) (slots_behind net (key_at net.nodes (place_of net.nodes b))) behind)) (slot_leads a s under),
      ))
      need
    where
      back_to : (n s : ℕ) → n + s - n ≡ s
      back_to n s = omega arith

      slot_leads : (a : Node) (s : ℕ) → plain.has (place_of net.nodes a) (from_slot net s) ≡ true → LeadsTo (targets_of net) (node_total net + s) (place_of net.nodes a)
      slot_leads a s under = at_once (subst (λ l. plain.has (place_of net.nodes a) l ≡ true) (sym (targets_high (node_total net + s) (omega arith) ∙ ap (from_slot net) (back_to (node_total net) s))) under)

  unknown_need : (a b : Node) → Needs (links_in net) a b → node_total net ≤ place_of net.nodes b
      → (place_of net.nodes a < node_total net) × ((v : ℕ) × (plain.has v (slots_behind net (key_of net.nodes.lines b)) ≡ true) × LeadsTo (targets_of net) v (place_of net.nodes a))
  unknown_need a b need past = ⊎_elim
      (λ (h : has b (links_in net a) ≡ true). absurd (omega (arith, past, (link_user a b h).1)))
      (λ (h : (covers_node a b ≡ true) × IsUsed (links_in net) a).
      let (p, cell) = cell_of a b h.0 in
      let (a_in, (s, slot, under)) = covered_slot a p (subst (λ x. covers_node a x ≡ true) cell h.0) h.1 in (
        a_in,
        (
          node_total net + s,
          subst (λ x. plain.has (node_total net + s) (slots_behind net (key_of net.nodes.lines x)) ≡ true) (sym cell) (plus_map (node_total net) (spot_slots net p) s slot),
          at_once (subst (λ l. plain.has (place_of net.nodes a) l ≡ true) (sym (targets_high (node_total net + s) (omega arith) ∙ ap (from_slot net) (back_to (node_total net) s))) under),
        ),
      ))
      need
    where
      back_to : (n s : ℕ) → n + s - n ≡ s
      back_to n s = omega arith

  pub starts_low : (m : Node) → place_of net.nodes m < node_total net → starts_of net m ≡ place_of net.nodes m ∷ []
  starts_low m h = ap (λ t. cond t (place_of net.nodes m ∷ []) (slots_behind net (key_of net.nodes.lines m))) (lt_true (place_of net.nodes m) (node_total net) h)

  pub starts_high : (m : Node) → node_total net ≤ place_of net.nodes m → starts_of net m ≡ slots_behind net (key_of net.nodes.lines m)
  starts_high m h = ap (λ t. cond t (place_of net.nodes m ∷ []) (slots_behind net (key_of net.nodes.lines m))) (ge_false (place_of net.nodes m) (node_total net) h)

  -- where a chain leads, arrows lead back
  pub chain_back : {a m : Node} → Chain (links_in net) a m
      → (place_of net.nodes a < node_total net) × ((v : ℕ) × (plain.has v (starts_of net m) ≡ true) × LeadsTo (targets_of net) v (place_of net.nodes a))
  chain_back {a = a} {m = m} (needs.at_once need) = ⊎_elim
      (λ (m_in : place_of net.nodes m < node_total net).
      let (a_in, led) = need_leads a m need m_in in
      (a_in, (place_of net.nodes m, subst (λ l. plain.has (place_of net.nodes m) l ≡ true) (sym (starts_low m m_in)) (lists.has_first (place_of net.nodes m) []), led)))
      (λ (past : node_total net ≤ place_of net.nodes m).
      let (a_in, (v, start, led)) = unknown_need a m need past in
      (a_in, (v, subst (λ l. plain.has v l ≡ true) (sym (starts_high m past)) start, led)))
      (cases_lt (place_of net.nodes m) (node_total net))
  chain_back {a = a} {m = m} (needs.after {b = c} need rest) =
      let (c_in, (v, start, led)) = chain_back rest in
      let (a_in, more) = need_leads a c need c_in in
      (a_in, (v, start, leads_on led more))

  -- where arrows lead from a start of a node, a chain leads back
  pub starts_chain : (m : Node) (v w : ℕ) → plain.has v (starts_of net m) ≡ true → LeadsTo (targets_of net) v w → w < node_total net → Chain (links_in net) (node_at net.nodes w) m
  starts_chain m v w start led w_in = ⊎_elim
      (λ (m_in : place_of net.nodes m < node_total net).
      let same : place_of net.nodes m ≡ v = one (place_of net.nodes m) v (subst (λ l. plain.has v l ≡ true) (starts_low m m_in) start) in
      subst (λ x. Chain (links_in net) (node_at net.nodes w) x) (ap (node_at net.nodes) (sym same) ∙ at_place net.nodes m m_in) ((fwd led w_in).low (subst (λ n. n < node_total net) same m_in) (subst (IsAlive net.nodes) same (alive_place net.nodes m m_in))))
      (λ (past : node_total net ≤ place_of net.nodes m). from_behind m v w (subst (λ l. plain.has v l ≡ true) (starts_high m past) start) (fwd led w_in))
      (cases_lt (place_of net.nodes m) (node_total net))
    where
      one : (x a : ℕ) → plain.has a (x ∷ []) ≡ true → x ≡ a
      one x a h = ⊎_elim (λ (same : x ≡ a). same) (λ (none : false ≡ true). absurd (false≢true none)) (lists.has_cases a x [] h)

  -- between nodes with numbers
  pub chain_leads : {a b : Node} → Chain (links_in net) a b → place_of net.nodes b < node_total net → LeadsTo (targets_of net) (place_of net.nodes b) (place_of net.nodes a)
  chain_leads {a = a} {b = b} chain b_in =
      let (a_in, (v, start, led)) = chain_back chain in
      let same : place_of net.nodes b ≡ v = one (place_of net.nodes b) v (subst (λ l. plain.has v l ≡ true) (starts_low b b_in) start) in
      subst (λ n. LeadsTo (targets_of net) n (place_of net.nodes a)) (sym same) led
    where
      one : (x a : ℕ) → plain.has a (x ∷ []) ≡ true → x ≡ a
      one x a h = ⊎_elim (λ (same : x ≡ a). same) (λ (none : false ≡ true). absurd (false≢true none)) (lists.has_cases a x [] h)

  pub leads_chain : (v w : ℕ) → IsAlive net.nodes v → w < node_total net → LeadsTo (targets_of net) v w → Chain (links_in net) (node_at net.nodes w) (node_at net.nodes v)
  leads_chain v w alive w_in led = (fwd led w_in).low (alive_inside net.nodes v alive) alive

  -- ---- all arrows lead to nodes and slots

  pub behind_inside : (k : Key) (c : ℕ) → plain.has c (slots_behind net k) ≡ true → c < total net
  behind_inside (key.Cell x) c h =
      let (s, slot, is) = map_plus (node_total net) (slots_over net.files x) c h in
      let low : s < slot_total net.files = slots_inside net.files x s slot in
      omega (arith, low, is)
  behind_inside (key.Name scope word) c h = absurd (false≢true h)
  behind_inside (key.Range a) c h = absurd (false≢true h)
  behind_inside (key.Whole a) c h = absurd (false≢true h)

  pub slot_targets_inside : (s c : ℕ) → plain.has c (from_slot net s) ≡ true → c < total net
  slot_targets_inside s c h =
      let (filed, used) = filter_has (is_used net) (under_slot net s) c h in
      let low : c < node_total net = alive_inside net.nodes c (used_node c used).0 in
      omega (arith, low)

  pub targets_inside : (v c : ℕ) → plain.has c (targets_of net v) ≡ true → c < total net
  targets_inside v c h = ⊎_elim
      (λ (v_in : v < node_total net). ⊎_elim
      (λ (user : plain.has c (users_of net.links v) ≡ true). let low : c < node_total net = alive_inside net.nodes c (user_alive v c user).0 in omega (arith, low))
      (λ (slot : plain.has c (slots_behind net (key_at net.nodes v)) ≡ true). behind_inside (key_at net.nodes v) c slot)
      (lists.has-append_cases c (users_of net.links v) (slots_behind net (key_at net.nodes v)) (subst (λ l. plain.has c l ≡ true) (targets_low v v_in) h)))
      (λ (past : node_total net ≤ v). slot_targets_inside (v - node_total net) c (subst (λ l. plain.has c l ≡ true) (targets_high v past) h))
      (cases_lt v (node_total net))
