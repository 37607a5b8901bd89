-- Links that a structural operation moves: those between the targets of numbers. Serves the shift of the graph.
use Rattle.std.proofs.Common.{◌≡◌, ◌∙◌, ◌↔◌, ◌⊎◌, ◌||◌, ◌==◌, sym, ap, refl, subst, inl, inr, ℕ, true, map, Option, Some, None, IsTrue}
use Rattle.std.specs.Prelude.{IsSome}
use Rattle.std.specs.Option.{option_and_then, option_map}
use Rattle.std.proofs.lemmas.Bool.{eq-eqb, eqb-true, or_cases, or_left, or_right}
use Rattle.std.proofs.lemmas.Option.{same_Some}
use Rattle.needs_order.specs.Needs as plain
use Rattle.node_links.specs.Nodes.{needs_of}
use Rattle.node_links.specs.Redirect.{AreRedirected}
use Rattle.node_links.specs.declared.links.Links.{Links}
use Rattle.place_lines.specs.declared.lines.PlaceLines.{PlaceLines}
use Rattle.shift_core.specs.declared.shift.Shift.{Shift}
use Rattle.dep_graph.specs.Graph.{AreSame}
use Rattle.dep_graph.specs.Needs as needs
use Rattle.dep_graph.specs.Nodes.{has}
use Rattle.dep_graph.specs.Shifted.{AreShifted, node_after}
use Rattle.dep_graph.specs.declared.files.Files.{Files}
use Rattle.dep_graph.specs.declared.net.Net.{Net}
use Rattle.dep_graph.specs.declared.node.Node.{Node}
use Rattle.dep_graph.specs.declared.table.NodeTable.{NodeTable}
use Rattle.dep_graph.specs.declared.serving.Serving.{Serving}
use Rattle.dep_graph.specs.internal.Files.{AreServing, FindsBy, HoldsNode, IsServing}
use Rattle.dep_graph.specs.internal.Filings.{filing_of, is_last, owner_at, serves_at, since}
use Rattle.dep_graph.specs.internal.Keys.{key_of}
use Rattle.dep_graph.specs.internal.Nets.{Grows, links_in}
use Rattle.dep_graph.specs.internal.Numbers.{IsAlive, IsHeld, found_at, is_range, key_place, linked, node_at, place_of}
use Rattle.dep_graph.specs.internal.ShiftedNumbers.{AreAllRefiled, AreFilingsUnder, AreTargets, after_at, is_linked}
use Rattle.dep_graph.proofs.Filed.{finds_alike, holds_as, node_held}
use Rattle.dep_graph.proofs.Growing.{grown_links}
use Rattle.dep_graph.proofs.Numbers.{alive_inside, alive_is, alive_number, at_place, found_place, key_found, place_found}
use Rattle.dep_graph.proofs.Places.{has_map, map_has}
use Rattle.dep_graph.proofs.Put.{first_of}
use Rattle.dep_graph.proofs.Refiling.{target_stands}
use Rattle.dep_graph.proofs.Served.{holds_node}
use Rattle.dep_graph.proofs.Targets.{linked_alive, needing_linked, used_by, used_linked}
use Rattle.dep_graph.proofs.Walking.{link_user}

-- the same keys by other lines
abbrev pub by_lines : PlaceLines → NodeTable → NodeTable
by_lines lines t = record { lines = lines; keys = t.keys; once = t.once; narrow = t.narrow }

moves_to : (f : Node → Option Node) (x : Option Node) (y : Node) → x ≡ Some y → option_and_then f x ≡ f y
moves_to f x y e = ap (option_and_then f) e

module _ (s : Shift) (lines : PlaceLines) (net : Net) (target_of : ℕ → Option ℕ) (are : AreTargets s lines net target_of) where
  -- the table after the operation
  abbrev after : NodeTable
  after = by_lines lines net.nodes

  -- what the node of a linked number becomes is found at its target
  pub target_node : (n t : ℕ) → is_linked net n ≡ true → target_of n ≡ Some t
      → (a : Node) × (node_after s (node_at net.nodes n) ≡ Some a) × (found_at after t ≡ Some a)
  target_node n t has_link target = by (node_after s (node_at net.nodes n)) refl
    where
      alive : IsAlive net.nodes n
      alive = linked_alive net n has_link

      goes : after_at s net n ≡ node_after s (node_at net.nodes n)
      goes = moves_to (node_after s) (found_at net.nodes n) (node_at net.nodes n) alive

      by : (o : Option Node) → node_after s (node_at net.nodes n) ≡ o → (a : Node) × (node_after s (node_at net.nodes n) ≡ Some a) × (found_at after t ≡ Some a)
      by None e = absurd (none (sym (are.aims n has_link ∙ ap (option_map (λ x. key_place net.nodes (key_of lines x))) (goes ∙ e)) ∙ target))
        where
          none : None ≡ Some t → ⊥
          none e = cc
      by (Some a) e = (a, e, key_found lines net.nodes.keys.keys t a net.nodes.narrow (target_stands s lines net target_of n t a are has_link target (goes ∙ e)))

  -- a linked number whose node stands somewhere after the operation has a target
  pub node_target : (n : ℕ) (x a : Node) → is_linked net n ≡ true → node_at net.nodes n ≡ x → node_after s x ≡ Some a
      → (t : ℕ) × (target_of n ≡ Some t) × (found_at after t ≡ Some a)
  node_target n x a has_link is moves =
      let alive : found_at net.nodes n ≡ Some x = linked_alive net n has_link ∙ ap Some is in
      let goes : after_at s net n ≡ Some a = moves_to (node_after s) (found_at net.nodes n) x alive ∙ moves in
      let target : target_of n ≡ Some (key_place net.nodes (key_of lines a)) = are.aims n has_link ∙ ap (option_map (λ y. key_place net.nodes (key_of lines y))) goes in (
        key_place net.nodes (key_of lines a),
        target,
        key_found lines net.nodes.keys.keys (key_place net.nodes (key_of lines a)) a net.nodes.narrow
            (target_stands s lines net target_of n (key_place net.nodes (key_of lines a)) a are has_link target goes),
      )

  module _ (links : Links) (redirected : AreRedirected target_of (needs_of net.links) (needs_of links)) where
    -- both ends of a link have nodes
    pub ends_alive : (a n : ℕ) → plain.has n (needs_of links a) ≡ true → IsAlive after a × IsAlive after n
    ends_alive a n h =
        let (k, m, from, there, to) = (redirected a n).0 h in
        let (x, moves_x, found_x) = target_node k a (needing_linked net k m there) from in
        let (y, moves_y, found_y) = target_node m n (used_linked net k m there) to in
        ((alive_is after a x found_x).1, (alive_is after n y found_y).1)

    -- what has a number and is linked after the operation was moved there, with its link
    came : (a b : Node) → has b (linked after links a) ≡ true → (x : Node) × (y : Node) × IsTrue (has y (links_in net x)) × (node_after s x ≡ Some a) × (node_after s y ≡ Some b)
    came a b h =
        let (u, listed, is) = map_has (node_at after) (needs_of links (place_of after a)) b h in
        let (n, m, from, there, to) = (redirected (place_of after a) u).0 listed in
        let (x, moves_x, found_x) = target_node n (place_of after a) (needing_linked net n m there) from in
        let (y, moves_y, found_y) = target_node m u (used_linked net n m there) to in
        let first : x ≡ a = same_Some x a (sym found_x ∙ found_place after a (are.inside n (place_of after a) (alive_inside net.nodes n (linked_alive net n (needing_linked net n m there))) from)) in
        let second : y ≡ b = sym (alive_is after u y found_y).0 ∙ is in
        let listed_there : has (node_at net.nodes m) (map (node_at net.nodes) (needs_of net.links n)) ≡ true = has_map (node_at net.nodes) (needs_of net.links n) m there in
        let number : place_of net.nodes (node_at net.nodes n) ≡ n = alive_number net.nodes n (linked_alive net n (needing_linked net n m there)) in (
          node_at net.nodes n,
          node_at net.nodes m,
          subst (λ k. has (node_at net.nodes m) (map (node_at net.nodes) (needs_of net.links k)) ≡ true) (sym number) listed_there,
          moves_x ∙ ap Some first,
          moves_y ∙ ap Some second,
        )

    goes : (a b x y : Node) → has y (links_in net x) ≡ true → node_after s x ≡ Some a → node_after s y ≡ Some b → has b (linked after links a) ≡ true
    goes a b x y h moves_x moves_y =
        let (x_in, y_in, there) = link_user net x y h in
        let (t, from, found_t) = node_target (place_of net.nodes x) x a (needing_linked net (place_of net.nodes x) (place_of net.nodes y) there) (at_place net.nodes x x_in) moves_x in
        let (u, to, found_u) = node_target (place_of net.nodes y) y b (used_linked net (place_of net.nodes x) (place_of net.nodes y) there) (at_place net.nodes y y_in) moves_y in
        let listed : plain.has u (needs_of links t) ≡ true = (redirected t u).1 (place_of net.nodes x, place_of net.nodes y, from, there, to) in
        let here : place_of after a ≡ t = place_found after t a found_t in
        let is : node_at after u ≡ b = (alive_is after u b found_u).0 in
        subst (λ k. has b (map (node_at after) (needs_of links k)) ≡ true) (sym here)
        (subst (λ z. has z (map (node_at after) (needs_of links t)) ≡ true) is (has_map (node_at after) (needs_of links t) u listed))

    pub all_shifted : AreShifted s (links_in net) (linked after links)
    all_shifted a b = (came a b, λ link. goes a b link.0 link.1 link.2 link.3 link.4)

    -- the range that a used one becomes is filed
    pub used_filed : (filing : ℕ → Option Serving) → AreAllRefiled s net target_of filing → (a n : ℕ) → plain.has n (needs_of links a) ≡ true → is_range (found_at after n) ≡ true → IsSome (filing n)
    used_filed filing refiled a n h range =
        let (k, m, from, there, to) = (redirected a n).0 h in
        let linked_m : is_linked net m ≡ true = used_linked net k m there in
        let (y, moves_y, found_y) = target_node m n linked_m to in
        refiled m n y (used_by net k m there, to, moves_to (node_after s) (found_at net.nodes m) (node_at net.nodes m) (linked_alive net m linked_m) ∙ moves_y, ap is_range (sym found_y) ∙ range)

-- ---- filings that were put

some_first : (o : Option Serving) → IsSome o → IsSome (option_map (λ all. all.first) o)
some_first (Some all) h = refl
some_first None h = h

module _ (old new : Files) (filing : ℕ → Option Serving) (owners : new.owners ≡ old.owners) (kept : (n : ℕ) → filing_of new.current n ≡ option_map (λ all. all.first) (filing n))
    (serves : (n f : ℕ) → owner_at old.owners f ≡ Some n → serves_at new.serves f ≡ (serves_at old.serves f || is_last (filing n) f)) where
  -- they serve from the first on
  put_serving : (n : ℕ) (all : Serving) → filing n ≡ Some all → AreServing old n all → (f : ℕ) → IsServing old n all f ↔ IsServing new n (since all.first) f
  put_serving n all is are f = (goes, comes)
    where
      now : owner_at old.owners f ≡ Some n → serves_at new.serves f ≡ (serves_at old.serves f || (f == all.last))
      now owner = serves n f owner ∙ ap (λ o. serves_at old.serves f || is_last o f) is

      goes : IsServing old n all f → IsServing new n (since all.first) f
      goes (owner, from, which) = (
        ap (λ v. owner_at v f) owners ∙ owner,
        from,
        inr (now owner ∙ elim which [ inl same ↦ or_right (serves_at old.serves f) (f == all.last) (eq-eqb f all.last same) | inr was ↦ or_left (serves_at old.serves f) (f == all.last) was ]),
      )

      comes : IsServing new n (since all.first) f → IsServing old n all f
      comes (owner, from, which) =
          let owns : owner_at old.owners f ≡ Some n = sym (ap (λ v. owner_at v f) owners) ∙ owner in (
            owns,
            from,
            elim which [
              | inl same ↦ subst (λ g. (g ≡ all.last) ⊎ (serves_at old.serves g ≡ true)) (sym same) are.0.2
              | inr is_now ↦ elim (or_cases (serves_at old.serves f) (f == all.last) (sym (now owns) ∙ is_now)) [ inl was ↦ inr was | inr last ↦ inl (eqb-true f all.last last) ]
            ],
          )

  -- and are those of ranges
  pub filings_after : (lines : PlaceLines) (net : Net) → net.files ≡ old → AreFilingsUnder lines net filing → new.index ≡ old.index → new.wholes ≡ old.wholes → (n f : ℕ) → filing_of new.current n ≡ Some f
      → IsHeld lines net.nodes.keys.keys new n
  filings_after lines net files under index wholes n f e =
      let (all, is, first) = first_of (filing n) f (sym (kept n) ∙ e) in
      let (serving, range) = under n all is in
      let (a, stands, holds) = range in
      let found : found_at (by_lines lines net.nodes) n ≡ Some a = key_found lines net.nodes.keys.keys n a net.nodes.narrow stands in
      let are : AreServing old n all = subst (λ (x : Files). AreServing x n all) files serving in
      let here : HoldsNode lines (FindsBy old n all) a = subst (λ (x : Files). HoldsNode lines (FindsBy x n all) a) files holds in
      let there : HoldsNode lines (FindsBy new n (since all.first)) a
      = holds_as lines (FindsBy old n all) (FindsBy new n (since all.first)) a (λ spot. finds_alike old new n all (since all.first) spot index wholes (put_serving n all is are)) here in
      node_held lines net.nodes.keys.keys new n a found (holds_node new lines n f a e (subst (λ g. HoldsNode lines (FindsBy new n (since g)) a) first there))

  pub still_served : (n : ℕ) → IsSome (filing n) → IsSome (filing_of new.current n)
  still_served n h = subst IsSome (sym (kept n)) (some_first (filing n) h)

-- ---- after the links were the same

pub shifted_after : (s : Shift) (old mid new : needs.Links) → AreSame old mid → AreShifted s mid new → AreShifted s old new
shifted_after s old mid new same shifted a b = (
  λ h. let (x, y, there, moves_x, moves_y) = (shifted a b).0 h in (x, y, subst (λ l. has y l ≡ true) (same x) there, moves_x, moves_y),
  λ link. (shifted a b).1 (link.0, link.1, subst (λ l. has link.1 l ≡ true) (sym (same link.0)) link.2, link.3, link.4),
)

pub shifted_before : (s : Shift) (old mid new : needs.Links) → AreShifted s old mid → AreSame mid new → AreShifted s old new
shifted_before s old mid new shifted same a b = (
  λ h. (shifted a b).0 (subst (λ l. has b l ≡ true) (same a) h),
  λ link. subst (λ l. has b l ≡ true) (sym (same a)) ((shifted a b).1 link),
)

-- a net that grew, and then stayed but for its files
pub same_links : (a b c : Net) → Grows a b → c.nodes ≡ b.nodes → c.links ≡ b.links → AreSame (links_in a) (links_in c)
same_links a b c f nodes links x = ap (λ (t : NodeTable). linked t c.links x) nodes ∙ (ap (λ (l : Links). linked b.nodes l x) links ∙ grown_links a b f x)
