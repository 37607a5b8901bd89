-- Nets that get more nodes, and the links of their nodes. Serves linking.
use Rattle.std.proofs.Common.{◌≡◌, ◌≢◌, ◌∙◌, sym, ap, refl, subst, arith, ℕ, zero, suc, ◌<◌, ◌≤◌, ⊎_elim, true, cond, List, [], ◌∷◌, ◌++◌, map, length, get_or, eqb, append_assoc, Option, Some, None}
use Rattle.std.specs.Prelude.{slice_get, unwrap_or}
use Rattle.std.specs.List.{IsDistinct, position_or_len}
use Rattle.std.specs.Option.{option_and_then}
use Rattle.std.specs.declared.alloc.Global.{Global}
use Rattle.std.specs.declared.vec.Vec.{Vec}
use Rattle.std.proofs.lemmas.Bool.{cases_lt, eq-eqb, ne_eqb}
use Rattle.std.proofs.lemmas.List.{append-nil, get_or_past, length-append, length-map}
use Rattle.std.proofs.lemmas.Map.Made.{AllPairs-from_IsDistinct}
use Rattle.needs_order.specs.Needs as plain
use Rattle.needs_order.proofs.Lists as lists
use Rattle.node_links.specs.Nodes.{needs_of, node_count}
use Rattle.node_links.specs.declared.links.Links.{Links}
use Rattle.place_lines.specs.declared.lines.PlaceLines.{PlaceLines}
use Rattle.dep_graph.specs.Graph.{AreLinked, AreSame}
use Rattle.dep_graph.specs.Nodes.{same_node}
use Rattle.dep_graph.specs.declared.files.Files.{Files}
use Rattle.dep_graph.specs.declared.key.Key.{Key}
use Rattle.dep_graph.specs.declared.net.Net.{Net}
use Rattle.dep_graph.specs.declared.node.Node.{Node}
use Rattle.dep_graph.specs.declared.node.Node.TheVariants.{Name}
use Rattle.dep_graph.specs.declared.table.NodeTable.{NodeTable}
use Rattle.dep_graph.specs.internal.Filings.{filing_of}
use Rattle.dep_graph.specs.internal.Hashed.{own_node}
use Rattle.dep_graph.specs.internal.Keys.{AreKeysOnce, key_of, node_of, same_key}
use Rattle.dep_graph.specs.internal.Nets.{Grows, links_in}
use Rattle.dep_graph.specs.internal.Numbers.{IsAlive, IsFiled, count_of, found_at, found_under, key_place, linked, node_at, place_of}
use Rattle.dep_graph.proofs.Numbers.{alive_inside, at_place, decides_keys, gets-more, place-behind, place-more}
use Rattle.dep_graph.proofs.Places.{cases_node, other_node}

-- ---- numbers that stay

-- what a longer list has at the first places
abbrev pub AreMore : NodeTable → NodeTable → Type 0
AreMore t u = (more : List Key) × (u.keys.keys ≡ t.keys.keys ++ more)

pub no_more : (t u : NodeTable) → u.keys.keys ≡ t.keys.keys → AreMore t u
no_more t u same = ([], same ∙ sym (append-nil t.keys.keys))

pub more_keys : (t u : NodeTable) → AreMore t u → count_of t ≤ count_of u
more_keys t u (more, is) = omega (arith, ap length is, length-append t.keys.keys more)

pub more_place : (t u : NodeTable) (k : Key) → AreMore t u → key_place t k < count_of t → key_place u k ≡ key_place t k
more_place t u k (more, is) inside = ap (λ ks. position_or_len (same_key k) ks) is ∙ place-more t.keys.keys more k inside

-- what is found at the first places of a longer list
pub found_more : (lines : PlaceLines) (keys longer more : List Key) (n : ℕ) → longer ≡ keys ++ more → n < length keys → found_under lines longer n ≡ found_under lines keys n
found_more lines keys longer more n is low = ap (option_and_then (node_of lines)) (ap (λ ks. slice_get ks n) is ∙ gets-more keys more n low)

pub more_found : (t u : NodeTable) (n : ℕ) → AreMore t u → u.lines ≡ t.lines → n < count_of t → found_at u n ≡ found_at t n
more_found t u n (more, is) lines low =
    ap (λ l. option_and_then (node_of l) (slice_get u.keys.keys n)) lines
    ∙ ap (option_and_then (node_of t.lines)) (ap (λ ks. slice_get ks n) is ∙ gets-more t.keys.keys more n low)

pub more_alive : (t u : NodeTable) (n : ℕ) → AreMore t u → u.lines ≡ t.lines → IsAlive t n → IsAlive u n
more_alive t u n more lines alive =
    let same : found_at u n ≡ found_at t n = more_found t u n more lines (alive_inside t n alive) in
    same ∙ (alive ∙ ap (λ o. Some (unwrap_or o (Name 0 0))) (sym same))

-- ---- links of numbers

-- the needs of a number past the last are none
pub no_needs : (links : Links) (n : ℕ) → node_count links ≤ n → needs_of links n ≡ []
no_needs links n past = get_or_past (map (λ list. list.items) links.needs.items) n [] (omega (arith, past, length-map links.needs.items (λ list. list.items)))

-- a node without a number is linked to none
pub unknown_links : (net : Net) (a : Node) → count_of net.nodes ≤ place_of net.nodes a → links_in net a ≡ []
unknown_links net a past = ap (map (node_at net.nodes)) (no_needs net.links (place_of net.nodes a) (subst (λ n. n ≤ place_of net.nodes a) (sym net.counts) past))

pub known_inside : (net : Net) (a n : ℕ) → plain.has n (needs_of net.links a) ≡ true → n < count_of net.nodes
known_inside net a n h = alive_inside net.nodes n (net.alive a n h).1

-- nodes that stay through numbers of which each is inside
map_stays : (t u : NodeTable) (ns : List ℕ) → AreMore t u → u.lines ≡ t.lines → ((n : ℕ) → plain.has n ns ≡ true → n < count_of t) → map (node_at u) ns ≡ map (node_at t) ns
map_stays t u [] more lines inside = refl
map_stays t u (n ∷ ns) more lines inside =
    let first : node_at u n ≡ node_at t n = ap (λ o. unwrap_or o (Name 0 0)) (more_found t u n more lines (inside n (lists.has_first n ns))) in
    let rest : map (node_at u) ns ≡ map (node_at t) ns = map_stays t u ns more lines (λ k h. inside k (lists.has-append_right k (n ∷ []) ns h)) in
    ap (λ x. x ∷ map (node_at u) ns) first ∙ ap (λ xs. node_at t n ∷ xs) rest

-- ---- nets that grow

pub grows_on : (a b c : Net) → Grows a b → Grows b c → Grows a c
grows_on a b c f g =
    let (first, e) = f.keys in
    let (second, d) = g.keys in
    record {
      keys = (first ++ second, d ∙ (ap (λ ks. ks ++ second) e ∙ append_assoc a.nodes.keys.keys first second));
      lines = g.lines ∙ f.lines;
      needs = λ n. g.needs n ∙ f.needs n;
      filed = λ n inside h. g.filed n (omega (arith, inside, more_keys a.nodes b.nodes f.keys)) (f.filed n inside h);
    }

pub grown_length : (a b : Net) → Grows a b → count_of a.nodes ≤ count_of b.nodes
grown_length a b f = more_keys a.nodes b.nodes f.keys

pub grown_place : (a b : Net) (x : Node) (n : ℕ) → Grows a b → n ≡ place_of a.nodes x → n < count_of a.nodes → n ≡ place_of b.nodes x
grown_place a b x n f is inside =
    is ∙ (sym (more_place a.nodes b.nodes (key_of a.nodes.lines x) f.keys (subst (λ k. k < count_of a.nodes) is inside))
    ∙ ap (λ l. key_place b.nodes (key_of l x)) (sym f.lines))

pub grown_map : (a b : Net) (ns : List ℕ) → Grows a b → ((n : ℕ) → plain.has n ns ≡ true → n < count_of a.nodes) → map (node_at b.nodes) ns ≡ map (node_at a.nodes) ns
grown_map a b ns f inside = map_stays a.nodes b.nodes ns f.keys f.lines inside

pub grown_alive : (a b : Net) (n : ℕ) → Grows a b → IsAlive a.nodes n → IsAlive b.nodes n
grown_alive a b n f alive = more_alive a.nodes b.nodes n f.keys f.lines alive

-- all links stay
pub grown_links : (a b : Net) → Grows a b → AreSame (links_in a) (links_in b)
grown_links a b f x = ⊎_elim
    (λ (inside : place_of a.nodes x < count_of a.nodes).
    let here : place_of b.nodes x ≡ place_of a.nodes x = sym (grown_place a b x (place_of a.nodes x) f refl inside) in
    ap (λ n. map (node_at b.nodes) (needs_of b.links n)) here
    ∙ (ap (map (node_at b.nodes)) (f.needs (place_of a.nodes x))
    ∙ grown_map a b (needs_of a.links (place_of a.nodes x)) f (λ n h. known_inside a (place_of a.nodes x) n h)))
    (λ (past : count_of a.nodes ≤ place_of a.nodes x).
    let (more, e) = f.keys in
    let behind : count_of a.nodes ≤ place_of b.nodes x
    = subst (λ l. count_of a.nodes ≤ key_place b.nodes (key_of l x)) (sym f.lines) (subst (λ ks. count_of a.nodes ≤ position_or_len (same_key (key_of a.nodes.lines x)) ks) (sym e) (place-behind a.nodes.keys.keys more (key_of a.nodes.lines x) past)) in
    ap (map (node_at b.nodes)) (f.needs (place_of b.nodes x) ∙ no_needs a.links (place_of b.nodes x) (subst (λ n. n ≤ place_of b.nodes x) (sym a.counts) behind))
    ∙ sym (unknown_links a x past))
    (cases_lt (place_of a.nodes x) (count_of a.nodes))

pub same_grows : (a : Net) → Grows a a
same_grows a = record { keys = ([], sym (append-nil a.nodes.keys.keys)); lines = refl; needs = λ n. refl; filed = λ n inside h. h }

-- a net that stays but for what operations find nodes by
pub same_grown : (a b : Net) → b.nodes ≡ a.nodes → b.links ≡ a.links → b.files ≡ a.files → Grows a b
same_grown a b nodes links files = record {
  keys = no_more a.nodes b.nodes (ap (λ (t : NodeTable). t.keys.keys) nodes);
  lines = ap (λ (t : NodeTable). t.lines) nodes;
  needs = λ n. ap (λ (l : Links). needs_of l n) links;
  filed = λ n low filed. subst (λ (t : NodeTable). IsFiled t b.files n) (sym nodes) (subst (λ (f : Files). IsFiled a.nodes f n) (sym files) filed);
}

-- ---- one key more

pub once_more : (keys : List Key) → IsDistinct same_key keys → AreKeysOnce keys
once_more keys distinct = AllPairs-from_IsDistinct decides_keys keys distinct

-- the filing of a node where others got room behind
pub filing-more : (old new : Vec (Option ℕ) Global) (n : ℕ) → new.items ≡ old.items ++ None ∷ [] → filing_of new n ≡ filing_of old n
filing-more old new n is = ap (λ l. get_or l n None) is ∙ by old.items n
  where
    by : (l : List (Option ℕ)) (n : ℕ) → get_or (l ++ None ∷ []) n None ≡ get_or l n None
    by [] zero = refl
    by [] (suc n) = refl
    by (x ∷ l) zero = refl
    by (x ∷ l) (suc n) = by l n

-- ---- links replaced

pub relinked_at : (old : Net) (links : Links) (a : Node) (node : ℕ) (needs : List ℕ) → node < count_of old.nodes → node ≡ place_of old.nodes a
    → ((n : ℕ) → needs_of links n ≡ cond (eqb n node) needs (needs_of old.links n)) → (x : Node) → linked old.nodes links x ≡ cond (same_node x a) (map (node_at old.nodes) needs) (links_in old x)
relinked_at old links a node needs inside is changed x = ap (map (node_at old.nodes)) (changed (place_of old.nodes x)) ∙ ⊎_elim
    (λ (same : x ≡ a).
    let here : place_of old.nodes x ≡ node = ap (place_of old.nodes) same ∙ sym is in
    ap (λ t. map (node_at old.nodes) (cond t needs (needs_of old.links (place_of old.nodes x)))) (eq-eqb (place_of old.nodes x) node here)
    ∙ ap (λ t. cond t (map (node_at old.nodes) needs) (links_in old x)) (sym (subst (λ y. same_node x y ≡ true) same (own_node x))))
    (λ (other : x ≢ a).
    let apart : place_of old.nodes x ≢ node = λ (at : place_of old.nodes x ≡ node).
    other (sym (at_place old.nodes x (subst (λ n. n < count_of old.nodes) (sym at) inside)) ∙ (ap (node_at old.nodes) (at ∙ is) ∙ at_place old.nodes a (subst (λ n. n < count_of old.nodes) is inside))) in
    ap (λ t. map (node_at old.nodes) (cond t needs (needs_of old.links (place_of old.nodes x)))) (ne_eqb (place_of old.nodes x) node apart)
    ∙ ap (λ t. cond t (map (node_at old.nodes) needs) (links_in old x)) (sym (other_node x a other)))
    (cases_node x a)

pub relinked : (old new : Net) (a : Node) (node : ℕ) (needs : List ℕ) → new.nodes ≡ old.nodes → node < count_of old.nodes → node ≡ place_of old.nodes a
    → ((n : ℕ) → needs_of new.links n ≡ cond (eqb n node) needs (needs_of old.links n)) → AreLinked a (map (node_at old.nodes) needs) (links_in old) (links_in new)
relinked old new a node needs nodes inside is changed x = ap (λ t. linked t new.links x) nodes ∙ relinked_at old new.links a node needs inside is changed x

-- where the links stay
pub unlinked_links : (old new : Net) → new.nodes ≡ old.nodes → ((n : ℕ) → needs_of new.links n ≡ needs_of old.links n) → AreSame (links_in old) (links_in new)
unlinked_links old new nodes links x = ap (λ t. linked t new.links x) nodes ∙ ap (map (node_at old.nodes)) (links (place_of old.nodes x))

-- after others were the same
pub linked_after : (old mid new : Net) (a : Node) (needs nodes : List Node) → AreSame (links_in old) (links_in mid) → needs ≡ nodes → AreLinked a needs (links_in mid) (links_in new) → AreLinked a nodes (links_in old) (links_in new)
linked_after old mid new a needs nodes same is linked x = linked x ∙ (ap (λ l. cond (same_node x a) l (links_in mid x)) is ∙ ap (λ l. cond (same_node x a) nodes l) (same x))

pub same_after : (old mid new : Net) → AreSame (links_in old) (links_in mid) → AreSame (links_in mid) (links_in new) → AreSame (links_in old) (links_in new)
same_after old mid new f g x = g x ∙ f x
