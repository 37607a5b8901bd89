-- Nodes and their numbers, by keys. Serves all that looks nodes up.
use Rattle.std.proofs.Common.{◌≡◌, ◌≢◌, ◌∙◌, sym, ap, refl, subst, arith, ℕ, zero, suc, ◌+◌, ◌<◌, ◌≤◌, inl, inr, ◌⊎◌, Bool, true, false, cond, not, ◌&&◌, List, [], ◌∷◌, ◌++◌, map, length, get_or, nat_lt, Option, Some, None}
use Rattle.std.specs.Prelude.{filter, slice_get, unwrap_or}
use Rattle.std.specs.Bool.{Decides}
use Rattle.std.specs.List.{cons_option, filter_map, position_or_len}
use Rattle.std.specs.Option.{option_and_then, option_map}
use Rattle.std.proofs.lemmas.Bool.{and_from, and_parts, cases_lt, lt-ltb}
use Rattle.std.proofs.lemmas.Bool.Decides.{nat_tests}
use Rattle.std.proofs.lemmas.List.Sums.{passes_at_first, position_or_len_is}
use Rattle.std.proofs.lemmas.Option.{same_Some}
use Rattle.cell_addr.specs.declared.place.Block.{Block}
use Rattle.cell_addr.specs.declared.place.Place.{Place}
use Rattle.shift_core.specs.Carried.{first_place, last_place}
use Rattle.place_lines.specs.Laws.{IsNarrow, IsNarrowBlock}
use Rattle.place_lines.specs.Spots.{area_of, block_at, past, place_at, positions, spot_of}
use Rattle.place_lines.specs.declared.area.LineArea.{LineArea}
use Rattle.place_lines.specs.declared.lines.PlaceLines.{PlaceLines}
use Rattle.place_lines.specs.declared.spot.LineSpot.{LineSpot}
use Rattle.place_lines.proofs.Narrow.{narrow_block, narrow_numbers, narrow_place}
use Rattle.place_lines.proofs.Places.{area_returns, block_returns, one_block, one_place, place_returns, spot_returns}
use Rattle.needs_order.specs.Needs as plain
use Rattle.needs_order.proofs.Lists as lists
use Rattle.dep_graph.specs.declared.ends.Ends.{Ends}
use Rattle.dep_graph.specs.declared.key.Key.{Key}
use Rattle.dep_graph.specs.declared.key.Key.TheVariants as key
use Rattle.dep_graph.specs.declared.node.Node.{Node}
use Rattle.dep_graph.specs.declared.node.Node.TheVariants.{Cell, Name, Range, Whole}
use Rattle.dep_graph.specs.declared.table.NodeTable.{NodeTable}
use Rattle.dep_graph.specs.internal.Keys.{AreNarrow, ends_of, is_narrow, is_narrow_line, key_of, node_of, own_key, same_key, same_keys, whole_at}
use Rattle.dep_graph.specs.internal.Numbers.{IsAlive, count_of, found_at, found_under, key_at, key_place, node_at, place_of}
use Rattle.dep_graph.proofs.Wholes.{ends_return, one_whole, whole_returns}

-- ---- keys of lists

pub other_key : (a b : Key) → (a ≢ b) → same_key a b ≡ false
other_key a b other = by (same_key a b) refl
  where
    by : (t : Bool) → same_key a b ≡ t → same_key a b ≡ false
    by true e = absurd (other (same_keys a b e))
    by false e = e

pub decides_keys : (a b : Key) → Decides (same_key a b) (a ≡ b)
decides_keys a b = (same_keys a b, λ same. subst (λ c. same_key a c ≡ true) same (own_key a))

-- what is got is at the place
pub got : (keys : List Key) (n : ℕ) (k d : Key) → slice_get keys n ≡ Some k → (n < length keys) × (get_or keys n d ≡ k)
got [] n k d e = absurd (none e)
  where
    none : None ≡ Some k → ⊥
    none e = cc
got (x ∷ keys) zero k d e = (omega arith, same_Some x k e)
got (x ∷ keys) (suc n) k d e = let (low, is) = got keys n k d e in (omega (arith, low), is)

pub gets : (keys : List Key) (n : ℕ) (d : Key) → n < length keys → slice_get keys n ≡ Some (get_or keys n d)
gets [] n d low = absurd (omega (arith, low))
gets (x ∷ keys) zero d low = refl
gets (x ∷ keys) (suc n) d low = gets keys n d (omega (arith, low))

pub gets_none : (keys : List Key) (n : ℕ) → length keys ≤ n → slice_get keys n ≡ None
gets_none [] n past = refl
gets_none (x ∷ keys) zero past = absurd (omega (arith, past))
gets_none (x ∷ keys) (suc n) past = gets_none keys n (omega (arith, past))

-- more keys behind
pub gets-more : (keys more : List Key) (n : ℕ) → n < length keys → slice_get (keys ++ more) n ≡ slice_get keys n
gets-more [] more n low = absurd (omega (arith, low))
gets-more (x ∷ keys) more zero low = refl
gets-more (x ∷ keys) more (suc n) low = gets-more keys more n (omega (arith, low))

-- ---- the number of a key

pub key_stands : (t : NodeTable) (k : Key) → key_place t k < count_of t → slice_get t.keys.keys (key_place t k) ≡ Some k
key_stands t k inside =
    gets t.keys.keys (key_place t k) k inside
    ∙ ap Some (sym (same_keys k (get_or t.keys.keys (key_place t k) k) (passes_at_first (same_key k) t.keys.keys k inside)))

pub key_number : (t : NodeTable) (k : Key) (n : ℕ) → slice_get t.keys.keys n ≡ Some k → key_place t k ≡ n
key_number t k n e =
    let (low, is) = got t.keys.keys n k k e in
    position_or_len_is (same_key k) t.keys.keys n k (omega (arith, low))
    (λ j before. other_key k (get_or t.keys.keys j k) (λ same. t.once j n k before low (sym same ∙ sym is)))
    (λ _. subst (λ c. same_key k c ≡ true) (sym is) (own_key k))

pub key_inside : (t : NodeTable) (k : Key) (n : ℕ) → slice_get t.keys.keys n ≡ Some k → key_place t k < count_of t
key_inside t k n e = subst (λ m. m < count_of t) (sym (key_number t k n e)) (got t.keys.keys n k k e).0

-- ---- nodes under keys

low_line : (number : ℕ) → is_narrow_line number ≡ true → number < past positions
low_line number h = grind (arith, nat_tests)

narrow_line : (number : ℕ) → number < past positions → is_narrow_line number ≡ true
narrow_line number lt = lt-ltb number (past positions) lt

-- the keys of narrow places and blocks are narrow
pub narrow_spot : (lines : PlaceLines) (p : Place) → IsNarrow p → (is_narrow_line (spot_of lines p).row && is_narrow_line (spot_of lines p).col) ≡ true
narrow_spot lines p narrow =
    let (row, col) = narrow_numbers lines p narrow in
    and_from _ _ (narrow_line (spot_of lines p).row row) (narrow_line (spot_of lines p).col col)

pub narrow_area : (lines : PlaceLines) (b : Block) → IsNarrowBlock b → is_narrow (key.Range (area_of lines b)) ≡ true
narrow_area lines b (first, last) = and_from _ _ (narrow_spot lines (first_place b) first) (narrow_spot lines (last_place b) last)

-- a node whose key is narrow is found under it
pub node_returns : (lines : PlaceLines) (a : Node) → is_narrow (key_of lines a) ≡ true → node_of lines (key_of lines a) ≡ Some a
node_returns lines (Cell p) h =
    let (row, col) = and_parts (is_narrow_line (spot_of lines p).row) (is_narrow_line (spot_of lines p).col) h in
    ap (option_map Cell) (place_returns lines p (narrow_place lines p (low_line (spot_of lines p).row row) (low_line (spot_of lines p).col col)))
node_returns lines (Name scope word) h = refl
node_returns lines (Range b) h =
    let (first, last) = and_parts (is_narrow_line (area_of lines b).top && is_narrow_line (area_of lines b).left) _ h in
    let (top, left) = and_parts (is_narrow_line (area_of lines b).top) (is_narrow_line (area_of lines b).left) first in
    let (bottom, right) = and_parts (is_narrow_line (area_of lines b).bottom) (is_narrow_line (area_of lines b).right) last in
    ap (option_map Range) (block_returns lines b (narrow_block lines b (low_line (area_of lines b).top top) (low_line (area_of lines b).left left)
    (low_line (area_of lines b).bottom bottom) (low_line (area_of lines b).right right)))
node_returns lines (Whole w) h =
    let (first, last) = and_parts (is_narrow_line (ends_of lines w).first) (is_narrow_line (ends_of lines w).last) h in
    ap (option_map Whole) (whole_returns lines w first last)

pub mapped : {A : Type 0} (f : A → Node) (o : Option A) (a : Node) → option_map f o ≡ Some a → (x : A) × (o ≡ Some x) × (a ≡ f x)
mapped f None a e = absurd (none e)
  where
    none : None ≡ Some a → ⊥
    none e = cc
mapped f (Some x) a e = (x, refl, sym (same_Some (f x) a e))

-- what is found under a key has that key
pub key_returns : (lines : PlaceLines) (k : Key) (a : Node) → node_of lines k ≡ Some a → key_of lines a ≡ k
key_returns lines (key.Cell spot) a e =
    let (p, at, is) = mapped Cell (place_at lines spot) a e in
    ap (key_of lines) is ∙ ap key.Cell (spot_returns lines spot p at)
key_returns lines (key.Name scope word) a e = ap (key_of lines) (sym (same_Some (Name scope word) a e))
key_returns lines (key.Range area) a e =
    let (b, at, is) = mapped Range (block_at lines area) a e in
    ap (key_of lines) is ∙ ap key.Range (area_returns lines area b at)
key_returns lines (key.Whole ends) a e =
    let (w, at, is) = mapped Whole (whole_at lines ends) a e in
    ap (key_of lines) is ∙ ap key.Whole (ends_return lines ends w at)

cell_whole : (s : LineSpot) (e : Ends) → key.Cell s ≡ key.Whole e → ⊥
cell_whole s e h = cc

name_whole : (scope word : ℕ) (e : Ends) → key.Name scope word ≡ key.Whole e → ⊥
name_whole scope word e h = cc

range_whole : (a : LineArea) (e : Ends) → key.Range a ≡ key.Whole e → ⊥
range_whole a e h = cc

same_ends : (d e : Ends) → key.Whole d ≡ key.Whole e → d ≡ e
same_ends d e h = cc

-- no two nodes have one key
pub one_node : (lines : PlaceLines) (a b : Node) → key_of lines a ≡ key_of lines b → a ≡ b
one_node lines (Cell p) (Cell q) e = ap Cell (one_place lines p q (same_cell (spot_of lines p) (spot_of lines q) e))
  where
    same_cell : (s t : LineSpot) → key.Cell s ≡ key.Cell t → s ≡ t
    same_cell s t e = cc
one_node lines (Cell p) (Name scope word) e = absurd (apart e)
  where
    apart : key.Cell (spot_of lines p) ≡ key.Name scope word → ⊥
    apart e = cc
one_node lines (Cell p) (Range b) e = absurd (apart e)
  where
    apart : key.Cell (spot_of lines p) ≡ key.Range (area_of lines b) → ⊥
    apart e = cc
one_node lines (Cell p) (Whole w) e = absurd (cell_whole (spot_of lines p) (ends_of lines w) e)
one_node lines (Name scope word) (Cell q) e = absurd (apart e)
  where
    apart : key.Name scope word ≡ key.Cell (spot_of lines q) → ⊥
    apart e = cc
one_node lines (Name scope word) (Name other_scope other_word) e =
    let first : scope ≡ other_scope = cc in
    let second : word ≡ other_word = cc in
    λ i. Name (first i) (second i)
one_node lines (Name scope word) (Range b) e = absurd (apart e)
  where
    apart : key.Name scope word ≡ key.Range (area_of lines b) → ⊥
    apart e = cc
one_node lines (Name scope word) (Whole w) e = absurd (name_whole scope word (ends_of lines w) e)
one_node lines (Range b) (Cell q) e = absurd (apart e)
  where
    apart : key.Range (area_of lines b) ≡ key.Cell (spot_of lines q) → ⊥
    apart e = cc
one_node lines (Range b) (Name scope word) e = absurd (apart e)
  where
    apart : key.Range (area_of lines b) ≡ key.Name scope word → ⊥
    apart e = cc
one_node lines (Range b) (Range c) e = ap Range (one_block lines b c (same_range (area_of lines b) (area_of lines c) e))
  where
    same_range : (a d : LineArea) → key.Range a ≡ key.Range d → a ≡ d
    same_range a d e = cc
one_node lines (Range b) (Whole w) e = absurd (range_whole (area_of lines b) (ends_of lines w) e)
one_node lines (Whole w) (Cell p) e = absurd (cell_whole (spot_of lines p) (ends_of lines w) (sym e))
one_node lines (Whole w) (Name scope word) e = absurd (name_whole scope word (ends_of lines w) (sym e))
one_node lines (Whole w) (Range b) e = absurd (range_whole (area_of lines b) (ends_of lines w) (sym e))
one_node lines (Whole v) (Whole w) e = ap Whole (one_whole lines v w (same_ends (ends_of lines v) (ends_of lines w) e))

-- ---- nodes under numbers

found_by : (lines : PlaceLines) (o : Option Key) (a : Node) → option_and_then (node_of lines) o ≡ Some a → (k : Key) × (o ≡ Some k) × (node_of lines k ≡ Some a)
found_by lines None a e = absurd (none e)
  where
    none : None ≡ Some a → ⊥
    none e = cc
found_by lines (Some k) a e = (k, refl, e)

-- the key of a number that has a node
pub found_key : (lines : PlaceLines) (keys : List Key) (n : ℕ) (a : Node) → found_under lines keys n ≡ Some a → slice_get keys n ≡ Some (key_of lines a)
found_key lines keys n a e = let (k, at, is) = found_by lines (slice_get keys n) a e in at ∙ ap Some (sym (key_returns lines k a is))

-- what stands under the key of a node is that node
pub key_found : (lines : PlaceLines) (keys : List Key) (n : ℕ) (a : Node) → AreNarrow keys → slice_get keys n ≡ Some (key_of lines a) → found_under lines keys n ≡ Some a
key_found lines keys n a narrow e = ap (option_and_then (node_of lines)) e ∙ node_returns lines a (narrow n (key_of lines a) e)

pub alive_is : (t : NodeTable) (n : ℕ) (a : Node) → found_at t n ≡ Some a → (node_at t n ≡ a) × IsAlive t n
alive_is t n a e = let is : node_at t n ≡ a = by (found_at t n) e in (is, e ∙ ap Some (sym is))
  where
    by : (o : Option Node) → o ≡ Some a → unwrap_or o (Name 0 0) ≡ a
    by None e = absurd (none e)
      where
        none : None ≡ Some a → ⊥
        none e = cc
    by (Some x) e = same_Some x a e

pub alive_inside : (t : NodeTable) (n : ℕ) → IsAlive t n → n < count_of t
alive_inside t n alive = (got t.keys.keys n (key_of t.lines (node_at t n)) (key_of t.lines (node_at t n)) (found_key t.lines t.keys.keys n (node_at t n) alive)).0

-- a node that has a number is found there
pub found_place : (t : NodeTable) (a : Node) → place_of t a < count_of t → found_at t (place_of t a) ≡ Some a
found_place t a inside = key_found t.lines t.keys.keys (place_of t a) a t.narrow (key_stands t (key_of t.lines a) inside)

pub at_place : (t : NodeTable) (a : Node) → place_of t a < count_of t → node_at t (place_of t a) ≡ a
at_place t a inside = (alive_is t (place_of t a) a (found_place t a inside)).0

pub alive_place : (t : NodeTable) (a : Node) → place_of t a < count_of t → IsAlive t (place_of t a)
alive_place t a inside = (alive_is t (place_of t a) a (found_place t a inside)).1

-- and the number of what is found is that number
pub place_found : (t : NodeTable) (n : ℕ) (a : Node) → found_at t n ≡ Some a → place_of t a ≡ n
place_found t n a e = key_number t (key_of t.lines a) n (found_key t.lines t.keys.keys n a e)

pub alive_number : (t : NodeTable) (n : ℕ) → IsAlive t n → place_of t (node_at t n) ≡ n
alive_number t n alive = place_found t n (node_at t n) alive

pub place_is : (t : NodeTable) (a : Node) (n : ℕ) → IsAlive t n → node_at t n ≡ a → place_of t a ≡ n
place_is t a n alive is = subst (λ x. place_of t x ≡ n) is (alive_number t n alive)

pub key_is : (t : NodeTable) (n : ℕ) → IsAlive t n → key_at t n ≡ key_of t.lines (node_at t n)
key_is t n alive = (got t.keys.keys n (key_of t.lines (node_at t n)) (key.Name 0 0) (found_key t.lines t.keys.keys n (node_at t n) alive)).1

pub found_past : (t : NodeTable) (n : ℕ) → count_of t ≤ n → found_at t n ≡ None
found_past t n past = ap (option_and_then (node_of t.lines)) (gets_none t.keys.keys n past)

-- ---- numbers where keys were added behind

pub place-more : (keys more : List Key) (k : Key) → position_or_len (same_key k) keys < length keys → position_or_len (same_key k) (keys ++ more) ≡ position_or_len (same_key k) keys
place-more [] more a inside = absurd (omega (arith, inside))
place-more (k ∷ keys) more a inside = by (same_key a k) (λ low. place-more keys more a low) inside
  where
    by : (t : Bool) → (position_or_len (same_key a) keys < length keys → position_or_len (same_key a) (keys ++ more) ≡ position_or_len (same_key a) keys)
        → cond (not t) (1 + position_or_len (same_key a) keys) 0 < suc (length keys)
        → cond (not t) (1 + position_or_len (same_key a) (keys ++ more)) 0 ≡ cond (not t) (1 + position_or_len (same_key a) keys) 0
    by true rest low = refl
    by false rest low = ap (λ n. 1 + n) (rest (omega (arith, low)))

pub place-behind : (keys more : List Key) (k : Key) → length keys ≤ position_or_len (same_key k) keys → length keys ≤ position_or_len (same_key k) (keys ++ more)
place-behind [] more a past = omega arith
place-behind (k ∷ keys) more a past = by (same_key a k) (λ low. place-behind keys more a low) past
  where
    by : (t : Bool) → (length keys ≤ position_or_len (same_key a) keys → length keys ≤ position_or_len (same_key a) (keys ++ more)) → suc (length keys) ≤ cond (not t) (1 + position_or_len (same_key a) keys) 0
        → suc (length keys) ≤ cond (not t) (1 + position_or_len (same_key a) (keys ++ more)) 0
    by true rest low = absurd (omega (arith, low))
    by false rest low = let later : length keys ≤ position_or_len (same_key a) (keys ++ more) = rest (omega (arith, low)) in omega (arith, later)

pub place_within : (keys : List Key) (k : Key) → position_or_len (same_key k) keys ≤ length keys
place_within [] a = omega arith
place_within (k ∷ keys) a = by (same_key a k) (place_within keys a)
  where
    by : (t : Bool) → position_or_len (same_key a) keys ≤ length keys → cond (not t) (1 + position_or_len (same_key a) keys) 0 ≤ suc (length keys)
    by true rest = omega arith
    by false rest = omega (arith, rest)

-- ---- the nodes of numbers that all have one

pub found_all : (t : NodeTable) (ns : List ℕ) → ((n : ℕ) → plain.has n ns ≡ true → IsAlive t n) → filter_map (found_at t) ns ≡ map (node_at t) ns
found_all t [] alive = refl
found_all t (n ∷ ns) alive =
    ap (λ o. cons_option o (filter_map (found_at t) ns)) (alive n (lists.has_first n ns))
    ∙ ap (λ l. node_at t n ∷ l) (found_all t ns (λ m h. alive m (lists.has-append_right m (n ∷ []) ns h)))

-- the numbers past the last have none
pub found_low : (t : NodeTable) (ns : List ℕ) → ((n : ℕ) → plain.has n ns ≡ true → n < count_of t → IsAlive t n)
    → filter_map (found_at t) ns ≡ map (node_at t) (filter (λ v. nat_lt v (count_of t)) ns)
found_low t [] alive = refl
found_low t (n ∷ ns) alive = by (found_low t ns (λ m h. alive m (lists.has-append_right m (n ∷ []) ns h))) (cases_lt n (count_of t))
  where
    lt_true : (v n : ℕ) → v < n → nat_lt v n ≡ true
    lt_true v n h = grind (arith, nat_tests)

    ge_false : (v n : ℕ) → n ≤ v → nat_lt v n ≡ false
    ge_false v n h = grind (arith, nat_tests)

    by : filter_map (found_at t) ns ≡ map (node_at t) (filter (λ v. nat_lt v (count_of t)) ns) → (n < count_of t) ⊎ (count_of t ≤ n)
        → cons_option (found_at t n) (filter_map (found_at t) ns) ≡ map (node_at t) (cond (nat_lt n (count_of t)) (n ∷ filter (λ v. nat_lt v (count_of t)) ns) (filter (λ v. nat_lt v (count_of t)) ns))
    by rest (inl low) =
        ap (λ o. cons_option o (filter_map (found_at t) ns)) (alive n (lists.has_first n ns) low)
        ∙ (ap (λ l. node_at t n ∷ l) rest ∙ sym (ap (λ c. map (node_at t) (cond c (n ∷ filter (λ v. nat_lt v (count_of t)) ns) (filter (λ v. nat_lt v (count_of t)) ns))) (lt_true n (count_of t) low)))
    by rest (inr past) =
        ap (λ o. cons_option o (filter_map (found_at t) ns)) (found_past t n past)
        ∙ (rest ∙ sym (ap (λ c. map (node_at t) (cond c (n ∷ filter (λ v. nat_lt v (count_of t)) ns) (filter (λ v. nat_lt v (count_of t)) ns))) (ge_false n (count_of t) past)))
