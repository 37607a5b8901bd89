-- Nodes that an operation doesn't touch stay as they are kept, and all others are found. Serves the shift of the graph and
-- the bent nodes.
use Rattle.std.proofs.Common.{◌≡◌, ◌∙◌, sym, ap, refl, subst, arith, ℕ, ◌≢◌, ◌+◌, ◌<◌, ◌≤◌, inl, inr, ◌⊎◌, true, false, List, [], ◌∷◌, length, get_or, take, Option, Some, None}
use Rattle.std.specs.Bool.{⊤}
use Rattle.std.specs.List.{AllPairs}
use Rattle.std.specs.Prelude.{slice_get}
use Rattle.std.specs.Option.{option_and_then, option_map}
use Rattle.std.proofs.lemmas.Bool.{and_from, and_parts, cases_lt, false≢true}
use Rattle.std.proofs.lemmas.List.{get_or-take, get_or_default, length-take-le, take_more}
use Rattle.std.proofs.lemmas.Option.{same_Some}
use Rattle.cell_addr.specs.Place.{IsBlockInside, IsInside}
use Rattle.cell_addr.specs.declared.axis.Axis.TheVariants.{Cols, Rows}
use Rattle.cell_addr.specs.declared.place.Block.{Block}
use Rattle.cell_addr.specs.declared.place.Place.{Place}
use Rattle.cell_addr.specs.declared.whole.Whole as whole
use Rattle.needs_order.specs.Needs.{has}
use Rattle.needs_order.proofs.Lists.{at_has, has-append_cases, has-append_left, has-append_right, has_cases, has_first, has_or_not}
use Rattle.place_lines.specs.Moved.{AreMoved, IsKnown, is_known}
use Rattle.place_lines.specs.Spots.{area_of, block_at, first_spot, last_spot, number_of, place_at, spot_of, table_along}
use Rattle.place_lines.specs.declared.area.LineArea.{LineArea}
use Rattle.place_lines.specs.declared.lines.PlaceLines.{PlaceLines}
use Rattle.place_lines.proofs.Known.{spot_known, spot_was_there, stays_known}
use Rattle.place_lines.proofs.Places.{same_area}
use Rattle.shift_core.specs.Carried.{first_place, last_place}
use Rattle.shift_core.specs.Form.{form_of}
use Rattle.shift_core.specs.Sound.{IsSound}
use Rattle.shift_core.specs.declared.shift.Shift.{Shift}
use Rattle.shift_core.proofs.BlockLaws.{block_moved_inside}
use Rattle.shift_core.proofs.PlaceLaws.{place_moved_inside}
use Rattle.touch_index.specs.Handed.{IsHandedOn}
use Rattle.touch_index.specs.Kept.{FindsBlocks, FindsCells, Grows, KeepsBlock, KeepsCell, keeps_cell}
use Rattle.touch_index.specs.declared.index.TouchIndex.{TouchIndex}
use Rattle.touch_index.proofs.Staying.{block_is_somewhere, block_kept, cell_is_somewhere}
use Rattle.dep_graph.specs.Bent.{Bends}
use Rattle.dep_graph.specs.Shifted.{node_after}
use Rattle.dep_graph.specs.declared.key.Key.{Key}
use Rattle.dep_graph.specs.declared.key.Key.TheVariants as key
use Rattle.dep_graph.specs.declared.node.Node.{Node}
use Rattle.dep_graph.specs.declared.node.Node.TheVariants.{Cell, Name, Range, Whole}
use Rattle.dep_graph.specs.declared.table.NodeTable.{NodeTable}
use Rattle.dep_graph.specs.declared.touches.Touches.{Touches}
use Rattle.dep_graph.specs.internal.Keys.{is_narrow, key_of, node_of}
use Rattle.dep_graph.specs.internal.Numbers.{count_of, found_at, found_under, key_at}
use Rattle.dep_graph.specs.internal.Touches.{AddsBetween, AddsKnown, AreIndexed, AreInside, AreKept, FindsTouched, IsHandedAt, IsIndexed, IsKept, IsMore, IsUntouched, KeepsNode, is_known_key}
use Rattle.dep_graph.proofs.Filed.{known_passes, passes_known}
use Rattle.dep_graph.proofs.Numbers.{found_key, gets, got, key_returns, mapped, node_returns, one_node}

-- ---- the first numbers of a list

-- a number of the first ones is among those before the last of them, or that
pub taken_cases : (numbers : List ℕ) (i n d : ℕ) → i < length numbers → has n (take (i + 1) numbers) ≡ true → (has n (take i numbers) ≡ true) ⊎ (n ≡ get_or numbers i d)
taken_cases numbers i n d inside h = elim (has-append_cases n (take i numbers) (get_or numbers i d ∷ []) (subst (λ l. has n l ≡ true) (take_more numbers i d inside) h)) [
  | inl early ↦ inl early
  | inr last ↦ elim (has_cases n (get_or numbers i d) [] last) [ inl is ↦ inr (sym is) | inr none ↦ absurd (false≢true none) ]
]

pub taken_before : (numbers : List ℕ) (i n d : ℕ) → i < length numbers → has n (take i numbers) ≡ true → has n (take (i + 1) numbers) ≡ true
taken_before numbers i n d inside h = subst (λ l. has n l ≡ true) (sym (take_more numbers i d inside)) (has-append_left n (take i numbers) (get_or numbers i d ∷ []) h)

pub taken_here : (numbers : List ℕ) (i d : ℕ) → i < length numbers → has (get_or numbers i d) (take (i + 1) numbers) ≡ true
taken_here numbers i d inside =
    subst (λ l. has (get_or numbers i d) l ≡ true) (sym (take_more numbers i d inside)) (has-append_right (get_or numbers i d) (take i numbers) (get_or numbers i d ∷ []) (has_first (get_or numbers i d) []))

-- of numbers that stand once none is among those before it
pub taken_once : (numbers : List ℕ) (i d : ℕ) → AllPairs (λ a b. a ≢ b) numbers → i < length numbers → has (get_or numbers i d) (take i numbers) ≡ true → ⊥
taken_once numbers i d once inside h =
    let (m, within, is) = at_has (get_or numbers i d) (take i numbers) h in
    let low : m < i = omega (arith, within, length-take-le i numbers (omega (arith, inside))) in
    once m i d low inside (get_or_default numbers m d 0 (omega (arith, low, inside)) ∙ (sym (get_or-take i numbers m 0 low) ∙ is))

-- ---- known keys

-- no line that comes in later has one of the key's numbers
abbrev IsKnownKey : PlaceLines → Key → Type 0
IsKnownKey lines (key.Cell spot) = IsKnown lines spot
IsKnownKey lines (key.Name scope word) = ⊤
IsKnownKey lines (key.Range area) = IsKnown lines (first_spot area) × IsKnown lines (last_spot area)
IsKnownKey lines (key.Whole ends) = ⊥

key_passes : (lines : PlaceLines) (k : Key) → IsKnownKey lines k → is_known_key lines k ≡ true
key_passes lines (key.Cell spot) known = known_passes lines spot known
key_passes lines (key.Name scope word) known = refl
key_passes lines (key.Range area) (first, last) =
    and_from (is_known lines (first_spot area)) (is_known lines (last_spot area)) (known_passes lines (first_spot area) first) (known_passes lines (last_spot area) last)
key_passes lines (key.Whole ends) known = absurd known

passes_key : (lines : PlaceLines) (k : Key) → is_known_key lines k ≡ true → IsKnownKey lines k
passes_key lines (key.Cell spot) passes = passes_known lines spot passes
passes_key lines (key.Name scope word) passes = tt
passes_key lines (key.Range area) passes =
    let (first, last) = and_parts (is_known lines (first_spot area)) (is_known lines (last_spot area)) passes in
    (passes_known lines (first_spot area) first, passes_known lines (last_spot area) last)
passes_key lines (key.Whole ends) passes = absurd (false≢true passes)

-- the key of a node that is kept is known
known_key : (lines : PlaceLines) (x : TouchIndex) (n : ℕ) (a : Node) → KeepsNode x lines n a → IsKnownKey lines (key_of lines a)
known_key lines x n (Cell p) kept = spot_known lines p
known_key lines x n (Name scope word) kept = tt
known_key lines x n (Range b) kept = (spot_known lines (first_place b), spot_known lines (last_place b))
known_key lines x n (Whole w) kept = absurd kept

-- the key of a whole range isn't taken for known
whole_unknown : (lines : PlaceLines) (k : Key) (w : whole.Whole) → node_of lines k ≡ Some (Whole w) → is_known_key lines k ≡ true → ⊥
whole_unknown lines (key.Whole ends) w is known = false≢true known
whole_unknown lines (key.Name scope word) w is known = apart is
  where
    apart : Some (Name scope word) ≡ Some (Whole w) → ⊥
    apart e = cc
whole_unknown lines (key.Cell spot) w is known = let (p, at, same) = mapped Cell (place_at lines spot) (Whole w) is in apart p same
  where
    apart : (p : Place) → Whole w ≡ Cell p → ⊥
    apart p e = cc
whole_unknown lines (key.Range area) w is known = let (b, at, same) = mapped Range (block_at lines area) (Whole w) is in apart b same
  where
    apart : (b : Block) → Whole w ≡ Range b → ⊥
    apart b e = cc

-- ---- numbers that are odd, or the nodes of which are kept

abbrev Either : PlaceLines → Touches → ℕ → Key → Type 0
Either lines t n k = (has n t.odd.keys ≡ true) ⊎ (IsKnownKey lines k × ((a : Node) → node_of lines k ≡ Some a → KeepsNode t.index lines n a))

opened : (lines : PlaceLines) (t : Touches) (n : ℕ) (k : Key) → IsIndexed lines t n k → Either lines t n k
opened lines t n k indexed = elim (has_or_not n t.odd.keys) [
  | inl odd ↦ inl odd
  | inr other ↦ inr (passes_key lines k (indexed other).0, by other)
]
  where
    by : has n t.odd.keys ≡ false → (a : Node) → node_of lines k ≡ Some a → KeepsNode t.index lines n a
    by other (Cell p) is = (indexed other).1 p is
    by other (Name scope word) is = tt
    by other (Range b) is = (indexed other).2 b is
    by other (Whole w) is = absurd (whole_unknown lines k w is (indexed other).0)

closed : (lines : PlaceLines) (t : Touches) (n : ℕ) (k : Key) → Either lines t n k → IsIndexed lines t n k
closed lines t n k either other = elim either [
  | inl odd ↦ absurd (false≢true (sym other ∙ odd))
  | inr keeps ↦ (key_passes lines k keeps.0, λ p is. keeps.1 (Cell p) is, λ b is. keeps.1 (Range b) is)
]

-- ---- what is kept in more

pub index_more : (x y : TouchIndex) (lines : PlaceLines) (n : ℕ) (a : Node) → Grows x y → KeepsNode x lines n a → KeepsNode y lines n a
index_more x y lines n (Cell p) grows (inside, kept) = (inside, grows.0 (spot_of lines p) n kept)
index_more x y lines n (Name scope word) grows kept = tt
index_more x y lines n (Whole w) grows kept = absurd kept
index_more x y lines n (Range b) grows (inside, (first, rows, cols)) = (
  inside,
  (
    grows.1 (spot_of lines (first_place b)) n first,
    λ line low high. grows.2 Rows b.sheet (number_of (table_along Rows lines b.sheet) line) n (rows line low high),
    λ line low high. grows.2 Cols b.sheet (number_of (table_along Cols lines b.sheet) line) n (cols line low high),
  ),
)

pub kept_more : (lines : PlaceLines) (old new : Touches) (n : ℕ) (a : Node) → IsMore old new → IsKept lines old n a → IsKept lines new n a
kept_more lines old new n a more kept =
    elim kept [
      | inl odd ↦ inl (more.odd n odd)
      | inr keeps ↦ inr (index_more old.index new.index lines n a more.index keeps)
    ]

pub indexed_more : (lines : PlaceLines) (old new : Touches) (n : ℕ) (k : Key) → IsMore old new → IsIndexed lines old n k → IsIndexed lines new n k
indexed_more lines old new n k more indexed =
    elim (opened lines old n k indexed) [
      | inl odd ↦ closed lines new n k (inl (more.odd n odd))
      | inr keeps ↦ closed lines new n k (inr (keeps.0, λ a is. index_more old.index new.index lines n a more.index (keeps.1 a is)))
    ]

pub all_more : (nodes : NodeTable) (old new : Touches) → IsMore old new → AreIndexed nodes old → AreIndexed nodes new
all_more nodes old new more indexed = record {
  reached = subst (λ k. k ≤ count_of nodes) (sym more.kept) indexed.reached;
  each = λ n k early at. indexed_more nodes.lines old new n k more (indexed.each n k (subst (λ m. n < m) more.kept early) at);
}

pub more_more : (a b c : Touches) → IsMore a b → IsMore b c → IsMore a c
more_more a b c f g = record {
  kept = g.kept ∙ f.kept;
  odd = λ n h. g.odd n (f.odd n h);
  index = (λ spot n h. g.index.0 spot n (f.index.0 spot n h), λ spot n h. g.index.1 spot n (f.index.1 spot n h), λ axis sheet line n h. g.index.2 axis sheet line n (f.index.2 axis sheet line n h));
}

-- a node that is kept under its number is indexed there
pub node_indexed : (lines : PlaceLines) (t : Touches) (n : ℕ) (k : Key) (a : Node) → node_of lines k ≡ Some a → IsKept lines t n a → IsIndexed lines t n k
node_indexed lines t n k a is kept =
    elim kept [
      | inl odd ↦ closed lines t n k (inl odd)
      | inr keeps ↦ closed lines t n k (inr (
        subst (IsKnownKey lines) (key_returns lines k a is) (known_key lines t.index n a keeps),
        λ b at. subst (KeepsNode t.index lines n) (same_Some a b (sym is ∙ at)) keeps,
      ))
    ]

-- what stands under the key of a number
pub found_of_key : (lines : PlaceLines) (nodes : NodeTable) (n : ℕ) (k : Key) (a : Node) → n < count_of nodes → k ≡ key_at nodes n → found_under lines nodes.keys.keys n ≡ Some a → node_of lines k ≡ Some a
found_of_key lines nodes n k a low is found = ap (node_of lines) is ∙ (sym (ap (option_and_then (node_of lines)) (gets nodes.keys.keys n (key.Name 0 0) low)) ∙ found)

-- ---- over an operation

-- a node that isn't touched isn't bent
pub untouched_still : (s : Shift) (a : Node) → IsUntouched s a → ¬ Bends s a
untouched_still s (Cell p) untouched lost = untouched.1 (inl lost)
untouched_still s (Name scope word) untouched bends = bends
untouched_still s (Whole w) untouched bends = untouched
untouched_still s (Range b) untouched bends =
    elim bends [
      | inl bent ↦ untouched.1 (inl bent)
      | inr cut ↦ untouched.1 (inr (inl cut))
    ]

module _ (s : Shift) (sound : IsSound s) (old new : PlaceLines) (moved : AreMoved (form_of s) old new) where
  -- it stands somewhere then, under the key that it had, and what was kept of it is kept still
  pub stays : (x : TouchIndex) (n : ℕ) (a : Node) → IsUntouched s a → (b : Node) × (node_after s a ≡ Some b) × (key_of old a ≡ key_of new b) × (KeepsNode x old n a → KeepsNode x new n b)
  stays x n (Cell p) untouched =
      let (q, goes, same) = cell_is_somewhere (form_of s) old new p sound moved untouched.0 untouched.1 in (
        Cell q,
        ap (option_map Cell) goes,
        ap key.Cell same,
        λ (kept : IsInside p × KeepsCell x old p n). (place_moved_inside (form_of s) p q sound untouched.0 goes, subst (λ spot. keeps_cell x spot n ≡ true) same kept.1),
      )
  stays x n (Name scope word) untouched = (Name scope word, refl, refl, λ kept. tt)
  stays x n (Whole w) untouched = absurd untouched
  stays x n (Range b) untouched =
      let (c, goes, same) = block_is_somewhere (form_of s) old new b sound moved untouched.0 untouched.1 in (
        Range c,
        ap (option_map Range) goes,
        ap key.Range same,
        λ (kept : IsBlockInside b × KeepsBlock x old b n).
            (block_moved_inside (form_of s) b c sound untouched.0 goes, block_kept (form_of s) x old new b c n sound moved untouched.0 untouched.1 goes kept.1),
      )

  -- a range that is handed on under a number that it keeps, where lines that come in are kept too
  pub stays_handed : (nodes : NodeTable) (t : Touches) (x : TouchIndex) (n : ℕ) (k : Key) (a : Node) (c : Block) → nodes.lines ≡ old → n < count_of nodes → k ≡ key_at nodes n → AreIndexed nodes t → n < t.kept
      → node_of new k ≡ Some a → a ≡ Range c → IsHandedAt (form_of s) (found_at nodes n) c
      → ((was : PlaceLines) (b : Block) → IsHandedOn (form_of s) was new b c → KeepsBlock t.index was b n → KeepsBlock x new c n) → (has n t.odd.keys ≡ true) ⊎ KeepsNode x new n (Range c)
  stays_handed nodes t x n k a c lines low is indexed early stands is_c (b, found, (inside, within, many)) keeps =
      let at : slice_get nodes.keys.keys n ≡ Some k = gets nodes.keys.keys n (key.Name 0 0) low ∙ ap Some (sym is) in
      let was : node_of nodes.lines k ≡ Some (Range b) = ap (option_and_then (node_of nodes.lines)) (sym at) ∙ found in
      let area : area_of old b ≡ area_of new c
      = one_area (area_of old b) (area_of new c) (ap (λ l. key_of l (Range b)) (sym lines) ∙ (key_returns nodes.lines k (Range b) was ∙ (sym (key_returns new k a stands) ∙ ap (key_of new) is_c))) in
      let on : IsHandedOn (form_of s) old new b c = record { sound = sound; moved = moved; here = inside; there = within; area = area; count = many } in
      elim (opened nodes.lines t n k (indexed.each n k early at)) [
        | inl odd ↦ inl odd
        | inr kept ↦ inr (within, keeps old b on (subst (λ l. KeepsBlock t.index l b n) lines (kept.1 (Range b) was).1))
      ]
    where
      one_area : (a b : LineArea) → key.Range a ≡ key.Range b → a ≡ b
      one_area a b e = cc

  stays_known_key : (k : Key) → IsKnownKey old k → IsKnownKey new k
  stays_known_key (key.Cell spot) known = stays_known (form_of s) old new spot moved known
  stays_known_key (key.Name scope word) known = tt
  stays_known_key (key.Whole ends) known = absurd known
  stays_known_key (key.Range area) known = (
    stays_known (form_of s) old new (first_spot area) moved known.0,
    stays_known (form_of s) old new (last_spot area) moved known.1,
  )

  -- a node whose key was known has the key that some node had
  had_key : (a : Node) → IsKnownKey old (key_of new a) → (b : Node) × (key_of old b ≡ key_of new a)
  had_key (Cell q) known = let (p, is, within, narrow) = spot_was_there (form_of s) old new q moved known in (Cell p, ap key.Cell is)
  had_key (Name scope word) known = (Name scope word, refl)
  had_key (Whole w) known = absurd known
  had_key (Range b) known =
      let (p, p_is, p_within, p_narrow) = spot_was_there (form_of s) old new (first_place b) moved known.0 in
      let (q, q_is, q_within, q_narrow) = spot_was_there (form_of s) old new (last_place b) moved known.1 in
      let sheets : p.sheet ≡ q.sheet = ap (λ spot. spot.sheet) p_is ∙ sym (ap (λ spot. spot.sheet) q_is) in (
        Range (record { sheet = p.sheet; top = p.row; left = p.col; bottom = q.row; right = q.col }),
        ap key.Range (same_area (area_of old (record { sheet = p.sheet; top = p.row; left = p.col; bottom = q.row; right = q.col })) (area_of new b) p_is (ap (spot_of old) (λ i. record { sheet = sheets i; row = q.row; col = q.col }) ∙ q_is)),
      )

  -- what stands under a known key stood somewhere before
  stood_there : (k : Key) (a : Node) → IsKnownKey old k → is_narrow k ≡ true → node_of new k ≡ Some a → (b : Node) × (node_of old k ≡ Some b)
  stood_there k a known narrow is =
      let here : key_of new a ≡ k = key_returns new k a is in
      let (b, same) = had_key a (subst (IsKnownKey old) (sym here) known) in
      let own : key_of old b ≡ k = same ∙ here in
      (b, subst (λ j. node_of old j ≡ Some b) own (node_returns old b (subst (λ j. is_narrow j ≡ true) (sym own) narrow)))

  -- where the found nodes are kept as they stand then, and the others are untouched, all are indexed
  module _ (nodes : NodeTable) (lines : nodes.lines ≡ old) (t : Touches) (numbers : List ℕ) (indexed : AreIndexed nodes t) (finds : FindsTouched s nodes numbers) (kept : AreKept new nodes.keys.keys t numbers) where
    found_then : (n : ℕ) (k : Key) → n < t.kept → slice_get nodes.keys.keys n ≡ Some k → has n numbers ≡ true → IsKnownKey old k → (o : Option Node) → node_of new k ≡ o → IsIndexed new t n k
    found_then n k early at h known None e = closed new t n k (inr (stays_known_key k known, λ a is. absurd (none a (sym e ∙ is))))
      where
        none : (a : Node) → None ≡ Some a → ⊥
        none a e = cc
    found_then n k early at h known (Some a) e = node_indexed new t n k a e (kept n a h early (ap (option_and_then (node_of new)) at ∙ e))

    other_then : (n : ℕ) (k : Key) → slice_get nodes.keys.keys n ≡ Some k → has n numbers ≡ false → IsKnownKey old k → ((a : Node) → node_of old k ≡ Some a → KeepsNode t.index old n a) → IsIndexed new t n k
    other_then n k at other known keeps = closed new t n k (inr (stays_known_key k known, λ a is. here a is))
      where
        here : (a : Node) → node_of new k ≡ Some a → KeepsNode t.index new n a
        here a is =
            let (b, was) = stood_there k a known (nodes.narrow n k at) is in
            let found : found_at nodes n ≡ Some b = ap (option_and_then (node_of nodes.lines)) at ∙ subst (λ l. node_of l k ≡ Some b) (sym lines) was in
            let untouched : IsUntouched s b = elim (finds n b found) [ inl h ↦ absurd (false≢true (sym other ∙ h)) | inr u ↦ u ] in
            let (c, goes, same, stay) = stays t.index n b untouched in
            let is_c : c ≡ a = one_node new c a (sym same ∙ (key_returns old k b was ∙ sym (key_returns new k a is))) in
            subst (KeepsNode t.index new n) is_c (stay (keeps b was))

    pub all_indexed : (n : ℕ) (k : Key) → n < t.kept → slice_get nodes.keys.keys n ≡ Some k → IsIndexed new t n k
    all_indexed n k early at =
        elim (opened old t n k (subst (λ l. IsIndexed l t n k) lines (indexed.each n k early at))) [
          | inl odd ↦ closed new t n k (inl odd)
          | inr keeps ↦ elim (has_or_not n numbers) [
            | inl h ↦ found_then n k early at h keeps.0 (node_of new k) refl
            | inr other ↦ other_then n k at other keeps.0 keeps.1
          ]
        ]

-- ---- what is found

-- of the numbers that the index finds and the odd ones, those of keys, and all that aren't kept yet, are all that an operation
-- touches
pub finds_all : (s : Shift) (nodes : NodeTable) (t : Touches) (touched first second found : List ℕ) → AreIndexed nodes t
    → FindsCells t.index nodes.lines (form_of s) touched → FindsBlocks t.index nodes.lines (form_of s) touched
    → AddsKnown nodes touched [] first → AddsKnown nodes t.odd.keys first second → AddsBetween t.kept (count_of nodes) second found → FindsTouched s nodes found
finds_all s nodes t touched first second found indexed cells blocks one two three n a is =
    elim (cases_lt n t.kept) [
      | inr fresh ↦ inl ((three n).1 (inr (fresh, low)))
      | inl early ↦ elim (opened nodes.lines t n (key_of nodes.lines a) (indexed.each n (key_of nodes.lines a) early at)) [
        | inl odd ↦ inl ((three n).1 (inl ((two n).1 (inr (odd, low)))))
        | inr keeps ↦ elim (has_or_not n found) [
          | inl h ↦ inl h
          | inr other ↦ inr (untouched other a (keeps.1 a was))
        ]
      ]
    ]
  where
    at : slice_get nodes.keys.keys n ≡ Some (key_of nodes.lines a)
    at = found_key nodes.lines nodes.keys.keys n a is

    low : n < count_of nodes
    low = (got nodes.keys.keys n (key_of nodes.lines a) (key_of nodes.lines a) at).0

    was : node_of nodes.lines (key_of nodes.lines a) ≡ Some a
    was = ap (option_and_then (node_of nodes.lines)) (sym at) ∙ is

    apart : has n found ≡ false → has n touched ≡ true → ⊥
    apart other h = false≢true (sym other ∙ (three n).1 (inl ((two n).1 (inl ((one n).1 (inr (h, low)))))))

    untouched : has n found ≡ false → (b : Node) → KeepsNode t.index nodes.lines n b → IsUntouched s b
    untouched other (Cell p) (inside, kept) = (inside, λ touches. apart other (cells p n inside kept touches))
    untouched other (Name scope word) kept = tt
    untouched other (Whole w) kept = absurd kept
    untouched other (Range b) (inside, kept) = (inside, λ touches. apart other (blocks b n inside kept touches))

-- and all of them are numbers of keys
pub all_inside : (nodes : NodeTable) (touched odd first second found : List ℕ) (start : ℕ) → AddsKnown nodes touched [] first → AddsKnown nodes odd first second
    → AddsBetween start (count_of nodes) second found → AreInside nodes found
all_inside nodes touched odd first second found start one two three n h =
    elim ((three n).0 h) [
      | inr fresh ↦ fresh.1
      | inl was ↦ elim ((two n).0 was) [
        | inr known ↦ known.1
        | inl early ↦ elim ((one n).0 early) [ inr known ↦ known.1 | inl none ↦ absurd (false≢true none) ]
      ]
    ]

-- the number that is kept next
pub next_kept : (nodes : NodeTable) (t u : Touches) (n : ℕ) (k : Key) → AreIndexed nodes t → t.kept ≡ n → n < count_of nodes → u.kept ≡ n + 1 → u.odd ≡ t.odd → u.index ≡ t.index
    → slice_get nodes.keys.keys n ≡ Some k → IsIndexed nodes.lines t n k → AreIndexed nodes u
next_kept nodes t u n k indexed next low kept odd index at here = record {
  reached = omega (arith, low, kept);
  each = λ m j early is. same m j (elim (cases_lt m n) [
    | inl before ↦ indexed.each m j (omega (arith, before, next)) is
    | inr after ↦ last m j (omega (arith, early, kept, after)) is
  ]);
}
  where
    last : (m : ℕ) (j : Key) → m ≡ n → slice_get nodes.keys.keys m ≡ Some j → IsIndexed nodes.lines t m j
    last m j own is =
        let one : k ≡ j = same_Some k j (sym at ∙ (ap (slice_get nodes.keys.keys) (sym own) ∙ is)) in
        subst (λ i. IsIndexed nodes.lines t i j) (sym own) (subst (IsIndexed nodes.lines t n) one here)

    same : (m : ℕ) (j : Key) → IsIndexed nodes.lines t m j → IsIndexed nodes.lines u m j
    same m j was other =
        let (known, cells, blocks) = was (ap (λ o. has m o.keys) (sym odd) ∙ other) in
        (known, λ p is. subst (λ x. KeepsNode x nodes.lines m (Cell p)) (sym index) (cells p is), λ b is. subst (λ x. KeepsNode x nodes.lines m (Range b)) (sym index) (blocks b is))

-- where keys are added behind, and their numbers to those found
pub finds_grown : (s : Shift) (old new : NodeTable) (first end : ℕ) (found more : List ℕ) → ((n : ℕ) → n < count_of old → found_at new n ≡ found_at old n) → first ≡ count_of old → end ≡ count_of new
    → AddsBetween first end found more → FindsTouched s old found → FindsTouched s new more
finds_grown s old new first end found more same first_is end_is adds finds n a is =
    elim (cases_lt n (count_of old)) [
      | inl low ↦ elim (finds n a (sym (same n low) ∙ is)) [ inl h ↦ inl ((adds n).1 (inl h)) | inr untouched ↦ inr untouched ]
      | inr high ↦ inl ((adds n).1 (inr (omega (arith, high, first_is), omega (arith, low, end_is))))
    ]
  where
    low : n < count_of new
    low = (got new.keys.keys n (key_of new.lines a) (key_of new.lines a) (found_key new.lines new.keys.keys n a is)).0

pub inside_grown : (old new : NodeTable) (first end : ℕ) (found more : List ℕ) → count_of old ≤ count_of new → end ≡ count_of new → AddsBetween first end found more → AreInside old found → AreInside new more
inside_grown old new first end found more longer end_is adds inside n h =
    elim ((adds n).0 h) [
      | inl was ↦ let low : n < count_of old = inside n was in omega (arith, low, longer)
      | inr between ↦ omega (arith, between.1, end_is)
    ]
