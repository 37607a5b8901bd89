-- Keys of nodes, and what a hasher is fed of them.
use Rattle.std.specs.Prelude.{◌≡◌, ◌≢◌, ◌==◌, ◌&&◌, ℕ, nat_lt, slice_get, Bool, true, false, List, ◌++◌, Option, Some, None, option_map, refl}
use Rattle.std.specs.Hash as fed
use Rattle.std.specs.Cmp.{IsEquivalence, decided}
use Rattle.std.specs.List.{AllPairs}
use Rattle.std.proofs.Common.{ap, eqb-true, subst}
use Rattle.std.proofs.lemmas.Bool.{and_from, and_parts, eq-eqb, false≢true}
use Rattle.cell_addr.specs.Axis.{same_axis}
use Rattle.cell_addr.specs.declared.whole.Whole as whole
use Rattle.cell_addr.proofs.SamePlaces.{same_axis-equal, same_axis-self}
use Rattle.place_lines.specs.Spots.{area_of, block_at, number_of, past, place_at, position_at, positions, spot_of, table_along}
use Rattle.place_lines.specs.declared.area.LineArea.{LineArea}
use Rattle.place_lines.specs.declared.lines.PlaceLines.{PlaceLines}
use Rattle.place_lines.specs.declared.spot.LineSpot.{LineSpot}
use Rattle.dep_graph.specs.declared.ends.Ends.{Ends}
use Rattle.dep_graph.specs.declared.key.Key.{Key}
use Rattle.dep_graph.specs.declared.key.Key.TheVariants.{Cell, Name, Range, Whole}
use Rattle.dep_graph.specs.declared.node.Node.{Node}
use Rattle.dep_graph.specs.declared.node.Node.TheVariants as node
use Rattle.dep_graph.specs.internal.Wholes.{tag_of}

-- the ends of a whole range
abbrev pub ends_of : PlaceLines → whole.Whole → Ends
ends_of lines w = record {
  sheet = w.sheet;
  axis = w.axis;
  first = number_of (table_along w.axis lines w.sheet) w.first;
  last = number_of (table_along w.axis lines w.sheet) w.last;
}

-- the whole range of two lines, where both are there
abbrev pub whole_between : Ends → Option ℕ → Option ℕ → Option whole.Whole
whole_between e (Some first) (Some last) = Some (record { sheet = e.sheet; axis = e.axis; first = first; last = last })
whole_between e _ _ = None

-- where a whole range is by its ends; none where one of them stands nowhere
abbrev pub whole_at : PlaceLines → Ends → Option whole.Whole
whole_at lines e = whole_between e (position_at (table_along e.axis lines e.sheet) e.first) (position_at (table_along e.axis lines e.sheet) e.last)

-- the key of a node
abbrev pub key_of : PlaceLines → Node → Key
key_of lines (node.Cell p) = Cell (spot_of lines p)
key_of lines (node.Name scope word) = Name scope word
key_of lines (node.Range b) = Range (area_of lines b)
key_of lines (node.Whole w) = Whole (ends_of lines w)

-- the node of a key; none where one of its lines stands nowhere
abbrev pub node_of : PlaceLines → Key → Option Node
node_of lines (Cell spot) = option_map node.Cell (place_at lines spot)
node_of lines (Name scope word) = Some (node.Name scope word)
node_of lines (Range area) = option_map node.Range (block_at lines area)
node_of lines (Whole ends) = option_map node.Whole (whole_at lines ends)

-- tests whether two are the same
abbrev pub same_spot : LineSpot → LineSpot → Bool
same_spot s t = s.sheet == t.sheet && (s.row == t.row && s.col == t.col)

abbrev pub same_area : LineArea → LineArea → Bool
same_area a b = a.sheet == b.sheet && (a.top == b.top && (a.left == b.left && (a.bottom == b.bottom && a.right == b.right)))

abbrev pub same_ends : Ends → Ends → Bool
same_ends a b = a.sheet == b.sheet && (same_axis a.axis b.axis && (a.first == b.first && a.last == b.last))

abbrev pub same_key : Key → Key → Bool
same_key (Cell s) (Cell t) = same_spot s t
same_key (Name scope word) (Name other_scope other_word) = scope == other_scope && word == other_word
same_key (Range a) (Range b) = same_area a b
same_key (Whole a) (Whole b) = same_ends a b
same_key _ _ = false

abbrev pub fed_key : Key → List (List ℕ)
fed_key (Cell s) = fed.u8 0 ++ (fed.u32 s.sheet ++ (fed.u64 s.col ++ fed.u64 s.row))
fed_key (Name scope word) = fed.u8 1 ++ (fed.u32 scope ++ fed.u64 word)
fed_key (Range a) = fed.u8 2 ++ (fed.u32 a.sheet ++ (fed.u64 a.left ++ (fed.u64 a.right ++ (fed.u64 a.top ++ fed.u64 a.bottom))))
fed_key (Whole a) = fed.u8 (tag_of a.axis) ++ (fed.u32 a.sheet ++ (fed.u64 a.first ++ fed.u64 a.last))

-- the number is that of a line, or of a position past a sheet's end
abbrev pub is_narrow_line : ℕ → Bool
is_narrow_line number = nat_lt number (past positions)

-- so are those of the key
abbrev pub is_narrow : Key → Bool
is_narrow (Cell s) = is_narrow_line s.row && is_narrow_line s.col
is_narrow (Name scope word) = true
is_narrow (Range a) = (is_narrow_line a.top && is_narrow_line a.left) && (is_narrow_line a.bottom && is_narrow_line a.right)
is_narrow (Whole a) = is_narrow_line a.first && is_narrow_line a.last

-- all keys are
abbrev pub AreNarrow : List Key → Type 0
AreNarrow keys = (n : ℕ) (k : Key) → slice_get keys n ≡ Some k → is_narrow k ≡ true

-- no key stands twice
abbrev pub AreKeysOnce : List Key → Type 0
AreKeysOnce keys = AllPairs (λ a b. a ≢ b) keys

same_number : (n : ℕ) → (n == n) ≡ true
same_number n = eq-eqb n n refl

same_spots : (s t : LineSpot) → same_spot s t ≡ true → s ≡ t
same_spots s t h =
    let (first, rest) = and_parts (s.sheet == t.sheet) _ h in
    let (second, third) = and_parts (s.row == t.row) (s.col == t.col) rest in
    let sheet = eqb-true s.sheet t.sheet first in
    let row = eqb-true s.row t.row second in
    let col = eqb-true s.col t.col third in
    λ i. record { sheet = sheet i; row = row i; col = col i }

same_areas : (a b : LineArea) → same_area a b ≡ true → a ≡ b
same_areas a b h =
    let (first, rest) = and_parts (a.sheet == b.sheet) _ h in
    let (second, more) = and_parts (a.top == b.top) _ rest in
    let (third, last) = and_parts (a.left == b.left) _ more in
    let (fourth, fifth) = and_parts (a.bottom == b.bottom) (a.right == b.right) last in
    let sheet = eqb-true a.sheet b.sheet first in
    let top = eqb-true a.top b.top second in
    let left = eqb-true a.left b.left third in
    let bottom = eqb-true a.bottom b.bottom fourth in
    let right = eqb-true a.right b.right fifth in
    λ i. record { sheet = sheet i; top = top i; left = left i; bottom = bottom i; right = right i }

same_two_ends : (a b : Ends) → same_ends a b ≡ true → a ≡ b
same_two_ends a b h =
    let (first, rest) = and_parts (a.sheet == b.sheet) _ h in
    let (second, more) = and_parts (same_axis a.axis b.axis) _ rest in
    let (third, fourth) = and_parts (a.first == b.first) (a.last == b.last) more in
    let sheet = eqb-true a.sheet b.sheet first in
    let same = same_axis-equal a.axis b.axis second in
    let start = eqb-true a.first b.first third in
    let end = eqb-true a.last b.last fourth in
    λ i. record { sheet = sheet i; axis = same i; first = start i; last = end i }

-- the test of keys decides whether they are equal
pub same_keys : (a b : Key) → same_key a b ≡ true → a ≡ b
same_keys (Cell s) (Cell t) h = ap Cell (same_spots s t h)
same_keys (Cell s) (Name scope word) h = absurd (false≢true h)
same_keys (Cell s) (Range b) h = absurd (false≢true h)
same_keys (Cell s) (Whole b) h = absurd (false≢true h)
same_keys (Name scope word) (Cell t) h = absurd (false≢true h)
same_keys (Name scope word) (Name other_scope other_word) h =
    let (s, w) = and_parts (scope == other_scope) (word == other_word) h in
    let e1 = eqb-true scope other_scope s in
    let e2 = eqb-true word other_word w in
    λ i. Name (e1 i) (e2 i)
same_keys (Name scope word) (Range b) h = absurd (false≢true h)
same_keys (Name scope word) (Whole b) h = absurd (false≢true h)
same_keys (Range a) (Cell t) h = absurd (false≢true h)
same_keys (Range a) (Name scope word) h = absurd (false≢true h)
same_keys (Range a) (Range b) h = ap Range (same_areas a b h)
same_keys (Range a) (Whole b) h = absurd (false≢true h)
same_keys (Whole a) (Cell t) h = absurd (false≢true h)
same_keys (Whole a) (Name scope word) h = absurd (false≢true h)
same_keys (Whole a) (Range b) h = absurd (false≢true h)
same_keys (Whole a) (Whole b) h = ap Whole (same_two_ends a b h)

pub same_key_fed : (a b : Key) → same_key a b ≡ true → fed_key a ≡ fed_key b
same_key_fed a b h = ap fed_key (same_keys a b h)

-- a key is the same as itself
pub own_key : (a : Key) → same_key a a ≡ true
own_key (Cell s) = and_from (s.sheet == s.sheet) _ (same_number s.sheet) (and_from (s.row == s.row) (s.col == s.col) (same_number s.row) (same_number s.col))
own_key (Name scope word) = and_from (scope == scope) (word == word) (same_number scope) (same_number word)
own_key (Range a) =
    and_from (a.sheet == a.sheet) _ (same_number a.sheet) (and_from (a.top == a.top) _ (same_number a.top)
    (and_from (a.left == a.left) _ (same_number a.left) (and_from (a.bottom == a.bottom) (a.right == a.right) (same_number a.bottom) (same_number a.right))))
own_key (Whole a) =
    and_from (a.sheet == a.sheet) _ (same_number a.sheet) (and_from (same_axis a.axis a.axis) _ (same_axis-self a.axis)
    (and_from (a.first == a.first) (a.last == a.last) (same_number a.first) (same_number a.last)))

pub keys_are_alike : IsEquivalence same_key
keys_are_alike = decided same_key (λ a b. (same_keys a b, λ e. subst (λ c. same_key a c ≡ true) e (own_key a)))
