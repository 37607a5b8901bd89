-- Numbers in lists under keys, and what cells find by them. Serves the index of blocks.
use Rattle.std.proofs.Common.{◌≡◌, ◌≢◌, ◌∙◌, sym, ap, refl, subst, arith, ℕ, ◌+◌, ◌<◌, ◌≤◌, inl, inr, ◌⊎◌, ⊎_elim, Bool, true, false, cond, ◌&&◌, ◌||◌, List, [], ◌∷◌, ◌++◌, Some, None, take, length, get_or, set, eqb, nat_eq, nat_lt, eqb-true, not, suc, zero, Result, Ok, Err, OnErr, OnOk}
use Rattle.std.specs.List.{list_any, filter_map, cons_option, position}
use Rattle.std.specs.declared.alloc.Global.{Global}
use Rattle.std.specs.declared.ops.Range.{Range}
use Rattle.std.specs.declared.vec.Vec.{Vec}
use Rattle.std.proofs.lemmas.Bool.{and_from, and_parts, cases_lt, or_cases, or_left, or_right, false≢true}
use Rattle.std.proofs.lemmas.Bool.Decides.{nat_tests}
use Rattle.std.proofs.lemmas.List.{get_or-set_other, get_or-set_same, get_or_append_left, get_or_past, get_or_push, length-map, length_push}
use Rattle.std.proofs.lemmas.List.Folds.{list_any_at, list_any_more, position_or_len_push}
use Rattle.std.proofs.lemmas.List.Sums.{passes_at_first}
use Rattle.block_slots.specs.Segments.{has_line, segment_at}
use Rattle.block_slots.specs.Slots.{has_cell, in_block, size_of, slot_at}
use Rattle.block_slots.specs.declared.segment.Segment.{Segment}
use Rattle.block_slots.specs.declared.slot.Size.{Size}
use Rattle.block_slots.specs.declared.slot.Slot.{Slot}
use Rattle.needs_order.specs.Needs.{has, lists_of}
use Rattle.needs_order.proofs.Lists.{has-append_cases, has-append_left, has-append_right, has_cases, has_first, nat_eq_self}
use Rattle.block_index.specs.Index.{Files, FindsAlike, filed_in, finds, in_cells, slot_count, slots_of}
use Rattle.block_index.specs.declared.index.BlockIndex.{BlockIndex}
use Rattle.block_index.specs.declared.key.SlotKey.{SlotKey}
use Rattle.block_index.specs.internal.Keys.{AreSized, has_size, in_slot, key_at, key_of, key_size, place_of, same_key}
use Rattle.block_index.proofs.Tests.{any_alike, any_has, any_more, any_or, any_push, has_any}

-- ---- keys

pub same_key_equal : (a b : SlotKey) → same_key a b ≡ true → a ≡ b
same_key_equal a b h =
    let (s, rest) = and_parts (nat_eq a.sheet b.sheet) (nat_eq a.col_level b.col_level && (nat_eq a.col_index b.col_index && (nat_eq a.row_level b.row_level && nat_eq a.row_index b.row_index))) h in
    let (cl, rest2) = and_parts (nat_eq a.col_level b.col_level) (nat_eq a.col_index b.col_index && (nat_eq a.row_level b.row_level && nat_eq a.row_index b.row_index)) rest in
    let (ci, rest3) = and_parts (nat_eq a.col_index b.col_index) (nat_eq a.row_level b.row_level && nat_eq a.row_index b.row_index) rest2 in
    let (rl, ri) = and_parts (nat_eq a.row_level b.row_level) (nat_eq a.row_index b.row_index) rest3 in
    let e1 = eqb-true a.sheet b.sheet s in
    let e2 = eqb-true a.col_level b.col_level cl in
    let e3 = eqb-true a.col_index b.col_index ci in
    let e4 = eqb-true a.row_level b.row_level rl in
    let e5 = eqb-true a.row_index b.row_index ri in
    λ i. record { sheet = e1 i; col_level = e2 i; col_index = e3 i; row_level = e4 i; row_index = e5 i }

-- the key that stands where another is looked for is that other
pub stands_at : (keys : List SlotKey) (k d : SlotKey) → place_of keys k < length keys → get_or keys (place_of keys k) d ≡ k
stands_at keys k d inside = sym (same_key_equal k (get_or keys (place_of keys k) d) (passes_at_first (same_key k) keys d inside))

one_place : (keys : List SlotKey) (k l : SlotKey) → place_of keys k < length keys → place_of keys l ≡ place_of keys k → l ≡ k
one_place keys k l inside same =
    sym (stands_at keys l k (subst (λ n. n < length keys) (sym same) inside)) ∙ (ap (λ n. get_or keys n k) same ∙ stands_at keys k k inside)

same_size : (y z : Size) → (nat_eq y.row_level z.row_level && nat_eq y.col_level z.col_level) ≡ true → y ≡ z
same_size y z h =
    let (r, c) = and_parts (nat_eq y.row_level z.row_level) (nat_eq y.col_level z.col_level) h in
    let rows = eqb-true y.row_level z.row_level r in
    let cols = eqb-true y.col_level z.col_level c in
    λ i. record { row_level = rows i; col_level = cols i }

-- a test that a size of the list passes
any_size : (q : Size → Bool) (zs : List Size) (z : Size) → has_size z zs ≡ true → q z ≡ true → list_any q zs ≡ true
any_size q [] z here passes = absurd (false≢true here)
any_size q (y ∷ zs) z here passes = ⊎_elim
    (λ (same : (nat_eq y.row_level z.row_level && nat_eq y.col_level z.col_level) ≡ true). or_left (q y) (list_any q zs) (subst (λ x. q x ≡ true) (sym (same_size y z same)) passes))
    (λ (later : has_size z zs ≡ true). or_right (q y) (list_any q zs) (any_size q zs z later passes))
    (or_cases (nat_eq y.row_level z.row_level && nat_eq y.col_level z.col_level) (has_size z zs) here)

-- two numbers are equal or not
pub cases_is : (a b : ℕ) → (a ≡ b) ⊎ (a ≢ b)
cases_is a b = by (eqb a b) refl
  where
    by : (t : Bool) → eqb a b ≡ t → (a ≡ b) ⊎ (a ≢ b)
    by true e = inl (eqb-true a b e)
    by false e = inr (λ same. false≢true (sym e ∙ (ap (λ c. eqb a c) (sym same) ∙ nat_eq_self a)))

-- ---- what cells find, by the keys

-- the list under a key; none where there is none
abbrev pub under : List SlotKey → List (List ℕ) → SlotKey → List ℕ
under keys lists k = get_or lists (place_of keys k) []

abbrev pub found_by : List SlotKey → List (List ℕ) → List Size → ℕ → ℕ → ℕ → ℕ → Bool
found_by keys lists sizes sheet row col n = list_any (λ z. has n (under keys lists (key_at sheet row col z))) sizes

module _ (keys : List SlotKey) (lists : List (List ℕ)) (counts : length lists ≡ length keys) where
  kept : (q : ℕ → Bool) (c : Bool) (i : ℕ) (rest : List ℕ) → (c ≡ false → q i ≡ false) → list_any q (cons_option (cond c (Some i) None) rest) ≡ (q i || list_any q rest)
  kept q true i rest none = refl
  kept q false i rest none = sym (ap (λ t. t || list_any q rest) (none refl))

  pub by_keys : (sheet row col n : ℕ) (sizes : List Size) → list_any (λ s. has n (get_or lists s [])) (filter_map (λ z. position (same_key (key_at sheet row col z)) keys) sizes) ≡ found_by keys lists sizes sheet row col n
  by_keys sheet row col n [] = refl
  by_keys sheet row col n (z ∷ sizes) =
      let k = key_at sheet row col z in
      kept (λ s. has n (get_or lists s [])) (nat_lt (place_of keys (key_at sheet row col z)) (length keys)) (place_of keys (key_at sheet row col z)) (filter_map (λ y. position (same_key (key_at sheet row col y)) keys) sizes)
      (λ out. ap (has n) (get_or_past lists (place_of keys (key_at sheet row col z)) [] (past (place_of keys (key_at sheet row col z)) (length keys) (length lists) counts out)))
      ∙ ap (λ t. has n (under keys lists (key_at sheet row col z)) || t) (by_keys sheet row col n sizes)
    where
      past : (i m l : ℕ) → l ≡ m → nat_lt i m ≡ false → l ≤ i
      past i m l same out = grind (arith, nat_tests)

  -- a key more, with a list of nothing
  gone : (i : ℕ) → length lists ≤ i → get_or (lists ++ [] ∷ []) i [] ≡ []
  gone i past = ⊎_elim
      (λ (more : length lists < i). get_or_past (lists ++ [] ∷ []) i [] (omega (arith, more, length_push lists [])))
      (λ (last : i ≤ length lists). get_or_push lists [] [] i (omega (arith, past, last)))
      (cases_lt (length lists) i)

  pub under-key_more : (k l : SlotKey) → under (keys ++ k ∷ []) (lists ++ [] ∷ []) l ≡ under keys lists l
  under-key_more k l = ⊎_elim
      (λ (inside : place_of keys l < length keys).
      ap (λ i. get_or (lists ++ [] ∷ []) i []) (position_or_len_push (same_key l) keys k ∙ stays (place_of keys l) (length keys) (length keys + cond (same_key l k) 0 1) inside)
      ∙ get_or_append_left lists ([] ∷ []) [] (place_of keys l) (omega (arith, inside, counts)))
      (λ (past : length keys ≤ place_of keys l).
      gone (place_of (keys ++ k ∷ []) l) (subst (λ i. length lists ≤ i) (sym (position_or_len_push (same_key l) keys k)) (later (place_of keys l) (length keys) (cond (same_key l k) 0 1) (length lists) counts past))
      ∙ sym (get_or_past lists (place_of keys l) [] (omega (arith, past, counts))))
      (cases_lt (place_of keys l) (length keys))
    where
      stays : (i n m : ℕ) → i < n → cond (eqb i n) m i ≡ i
      stays i n m inside = grind (arith, nat_tests)

      later : (i n more l : ℕ) → l ≡ n → n ≤ i → l ≤ cond (eqb i n) (n + more) i
      later i n more l same past = grind (arith, nat_tests)

  -- a number more in the list under a key
  module _ (i n : ℕ) (inside : i < length keys) where
    in_lists : i < length lists
    in_lists = omega (arith, inside, counts)

    pub under-set_same : (l : SlotKey) → place_of keys l ≡ i → under keys (set lists i (get_or lists i [] ++ n ∷ [])) l ≡ under keys lists l ++ n ∷ []
    under-set_same l same =
        ap (λ j. get_or (set lists i (get_or lists i [] ++ n ∷ [])) j []) same ∙ (get_or-set_same lists i (get_or lists i [] ++ n ∷ []) [] in_lists ∙ ap (λ j. get_or lists j [] ++ n ∷ []) (sym same))

    pub under-set_other : (l : SlotKey) → (place_of keys l ≢ i) → under keys (set lists i (get_or lists i [] ++ n ∷ [])) l ≡ under keys lists l
    under-set_other l other = get_or-set_other lists i (place_of keys l) (get_or lists i [] ++ n ∷ []) [] other

    pub set_grows : (l : SlotKey) (m : ℕ) → has m (under keys lists l) ≡ true → has m (under keys (set lists i (get_or lists i [] ++ n ∷ [])) l) ≡ true
    set_grows l m h = ⊎_elim
        (λ (same : place_of keys l ≡ i). subst (λ xs. has m xs ≡ true) (sym (under-set_same l same)) (has-append_left m (under keys lists l) (n ∷ []) h))
        (λ (other : place_of keys l ≢ i). subst (λ xs. has m xs ≡ true) (sym (under-set_other l other)) h)
        (cases_is (place_of keys l) i)

    pub set_only : (l : SlotKey) (m : ℕ) → has m (under keys (set lists i (get_or lists i [] ++ n ∷ [])) l) ≡ true → (has m (under keys lists l) ≡ true) ⊎ ((place_of keys l ≡ i) × (m ≡ n))
    set_only l m h = ⊎_elim
        (λ (same : place_of keys l ≡ i). ⊎_elim
        (λ (old : has m (under keys lists l) ≡ true). inl old)
        (λ (new : has m (n ∷ []) ≡ true). inr (same, only_one m n new))
        (has-append_cases m (under keys lists l) (n ∷ []) (subst (λ xs. has m xs ≡ true) (under-set_same l same) h)))
        (λ (other : place_of keys l ≢ i). inl (subst (λ xs. has m xs ≡ true) (under-set_other l other) h))
        (cases_is (place_of keys l) i)
      where
        only_one : (m n : ℕ) → has m (n ∷ []) ≡ true → m ≡ n
        only_one m n h = ⊎_elim (λ (same : n ≡ m). sym same) (λ (none : false ≡ true). absurd (false≢true none)) (has_cases m n [] h)

    pub set_has : (l : SlotKey) → place_of keys l ≡ i → has n (under keys (set lists i (get_or lists i [] ++ n ∷ [])) l) ≡ true
    set_has l same = subst (λ xs. has n xs ≡ true) (sym (under-set_same l same)) (has-append_right n (under keys lists l) (n ∷ []) (has_first n []))

-- what a cell finds is told by the keys
pub finds_by : (x : BlockIndex) (sheet row col n : ℕ) → finds x sheet row col n ≡ found_by x.slots.keys (lists_of x.lists.items) x.sizes.items sheet row col n
finds_by x sheet row col n = by_keys x.slots.keys (lists_of x.lists.items) (length-map x.lists.items (λ list. list.items) ∙ x.counts) sheet row col n x.sizes.items

-- the lists of a Vec, one of them replaced or one more behind the last
pub lists-set : (lists : List (Vec ℕ Global)) (i : ℕ) (v : Vec ℕ Global) → lists_of (set lists i v) ≡ set (lists_of lists) i v.items
lists-set [] i v = refl
lists-set (w ∷ lists) zero v = refl
lists-set (w ∷ lists) (suc i) v = ap (λ ls. w.items ∷ ls) (lists-set lists i v)

pub lists-more : (lists : List (Vec ℕ Global)) (v : Vec ℕ Global) → v.items ≡ [] → lists_of (lists ++ v ∷ []) ≡ lists_of lists ++ [] ∷ []
lists-more [] v none = ap (λ xs. xs ∷ []) none
lists-more (w ∷ lists) v none = ap (λ ls. w.items ∷ ls) (lists-more lists v none)

pub list_read : (lists : List (Vec ℕ Global)) (i : ℕ) (v : Vec ℕ Global) → i < length lists → v ≡ get_or lists i v → v.items ≡ get_or (lists_of lists) i []
list_read [] i v inside is = absurd (omega (arith, inside))
list_read (w ∷ lists) zero v inside is = ap (λ u. u.items) is
list_read (w ∷ lists) (suc i) v inside is = list_read lists i v (omega (arith, inside)) is

-- a list that was read and stays as it was
pub lists-same : (lists : List (Vec ℕ Global)) (i : ℕ) (old new : Vec ℕ Global) → i < length lists → old ≡ get_or lists i old → new.items ≡ old.items → lists_of (set lists i new) ≡ lists_of lists
lists-same [] i old new inside is same = refl
lists-same (w ∷ lists) zero old new inside is same = ap (λ xs. xs ∷ lists_of lists) (same ∙ ap (λ u. u.items) is)
lists-same (w ∷ lists) (suc i) old new inside is same = ap (λ ls. w.items ∷ ls) (lists-same lists i old new (omega (arith, inside)) is same)

-- ---- a size more in use

pub size_more : (old : BlockIndex) (sizes : List Size) (z : Size) → has_size z old.sizes.items ≡ false → sizes ≡ old.sizes.items ++ z ∷ []
    → (sheet row col n : ℕ) → list_any (λ s. has n (filed_in old s)) (filter_map (λ y. position (same_key (key_at sheet row col y)) old.slots.keys) sizes) ≡ finds old sheet row col n
size_more old sizes z fresh is sheet row col n =
    by_keys old.slots.keys (lists_of old.lists.items) (length-map old.lists.items (λ list. list.items) ∙ old.counts) sheet row col n sizes
    ∙ (ap (λ zs. found_by old.slots.keys (lists_of old.lists.items) zs sheet row col n) is
    ∙ (any_push (λ y. has n (under old.slots.keys (lists_of old.lists.items) (key_at sheet row col y))) old.sizes.items z nothing ∙ sym (finds_by old sheet row col n)))
  where
    nothing : has n (under old.slots.keys (lists_of old.lists.items) (key_at sheet row col z)) ≡ false
    nothing = ap (has n) (get_or_past (lists_of old.lists.items) (place_of old.slots.keys (key_at sheet row col z)) [] (⊎_elim
        (λ (inside : place_of old.slots.keys (key_at sheet row col z) < length old.slots.keys).
        absurd (false≢true (sym fresh ∙ subst (λ k. has_size (key_size k) old.sizes.items ≡ true) (stands_at old.slots.keys (key_at sheet row col z) (key_at sheet row col z) inside) (old.sized (place_of old.slots.keys (key_at sheet row col z)) (key_at sheet row col z) inside))))
        (λ (past : length old.slots.keys ≤ place_of old.slots.keys (key_at sheet row col z)). omega (arith, past, length-map old.lists.items (λ list. list.items), old.counts))
        (cases_lt (place_of old.slots.keys (key_at sheet row col z)) (length old.slots.keys))))

pub sized_more : (keys : List SlotKey) (old new : List Size) (z : Size) → new ≡ old ++ z ∷ [] → AreSized keys old → AreSized keys new
sized_more keys old new z is sized i d inside = subst (λ zs. has_size (key_size (get_or keys i d)) zs ≡ true) (sym is) (in_front (key_size (get_or keys i d)) old z (sized i d inside))
  where
    in_front : (y : Size) (zs : List Size) (z : Size) → has_size y zs ≡ true → has_size y (zs ++ z ∷ []) ≡ true
    in_front y [] z h = absurd (false≢true h)
    in_front y (x ∷ zs) z h = ⊎_elim
        (λ (here : (nat_eq x.row_level y.row_level && nat_eq x.col_level y.col_level) ≡ true). or_left (nat_eq x.row_level y.row_level && nat_eq x.col_level y.col_level) (has_size y (zs ++ z ∷ [])) here)
        (λ (later : has_size y zs ≡ true). or_right (nat_eq x.row_level y.row_level && nat_eq x.col_level y.col_level) (has_size y (zs ++ z ∷ [])) (in_front y zs z later))
        (or_cases (nat_eq x.row_level y.row_level && nat_eq x.col_level y.col_level) (has_size y zs) h)

pub size_last : (old new : List Size) (z : Size) → new ≡ old ++ z ∷ [] → has_size z new ≡ true
size_last old new z is = subst (λ zs. has_size z zs ≡ true) (sym is) (at_end old)
  where
    at_end : (zs : List Size) → has_size z (zs ++ z ∷ []) ≡ true
    at_end [] = grind (arith, nat_tests)
    at_end (x ∷ zs) = or_right (nat_eq x.row_level z.row_level && nat_eq x.col_level z.col_level) (has_size z (zs ++ z ∷ [])) (at_end zs)

-- ---- a slot more

pub slot_more : (old : BlockIndex) (keys : List SlotKey) (lists : List (List ℕ)) (k : SlotKey) → keys ≡ old.slots.keys ++ k ∷ [] → lists ≡ lists_of old.lists.items ++ [] ∷ []
    → (sheet row col n : ℕ) → list_any (λ s. has n (get_or lists s [])) (filter_map (λ y. position (same_key (key_at sheet row col y)) keys) old.sizes.items) ≡ finds old sheet row col n
slot_more old keys lists k is lists_are sheet row col n =
    ap (λ ks. list_any (λ s. has n (get_or lists s [])) (filter_map (λ y. position (same_key (key_at sheet row col y)) ks) old.sizes.items)) is
    ∙ (ap (λ ls. list_any (λ s. has n (get_or ls s [])) (filter_map (λ y. position (same_key (key_at sheet row col y)) (old.slots.keys ++ k ∷ [])) old.sizes.items)) lists_are
    ∙ (by_keys (old.slots.keys ++ k ∷ []) (lists_of old.lists.items ++ [] ∷ []) more sheet row col n old.sizes.items
    ∙ (any_alike (λ z. has n (under (old.slots.keys ++ k ∷ []) (lists_of old.lists.items ++ [] ∷ []) (key_at sheet row col z))) (λ z. has n (under old.slots.keys (lists_of old.lists.items) (key_at sheet row col z))) old.sizes.items
    (λ z. ap (has n) (under-key_more old.slots.keys (lists_of old.lists.items) (length-map old.lists.items (λ list. list.items) ∙ old.counts) k (key_at sheet row col z)))
    ∙ sym (finds_by old sheet row col n))))
  where
    more : length (lists_of old.lists.items ++ [] ∷ []) ≡ length (old.slots.keys ++ k ∷ [])
    more = omega (arith, length_push (lists_of old.lists.items) [], length_push old.slots.keys k, length-map old.lists.items (λ list. list.items), old.counts)

pub sized_key : (old new : List SlotKey) (sizes : List Size) (k : SlotKey) → new ≡ old ++ k ∷ [] → has_size (key_size k) sizes ≡ true → AreSized old sizes → AreSized new sizes
sized_key old new sizes k is here sized i d inside = subst (λ ks. has_size (key_size (get_or ks i d)) sizes ≡ true) (sym is) (⊎_elim
    (λ (front : i < length old). subst (λ l. has_size (key_size l) sizes ≡ true) (sym (get_or_append_left old (k ∷ []) d i front)) (sized i d front))
    (λ (last : length old ≤ i). subst (λ l. has_size (key_size l) sizes ≡ true) (sym (get_or_push old k d i (omega (arith, last, inside, ap length is, length_push old k)))) here)
    (cases_lt i (length old)))

-- where the new key stands
pub new_place : (keys : List SlotKey) (k : SlotKey) → length keys ≡ place_of keys k → length keys ≡ place_of (keys ++ k ∷ []) k
new_place keys k last = sym (position_or_len_push (same_key k) keys k ∙ at_end (place_of keys k) (length keys) (same_key k k) (sym last) (own_key k))
  where
    at_end : (i n : ℕ) (t : Bool) → i ≡ n → t ≡ true → cond (eqb i n) (n + cond t 0 1) i ≡ n
    at_end i n t same own = ap (λ j. cond (eqb i n) (n + cond j 0 1) i) own ∙ either i n same
      where
        either : (i n : ℕ) → i ≡ n → cond (eqb i n) (n + 0) i ≡ n
        either i n same = grind (arith, nat_tests)

    own_key : (k : SlotKey) → same_key k k ≡ true
    own_key k = grind (arith, nat_tests)

-- ---- a number filed under a slot

cell_in : (s : Slot) (row col : ℕ) → has_cell s row col ≡ true → slot_at (size_of s) row col ≡ s
cell_in s row col h =
    let (r, c) = and_parts (has_line s.rows row) (has_line s.cols col) h in
    let rows = line_in s.rows row r in
    let cols = line_in s.cols col c in
    λ i. record { rows = rows i; cols = cols i }
  where
    line_in : (s : Segment) (line : ℕ) → has_line s line ≡ true → segment_at s.level line ≡ s
    line_in s line h = let same = eqb-true (segment_at s.level line).index s.index h in λ i. record { level = s.level; index = same i }

own_cell : (z : Size) (row col : ℕ) → has_cell (slot_at z row col) row col ≡ true
own_cell z row col = and_from (has_line (segment_at z.row_level row) row) (has_line (segment_at z.col_level col) col) (nat_eq_self (segment_at z.row_level row).index) (nat_eq_self (segment_at z.col_level col).index)

abbrev pub slot_of : SlotKey → Slot
slot_of k = record { rows = record { level = k.row_level; index = k.row_index }; cols = record { level = k.col_level; index = k.col_index } }

-- where the key at a cell is a slot's own, the cell lies in the slot
pub in_its_slot : (its : ℕ) (slot : Slot) (sheet row col : ℕ) (z : Size) → key_at sheet row col z ≡ key_of its slot → in_slot its slot sheet row col ≡ true
in_its_slot its slot sheet row col z same = and_from (nat_eq sheet its) (has_cell slot row col)
    (subst (λ n. nat_eq sheet n ≡ true) (ap (λ k. k.sheet) same) (nat_eq_self sheet))
    (subst (λ s. has_cell s row col ≡ true) (ap slot_of same) (own_cell z row col))

module _ (old mid new : BlockIndex) (its : ℕ) (slot : Slot) (n i : ℕ) (alike : FindsAlike old mid) (slots : new.slots ≡ mid.slots) (sizes : new.sizes ≡ mid.sizes)
    (is : i ≡ place_of mid.slots.keys (key_of its slot)) (inside : i < length mid.slots.keys)
    (put : lists_of new.lists.items ≡ set (lists_of mid.lists.items) i (get_or (lists_of mid.lists.items) i [] ++ n ∷ [])) where
  keys : List SlotKey
  keys = mid.slots.keys

  lists : List (List ℕ)
  lists = lists_of mid.lists.items

  counts : length (lists_of mid.lists.items) ≡ length mid.slots.keys
  counts = length-map mid.lists.items (λ list. list.items) ∙ mid.counts

  pub after : (sheet row col m : ℕ) → finds new sheet row col m ≡ found_by mid.slots.keys (set (lists_of mid.lists.items) i (get_or (lists_of mid.lists.items) i [] ++ n ∷ [])) mid.sizes.items sheet row col m
  after sheet row col m =
      finds_by new sheet row col m
      ∙ (ap (λ s. found_by s.keys (lists_of new.lists.items) new.sizes.items sheet row col m) slots
      ∙ (ap (λ z. found_by mid.slots.keys (lists_of new.lists.items) z.items sheet row col m) sizes ∙ ap (λ ls. found_by mid.slots.keys ls mid.sizes.items sheet row col m) put))

  pub filed_grows : (sheet row col m : ℕ) → finds old sheet row col m ≡ true → finds new sheet row col m ≡ true
  filed_grows sheet row col m h =
      after sheet row col m ∙ any_more (λ z. has m (under mid.slots.keys (lists_of mid.lists.items) (key_at sheet row col z))) (λ z. has m (under mid.slots.keys (set (lists_of mid.lists.items) i (get_or (lists_of mid.lists.items) i [] ++ n ∷ [])) (key_at sheet row col z))) mid.sizes.items
      (λ z. set_grows mid.slots.keys (lists_of mid.lists.items) counts i n inside (key_at sheet row col z) m) (sym (finds_by mid sheet row col m) ∙ (alike sheet row col m ∙ h))

  pub filed_only : (sheet row col m : ℕ) → finds new sheet row col m ≡ true → (finds old sheet row col m ≡ true) ⊎ ((in_slot its slot sheet row col ≡ true) × (m ≡ n))
  filed_only sheet row col m h = ⊎_elim
      (λ (before : found_by mid.slots.keys (lists_of mid.lists.items) mid.sizes.items sheet row col m ≡ true). inl (sym (alike sheet row col m) ∙ (finds_by mid sheet row col m ∙ before)))
      (λ (filed : (in_slot its slot sheet row col ≡ true) × (m ≡ n)). inr filed)
      (any_or (λ z. has m (under mid.slots.keys (set (lists_of mid.lists.items) i (get_or (lists_of mid.lists.items) i [] ++ n ∷ [])) (key_at sheet row col z))) (λ z. has m (under mid.slots.keys (lists_of mid.lists.items) (key_at sheet row col z)))
      ((in_slot its slot sheet row col ≡ true) × (m ≡ n)) mid.sizes.items
      (λ z here. ⊎_elim
      (λ (was : has m (under mid.slots.keys (lists_of mid.lists.items) (key_at sheet row col z)) ≡ true). inl was)
      (λ (filed : (place_of mid.slots.keys (key_at sheet row col z) ≡ i) × (m ≡ n)).
      inr (in_its_slot its slot sheet row col z (one_place mid.slots.keys (key_of its slot) (key_at sheet row col z) (subst (λ j. j < length mid.slots.keys) is inside) (filed.0 ∙ is)), filed.1))
      (set_only mid.slots.keys (lists_of mid.lists.items) counts i n inside (key_at sheet row col z) m here))
      (sym (after sheet row col m) ∙ h))

  pub filed_found : has_size (size_of slot) mid.sizes.items ≡ true → (row col : ℕ) → has_cell slot row col ≡ true → finds new its row col n ≡ true
  filed_found size row col here =
      after its row col n ∙ any_size (λ z. has n (under mid.slots.keys (set (lists_of mid.lists.items) i (get_or (lists_of mid.lists.items) i [] ++ n ∷ [])) (key_at its row col z))) mid.sizes.items (size_of slot) size
      (set_has mid.slots.keys (lists_of mid.lists.items) counts i n inside (key_at its row col (size_of slot)) (ap (λ s. place_of mid.slots.keys (key_of its s)) (cell_in slot row col here) ∙ sym is))

-- ---- slots, one after another

pub Files-on : (test : ℕ → ℕ → ℕ → Bool) (n : ℕ) (a b c : BlockIndex) → Files test n a b → Files test n b c → Files test n a c
Files-on test n a b c f g = record {
  grows = λ sheet row col m h. g.grows sheet row col m (f.grows sheet row col m h);
  only = λ sheet row col m h. ⊎_elim (λ (before : finds b sheet row col m ≡ true). f.only sheet row col m before) (λ (filed : (test sheet row col ≡ true) × (m ≡ n)). inr filed) (g.only sheet row col m h);
}

pub Files-to : (test more : ℕ → ℕ → ℕ → Bool) (n : ℕ) (a b : BlockIndex) → ((sheet row col : ℕ) → test sheet row col ≡ true → more sheet row col ≡ true) → Files test n a b → Files more n a b
Files-to test more n a b wider f = record {
  grows = f.grows;
  only = λ sheet row col m h. ⊎_elim (λ (before : finds a sheet row col m ≡ true). inl before) (λ (filed : (test sheet row col ≡ true) × (m ≡ n)). inr (wider sheet row col filed.0, filed.1)) (f.only sheet row col m h);
}

pub Files-none : (test : ℕ → ℕ → ℕ → Bool) (n : ℕ) (a b : BlockIndex) → FindsAlike a b → Files test n a b
Files-none test n a b alike = record { grows = λ sheet row col m h. alike sheet row col m ∙ h; only = λ sheet row col m h. inl (sym (alike sheet row col m) ∙ h) }

-- the slots into which rows by columns of a sheet are cut
module _ (its : ℕ) (rows cols : Range ℕ) (slots : List Slot) (cells : (row col : ℕ) → list_any (λ s. has_cell s row col) slots ≡ in_block rows cols row col) where
  -- a cell of one of the slots is one of the rows by the columns
  pub slot_covered : (i : ℕ) (d : Slot) → i < length slots → (sheet row col : ℕ) → in_slot its (get_or slots i d) sheet row col ≡ true → in_cells its rows cols sheet row col ≡ true
  slot_covered i d inside sheet row col h =
      let (s, cell) = and_parts (nat_eq sheet its) (has_cell (get_or slots i d) row col) h in
      and_from (nat_eq sheet its) (in_block rows cols row col) s (sym (cells row col) ∙ list_any_at (λ x. has_cell x row col) slots i d inside cell)

  -- the cells of the slots gone by find the number, and those of one more
  pub found_more : (old new : BlockIndex) (n i : ℕ) (d : Slot) → i < length slots
      → ((row col : ℕ) → list_any (λ s. has_cell s row col) (take i slots) ≡ true → finds old its row col n ≡ true)
      → Files (in_cells its rows cols) n old new → ((row col : ℕ) → has_cell (get_or slots i d) row col ≡ true → finds new its row col n ≡ true)
      → (row col : ℕ) → list_any (λ s. has_cell s row col) (take (i + 1) slots) ≡ true → finds new its row col n ≡ true
  found_more old new n i d inside before files here row col h = ⊎_elim
      (λ (gone_by : list_any (λ x. has_cell x row col) (take i slots) ≡ true). files.grows its row col n (before row col gone_by))
      (λ (now : has_cell (get_or slots i d) row col ≡ true). here row col now)
      (or_cases (list_any (λ x. has_cell x row col) (take i slots)) (has_cell (get_or slots i d) row col) (sym (list_any_more (λ x. has_cell x row col) slots i d inside) ∙ h))

  -- past the last slot all of them find it
  pub all_found : (x : BlockIndex) (n : ℕ) (gone_by : List Slot) → gone_by ≡ slots
      → ((row col : ℕ) → list_any (λ s. has_cell s row col) gone_by ≡ true → finds x its row col n ≡ true)
      → (row col : ℕ) → in_block rows cols row col ≡ true → finds x its row col n ≡ true
  all_found x n gone_by all before row col h = before row col (ap (λ ss. list_any (λ s. has_cell s row col) ss) all ∙ (cells row col ∙ h))

-- ---- the slots of a cell are slots

slots_inside : (keys : List SlotKey) (sheet row col : ℕ) (sizes : List Size) (s : ℕ) → has s (filter_map (λ z. position (same_key (key_at sheet row col z)) keys) sizes) ≡ true → s < length keys
slots_inside keys sheet row col [] s h = absurd (false≢true h)
slots_inside keys sheet row col (z ∷ sizes) s h = by (nat_lt (place_of keys (key_at sheet row col z)) (length keys)) refl (λ later. slots_inside keys sheet row col sizes s later) h
  where
    below : (i n : ℕ) → nat_lt i n ≡ true → i < n
    below i n h = grind (arith, nat_tests)

    by : (t : Bool) → nat_lt (place_of keys (key_at sheet row col z)) (length keys) ≡ t → (has s (filter_map (λ y. position (same_key (key_at sheet row col y)) keys) sizes) ≡ true → s < length keys)
        → has s (cons_option (cond t (Some (place_of keys (key_at sheet row col z))) None) (filter_map (λ y. position (same_key (key_at sheet row col y)) keys) sizes)) ≡ true → s < length keys
    by false e rest there = rest there
    by true e rest there = ⊎_elim
        (λ (same : place_of keys (key_at sheet row col z) ≡ s). subst (λ n. n < length keys) same (below (place_of keys (key_at sheet row col z)) (length keys) e))
        (λ later. rest later)
        (has_cases s (place_of keys (key_at sheet row col z)) (filter_map (λ y. position (same_key (key_at sheet row col y)) keys) sizes) there)

-- the slots that hold a cell are among those that have a list
pub slots_are_slots : (x : BlockIndex) (sheet row col s : ℕ) → has s (slots_of x sheet row col) ≡ true → s < slot_count x
slots_are_slots x sheet row col s h = slots_inside x.slots.keys sheet row col x.sizes.items s h

-- ---- for those who walk from cells to numbers

-- what is filed under a slot of a cell is found there
pub found_under : (x : BlockIndex) (sheet row col s n : ℕ) → has s (slots_of x sheet row col) ≡ true → has n (filed_in x s) ≡ true → finds x sheet row col n ≡ true
found_under x sheet row col s n slot filed = any_has (λ t. has n (filed_in x t)) (slots_of x sheet row col) s slot filed

-- what is found is filed under a slot of the cell
pub slot_with : (x : BlockIndex) (sheet row col n : ℕ) → finds x sheet row col n ≡ true → (s : ℕ) × (has s (slots_of x sheet row col) ≡ true) × (has n (filed_in x s) ≡ true)
slot_with x sheet row col n found = has_any (λ t. has n (filed_in x t)) (slots_of x sheet row col) found

-- ---- keys that don't stand in a list

pub absent : (keys : List SlotKey) (k : SlotKey) → length keys ≡ place_of keys k → list_any (same_key k) keys ≡ false
absent [] k last = refl
absent (x ∷ keys) k last = by (same_key k x) last (λ rest. absent keys k rest)
  where
    by : (t : Bool) → suc (length keys) ≡ cond (not t) (1 + place_of keys k) 0 → (length keys ≡ place_of keys k → list_any (same_key k) keys ≡ false) → (t || list_any (same_key k) keys) ≡ false
    by true e rest = absurd (omega (arith, e))
    by false e rest = rest (omega (arith, e))

pub place_within : (keys : List SlotKey) (k : SlotKey) → place_of keys k ≤ length keys
place_within [] k = omega arith
place_within (x ∷ keys) k = by (same_key k x) (place_within keys k)
  where
    by : (t : Bool) → place_of keys k ≤ length keys → cond (not t) (1 + place_of keys k) 0 ≤ suc (length keys)
    by true rest = omega arith
    by false rest = omega (arith, rest)

pub none_place : (keys : List SlotKey) (k : SlotKey) → None ≡ position (same_key k) keys → length keys ≡ place_of keys k
none_place keys k none = by (nat_lt (place_of keys k) (length keys)) refl none
  where
    not_below : (i n : ℕ) → nat_lt i n ≡ false → n ≤ i
    not_below i n h = grind (arith, nat_tests)

    by : (t : Bool) → nat_lt (place_of keys k) (length keys) ≡ t → None ≡ cond t (Some (place_of keys k)) None → length keys ≡ place_of keys k
    by true e is = absurd (cc)
    by false e is = omega (arith, not_below (place_of keys k) (length keys) e, place_within keys k)

-- where a key stands that is found, whose size is in use
pub found_size : (x : BlockIndex) (k : SlotKey) (place : ℕ) → Some place ≡ position (same_key k) x.slots.keys → has_size (key_size k) x.sizes.items ≡ true
found_size x k place found = by (nat_lt (place_of x.slots.keys k) (length x.slots.keys)) refl found
  where
    below : (i n : ℕ) → nat_lt i n ≡ true → i < n
    below i n h = grind (arith, nat_tests)

    by : (t : Bool) → nat_lt (place_of x.slots.keys k) (length x.slots.keys) ≡ t → Some place ≡ cond t (Some (place_of x.slots.keys k)) None → has_size (key_size k) x.sizes.items ≡ true
    by true e is =
        let inside : place_of x.slots.keys k < length x.slots.keys = below (place_of x.slots.keys k) (length x.slots.keys) e in
        subst (λ l. has_size (key_size l) x.sizes.items ≡ true) (stands_at x.slots.keys k k inside) (x.sized (place_of x.slots.keys k) k inside)
    by false e is = absurd (cc)

-- ---- by results

pub on_err : {A B : Type 0} (r : Result A B) (P : Type 0) → P → OnErr r P
on_err (Ok _) P p = tt
on_err (Err _) P p = p

pub either_way : {A B : Type 0} (r : Result A B) (P Q F : Type 0) → OnOk r P → OnErr r Q → (P → F) → (Q → F) → F
either_way (Ok _) P Q F ok err f g = f ok
either_way (Err _) P Q F ok err f g = g err

pub on_ok : {A B : Type 0} (r : Result A B) (P F : Type 0) → OnOk r P → (P → F) → OnOk r F
on_ok (Ok _) P F ok f = f ok
on_ok (Err _) P F ok f = tt

-- where all stays, all is found as before
pub alike_same : (old new : BlockIndex) → new.slots ≡ old.slots → new.sizes ≡ old.sizes → lists_of new.lists.items ≡ lists_of old.lists.items → FindsAlike old new
alike_same old new slots sizes lists sheet row col n =
    finds_by new sheet row col n
    ∙ (ap (λ s. found_by s.keys (lists_of new.lists.items) new.sizes.items sheet row col n) slots
    ∙ (ap (λ z. found_by old.slots.keys (lists_of new.lists.items) z.items sheet row col n) sizes ∙ (ap (λ ls. found_by old.slots.keys ls old.sizes.items sheet row col n) lists ∙ sym (finds_by old sheet row col n))))
