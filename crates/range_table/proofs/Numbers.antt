-- Blocks under numbers, and the map that kept summaries stand for. Serves all that looks blocks up.
use Rattle.std.proofs.Common.{◌≡◌, ◌∙◌, sym, ap, refl, subst, arith, ℕ, zero, suc, ◌+◌, ◌<◌, ◌≤◌, ◌⊎◌, inl, inr, ⊎_elim, Bool, true, false, cond, not, List, [], ◌∷◌, ◌++◌, length, get_or, eqb, eqb-true, nat_lt, ◌==◌, Option, Some, None, IsSome, is_some}
use Rattle.std.specs.Prelude.{IsNone, slice_get}
use Rattle.std.specs.Bool.{Decides}
use Rattle.std.specs.FinMap.{empty, find, from_entries, get, get-empty, get-from_entries, get-insert, get-retain_keys, insert, same_map}
use Rattle.std.specs.List.{list_any, position, position_or_len}
use Rattle.std.specs.Option.{IfSome, option_and_then, option_to_list}
use Rattle.std.specs.Ordering.{eq_by_cmp, is_eq}
use Rattle.std.proofs.lemmas.Bool.{and_from, and_parts, cases_lt, eq-eqb, false≢true, ltb-true, or_left, or_right}
use Rattle.std.proofs.lemmas.List.Sums.{passes_at_first}
use Rattle.std.proofs.lemmas.Option.{same_Some}
use Rattle.cell_addr.specs.Place.{IsBlockInside, covers}
use Rattle.cell_addr.specs.declared.place.Block.{Block}
use Rattle.cell_addr.specs.declared.place.Place.{Place}
use Rattle.cell_value.specs.Summary.{IsBounded}
use Rattle.cell_value.specs.declared.summary.Summary.{Summary}
use Rattle.place_lines.specs.Laws.{IsNarrowBlock}
use Rattle.place_lines.specs.Spots.{area_of, block_at}
use Rattle.place_lines.specs.declared.area.LineArea.{LineArea}
use Rattle.place_lines.specs.declared.lines.PlaceLines.{PlaceLines}
use Rattle.place_lines.proofs.Places.{area_returns, block_returns, one_block}
use Rattle.shift_core.proofs.CarriedEntries.{eq_by_cmp-decides}
use Rattle.range_table.specs.Table.{without_holders}
use Rattle.range_table.specs.Blocks.{BlockMap, block_cmp}
use Rattle.range_table.specs.declared.files.Files.{Files}
use Rattle.range_table.specs.declared.state.State.{State}
use Rattle.range_table.specs.declared.state.State.TheVariants.{Found, Kept, Left}
use Rattle.range_table.specs.declared.table.Table.{Table}
use Rattle.range_table.specs.internal.Copied.{with_kept}
use Rattle.range_table.specs.internal.Files.{AreFound, Finds}
use Rattle.range_table.specs.internal.States.{AreOnce, block_under, is_found, same_area, summary_in}
use Rattle.range_table.specs.internal.Tables.{AllStand, AreBounded, IsUnder, KeepsUnder, kept_below, kept_under, known, map_in, paired}
use Rattle.range_table.proofs.Orders.{block_cmp-IsAntisymmetric, block_cmp-IsTotalOrder}

-- ---- areas in lists

pub same_areas : (a b : LineArea) → same_area a b ≡ true → a ≡ b
same_areas a b h =
    let (first, rest) = and_parts (a.sheet == b.sheet) _ h in
    let (second, more) = and_parts (a.top == b.top) _ rest in
    let (third, last) = and_parts (a.left == b.left) _ more in
    let (fourth, fifth) = and_parts (a.bottom == b.bottom) (a.right == b.right) last in
    let sheet = eqb-true a.sheet b.sheet first in
    let top = eqb-true a.top b.top second in
    let left = eqb-true a.left b.left third in
    let bottom = eqb-true a.bottom b.bottom fourth in
    let right = eqb-true a.right b.right fifth in
    λ i. record { sheet = sheet i; top = top i; left = left i; bottom = bottom i; right = right i }

pub own_area : (a : LineArea) → same_area a a ≡ true
own_area a =
    and_from (a.sheet == a.sheet) _ (eq-eqb a.sheet a.sheet refl) (and_from (a.top == a.top) _ (eq-eqb a.top a.top refl)
    (and_from (a.left == a.left) _ (eq-eqb a.left a.left refl) (and_from (a.bottom == a.bottom) (a.right == a.right) (eq-eqb a.bottom a.bottom refl) (eq-eqb a.right a.right refl))))

pub decides_areas : (a b : LineArea) → Decides (same_area a b) (a ≡ b)
decides_areas a b = (same_areas a b, λ same. subst (λ c. same_area a c ≡ true) same (own_area a))

-- what is got is at the place
pub got : (keys : List LineArea) (n : ℕ) (k d : LineArea) → slice_get keys n ≡ Some k → (n < length keys) × (get_or keys n d ≡ k)
got [] n k d e = absurd (none e)
  where
    none : None ≡ Some k → ⊥
    none e = cc
got (x ∷ keys) zero k d e = (omega arith, same_Some x k e)
got (x ∷ keys) (suc n) k d e = let (low, is) = got keys n k d e in (omega (arith, low), is)

pub gets-more : (keys more : List LineArea) (n : ℕ) (k : LineArea) → slice_get keys n ≡ Some k → slice_get (keys ++ more) n ≡ Some k
gets-more [] more n k e = absurd (none e)
  where
    none : None ≡ Some k → ⊥
    none e = cc
gets-more (x ∷ keys) more zero k e = e
gets-more (x ∷ keys) more (suc n) k e = gets-more keys more n k e

pub gets-last : (keys : List LineArea) (k : LineArea) → slice_get (keys ++ k ∷ []) (length keys) ≡ Some k
gets-last [] k = refl
gets-last (x ∷ keys) k = gets-last keys k

-- what stands in a list passes its own test
pub listed : (keys : List LineArea) (n : ℕ) (k : LineArea) → slice_get keys n ≡ Some k → list_any (same_area k) keys ≡ true
listed [] n k e = absurd (none e)
  where
    none : None ≡ Some k → ⊥
    none e = cc
listed (x ∷ keys) zero k e = or_left (same_area k x) (list_any (same_area k) keys) (subst (λ y. same_area k y ≡ true) (sym (same_Some x k e)) (own_area k))
listed (x ∷ keys) (suc n) k e = or_right (same_area k x) (list_any (same_area k) keys) (listed keys n k e)

-- no area has two numbers
pub one_number : (keys : List LineArea) (n m : ℕ) (k : LineArea) → AreOnce keys → slice_get keys n ≡ Some k → slice_get keys m ≡ Some k → n ≡ m
one_number keys n m k once e f =
    let (low, is) = got keys n k k e in
    let (below, same) = got keys m k k f in
    ⊎_elim
    (λ (before : n < m). absurd (once n m k before below (is ∙ sym same)))
    (λ (behind : m ≤ n). ⊎_elim
    (λ (after : m < n). absurd (once m n k after low (same ∙ sym is)))
    (λ (at : n ≤ m). omega (arith, behind, at))
    (cases_lt m n))
    (cases_lt n m)

-- ---- blocks under numbers

pub narrow : (b : Block) → IsBlockInside b → IsNarrowBlock b
narrow b (rows, bottom, cols, right) = ((omega arith, omega arith), (omega arith, omega arith))

pub found_there : (lines : PlaceLines) (keys : List LineArea) (n : ℕ) (b : Block) → block_under lines keys n ≡ Some b → slice_get keys n ≡ Some (area_of lines b)
found_there lines keys n b e = by (slice_get keys n) refl e
  where
    by : (o : Option LineArea) → slice_get keys n ≡ o → option_and_then (block_at lines) o ≡ Some b → slice_get keys n ≡ Some (area_of lines b)
    by None is h = absurd (cc)
    by (Some a) is h = is ∙ ap (λ x. Some x) (sym (area_returns lines a b h))

pub stands_there : (lines : PlaceLines) (keys : List LineArea) (n : ℕ) (b : Block) → IsBlockInside b → slice_get keys n ≡ Some (area_of lines b) → block_under lines keys n ≡ Some b
stands_there lines keys n b inside e = ap (option_and_then (block_at lines)) e ∙ block_returns lines b (narrow b inside)

some_of : {X : Type 0} (o : Option X) → IsSome o → (x : X) × (o ≡ Some x)
some_of None h = absurd (cc)
some_of (Some x) h = (x, refl)

-- a number that is found is that of a block of a sheet, which is found by it
abbrev pub IsKnownBlock : Table → Files → ℕ → Block → Type 0
IsKnownBlock t files n b = IsUnder t n b × IsBlockInside b × Finds files t.lines b n

pub known_block : (t : Table) (files : Files) → AllStand t → AreFound t files → (n : ℕ) → is_found (known t n) ≡ true → (b : Block) × IsKnownBlock t files n b
known_block t files stand found n h =
    let (b, is) = some_of (block_under t.lines t.keys.keys n) (stand n h) in
    let (inside, finds) = found n b h is in
    (b, (found_there t.lines t.keys.keys n b is, inside, finds))

-- so is the block that is there
pub block_found : (t : Table) (files : Files) → AllStand t → AreFound t files → (n : ℕ) (r : Option Block) → is_found (known t n) ≡ true → r ≡ block_under t.lines t.keys.keys n → IfSome r (λ b. IsUnder t n b × IsBlockInside b)
block_found t files stand found n None h is = tt
block_found t files stand found n (Some b) h is = (found_there t.lines t.keys.keys n b (sym is), (found n b h (sym is)).0)

pub block_there : (t : Table) → AllStand t → (n : ℕ) (r : Option Block) → is_found (known t n) ≡ true → r ≡ block_under t.lines t.keys.keys n → IsNone r → ⊥
block_there t stand n r h is none = by r (subst IsSome (sym is) (stand n h)) none
  where
    by : (o : Option Block) → IsSome o → IsNone o → ⊥
    by None some none = false≢true some
    by (Some b) some none = false≢true (sym none)

-- and where each is, all stand and are found
pub all_stand : (t : Table) (files : Files) → ((n : ℕ) → is_found (known t n) ≡ true → (b : Block) × IsKnownBlock t files n b) → AllStand t
all_stand t files each n h = let (b, (under, inside, finds)) = each n h in ap is_some (stands_there t.lines t.keys.keys n b inside under)

pub all_found : (t : Table) (files : Files) → ((n : ℕ) → is_found (known t n) ≡ true → (b : Block) × IsKnownBlock t files n b) → AreFound t files
all_found t files each n b h is =
    let (c, (under, inside, finds)) = each n h in
    let same : c ≡ b = same_Some c b (sym (stands_there t.lines t.keys.keys n c inside under) ∙ is) in
    (subst IsBlockInside same inside, subst (λ x. Finds files t.lines x n) same finds)

pub kept_is_found : (st : State) (x : Summary) → st ≡ Kept x → is_found st ≡ true
kept_is_found st x e = ap is_found e

pub summary_is : (st : State) (x : Summary) → summary_in st ≡ Some x → st ≡ Kept x
summary_is (Kept y) x e = ap (λ z. Kept z) (same_Some y x e)
summary_is Found x e = absurd (cc)
summary_is Left x e = absurd (cc)

paired_parts : (o : Option Block) (q : Option Summary) (b : Block) (x : Summary) → paired o q ≡ Some (b, x) → (o ≡ Some b) × (q ≡ Some x)
paired_parts (Some c) (Some y) b x e = let both = same_Some (c, y) (b, x) e in (ap (λ p. Some p.0) both, ap (λ p. Some p.1) both)
paired_parts (Some c) None b x e = absurd (cc)
paired_parts None q b x e = absurd (cc)

-- what is kept under a number is kept for its block
pub kept_there : (t : Table) (n : ℕ) (b : Block) (x : Summary) → kept_under t n ≡ Some (b, x) → KeepsUnder t n b x
kept_there t n b x e =
    let (o, q) = paired_parts (block_under t.lines t.keys.keys n) (summary_in (known t n)) b x e in
    (found_there t.lines t.keys.keys n b o, summary_is (known t n) x q)

pub is_kept : (t : Table) (files : Files) → AllStand t → AreFound t files → (n : ℕ) (b : Block) (x : Summary) → KeepsUnder t n b x → (kept_under t n ≡ Some (b, x)) × IsBlockInside b
is_kept t files stand found n b x (under, is) =
    let (c, (there, inside, finds)) = known_block t files stand found n (kept_is_found (known t n) x is) in
    let same : c ≡ b = one_block t.lines c b (same_Some (area_of t.lines c) (area_of t.lines b) (sym there ∙ under)) in
    let here : IsBlockInside b = subst IsBlockInside same inside in
    (ap (λ o. paired o (summary_in (known t n))) (stands_there t.lines t.keys.keys n b here under) ∙ ap (λ st. paired (Some b) (summary_in st)) is, here)

-- ---- the map

same_test : (b c : Block) → is_eq (block_cmp b c) ≡ true → b ≡ c
same_test b c h = (eq_by_cmp-decides block_cmp-IsTotalOrder block_cmp-IsAntisymmetric b c).0 h

own_test : (b : Block) → is_eq (block_cmp b b) ≡ true
own_test b = (eq_by_cmp-decides block_cmp-IsTotalOrder block_cmp-IsAntisymmetric b b).1 refl

module _ (t : Table) where
  abbrev IsBelow : ℕ → Block → Summary → Type 0
  IsBelow n b x = (m : ℕ) × (m < n) × (kept_under t m ≡ Some (b, x))

  below_more : (n : ℕ) (b : Block) (x : Summary) → IsBelow n b x → IsBelow (suc n) b x
  below_more n b x (m, low, at) = (m, omega (arith, low), at)

  found_test : (n : ℕ) (b : Block) (x : Summary) (e : Block × Summary) (rest : Option Summary) → kept_under t n ≡ Some e → (rest ≡ Some x → IsBelow n b x)
      → (r : Bool) → is_eq (block_cmp b e.0) ≡ r → cond r (Some e.1) rest ≡ Some x → IsBelow (suc n) b x
  found_test n b x e rest is later true r h = (n, omega arith, is ∙ (λ i. Some (sym (same_test b e.0 r) i, same_Some e.1 x h i)))
  found_test n b x e rest is later false r h = below_more n b x (later h)

  found_by : (n : ℕ) (b : Block) (x : Summary) (es : List (Block × Summary)) → (find block_cmp b es ≡ Some x → IsBelow n b x)
      → (o : Option (Block × Summary)) → kept_under t n ≡ o → find block_cmp b (option_to_list o ++ es) ≡ Some x → IsBelow (suc n) b x
  found_by n b x es later None is h = below_more n b x (later h)
  found_by n b x es later (Some e) is h = found_test n b x e (find block_cmp b es) is later (is_eq (block_cmp b e.0)) refl h

  none_there : (b : Block) (x : Summary) → find block_cmp b [] ≡ Some x → ⊥
  none_there b x e = cc

  found_below : (n : ℕ) (b : Block) (x : Summary) → find block_cmp b (kept_below t n) ≡ Some x → IsBelow n b x
  unfolding kept_below
  found_below zero b x e = absurd (none_there b x e)
  found_below (suc n) b x e = found_by n b x (kept_below t n) (λ h. found_below n b x h) (kept_under t n) refl e

  module _ (one : (m k : ℕ) (b : Block) (x y : Summary) → kept_under t m ≡ Some (b, x) → kept_under t k ≡ Some (b, y) → x ≡ y) where
    finds_test : (n m : ℕ) (b : Block) (x : Summary) (p : Block × Summary) (rest : Option Summary) → kept_under t m ≡ Some (b, x) → kept_under t n ≡ Some p → (((n ≡ m) → ⊥) → rest ≡ Some x)
        → (r : Bool) → is_eq (block_cmp b p.0) ≡ r → cond r (Some p.1) rest ≡ Some x
    finds_test n m b x p rest e is later true r = ap (λ y. Some y) (sym (one m n b x p.1 e (is ∙ (λ i. Some (sym (same_test b p.0 r) i, p.1)))))
    finds_test n m b x p rest e is later false r = later (λ same.
        let both : p ≡ (b, x) = same_Some p (b, x) (sym is ∙ ap (kept_under t) same ∙ e) in
        false≢true (sym r ∙ (ap (λ (q : Block × Summary). is_eq (block_cmp b q.0)) both ∙ own_test b)))

    none_is : (p : Block × Summary) → None ≡ Some p → ⊥
    none_is p e = cc

    finds_by : (n m : ℕ) (b : Block) (x : Summary) (es : List (Block × Summary)) → kept_under t m ≡ Some (b, x) → (((n ≡ m) → ⊥) → find block_cmp b es ≡ Some x)
        → (o : Option (Block × Summary)) → kept_under t n ≡ o → find block_cmp b (option_to_list o ++ es) ≡ Some x
    finds_by n m b x es e later None is = later (λ same. none_is (b, x) (sym is ∙ ap (kept_under t) same ∙ e))
    finds_by n m b x es e later (Some p) is = finds_test n m b x p (find block_cmp b es) e is later (is_eq (block_cmp b p.0)) refl

    finds_below : (n m : ℕ) (b : Block) (x : Summary) → m < n → kept_under t m ≡ Some (b, x) → find block_cmp b (kept_below t n) ≡ Some x
    unfolding kept_below
    finds_below zero m b x low e = absurd (omega (arith, low))
    finds_below (suc n) m b x low e =
        finds_by n m b x (kept_below t n) e
        (λ apart. ⊎_elim
        (λ (below : m < n). finds_below n m b x below e)
        (λ (past : n ≤ m). absurd (apart (omega (arith, past, low))))
        (cases_lt m n))
        (kept_under t n) refl

  -- what the map has for a block is kept under some number
  pub map_has : (b : Block) (x : Summary) → get (map_in t) b ≡ Some x → (n : ℕ) × KeepsUnder t n b x
  map_has b x e =
      let (n, low, at) = found_below (length t.keys.keys) b x (sym (get-from_entries block_cmp-IsTotalOrder (kept_below t (length t.keys.keys)) b) ∙ e) in
      (n, kept_there t n b x at)

  -- and the other way round
  pub has_kept : (files : Files) → AllStand t → AreFound t files → (n : ℕ) (b : Block) (x : Summary) → KeepsUnder t n b x → get (map_in t) b ≡ Some x
  has_kept files stand found n b x kept =
      get-from_entries block_cmp-IsTotalOrder (kept_below t (length t.keys.keys)) b
      ∙ finds_below one (length t.keys.keys) n b x (got t.keys.keys n (area_of t.lines b) (area_of t.lines b) kept.0).0 (is_kept t files stand found n b x kept).0
    where
      one : (m k : ℕ) (b : Block) (x y : Summary) → kept_under t m ≡ Some (b, x) → kept_under t k ≡ Some (b, y) → x ≡ y
      one m k b x y e f =
          let (under, is) = kept_there t m b x e in
          let (there, at) = kept_there t k b y f in
          let same : m ≡ k = one_number t.keys.keys m k (area_of t.lines b) t.once under there in
          same_Some x y (ap summary_in (sym is ∙ ap (known t) same ∙ at))

some_or : {X : Type 0} (o : Option X) → (o ≡ None) ⊎ ((x : X) × (o ≡ Some x))
some_or None = inl refl
some_or (Some x) = inr (x, refl)

-- two that answer the same are the same
pub same_answer : {X : Type 0} (o q : Option X) → ((x : X) → o ≡ Some x → q ≡ Some x) → ((x : X) → q ≡ Some x → o ≡ Some x) → o ≡ q
same_answer None None f g = refl
same_answer None (Some x) f g = g x refl
same_answer (Some x) q f g = sym (f x refl)

pub same_maps : (m n : BlockMap Summary) → ((b : Block) (x : Summary) → get m b ≡ Some x → get n b ≡ Some x) → ((b : Block) (x : Summary) → get n b ≡ Some x → get m b ≡ Some x) → m ≡ n
same_maps m n f g = same_map block_cmp-IsTotalOrder block_cmp-IsAntisymmetric m n (λ b. same_answer (get m b) (get n b) (f b) (g b))

-- ---- copies

pub nothing_below : (t : Table) → empty ≡ from_entries {R = block_cmp} (kept_below t 0)
unfolding kept_below
nothing_below t = refl

pub copied_next : (t : Table) (n : ℕ) (m next : BlockMap Summary) → m ≡ from_entries (kept_below t n) → next ≡ with_kept (kept_under t n) m → next ≡ from_entries (kept_below t (n + 1))
unfolding kept_below
copied_next t n m next is more =
    let one : suc n ≡ n + 1 = omega arith in
    more ∙ ap (with_kept (kept_under t n)) is ∙ by (kept_under t n) (kept_below t n) ∙ below ∙ ap (λ k. from_entries (kept_below t k)) one
  where
    by : (o : Option (Block × Summary)) (es : List (Block × Summary)) → with_kept o (from_entries es) ≡ from_entries {R = block_cmp} (option_to_list o ++ es)
    by None es = refl
    by (Some e) es = refl

    below : from_entries {R = block_cmp} (option_to_list (kept_under t n) ++ kept_below t n) ≡ from_entries (kept_below t (suc n))
    below = refl

-- ---- look-ups

pub stands_at : (keys : List LineArea) (a : LineArea) (r : Option ℕ) → r ≡ position (same_area a) keys → IfSome r (λ n. slice_get keys n ≡ Some a)
stands_at keys a r is = subst (λ o. IfSome o (λ n. slice_get keys n ≡ Some a)) (sym is) (by (nat_lt (position_or_len (same_area a) keys) (length keys)) refl)
  where
    gets : (ks : List LineArea) (n : ℕ) (d : LineArea) → n < length ks → slice_get ks n ≡ Some (get_or ks n d)
    gets [] n d low = absurd (omega (arith, low))
    gets (x ∷ ks) zero d low = refl
    gets (x ∷ ks) (suc n) d low = gets ks n d (omega (arith, low))

    by : (t : Bool) → nat_lt (position_or_len (same_area a) keys) (length keys) ≡ t → IfSome (cond t (Some (position_or_len (same_area a) keys)) None) (λ n. slice_get keys n ≡ Some a)
    by true low =
        let inside : position_or_len (same_area a) keys < length keys = ltb-true (position_or_len (same_area a) keys) (length keys) low in
        gets keys (position_or_len (same_area a) keys) a inside
        ∙ ap (λ x. Some x) (sym (same_areas a (get_or keys (position_or_len (same_area a) keys) a) (passes_at_first (same_area a) keys a inside)))
    by false none = tt

-- what answers as the numbers do is what the map has
pub answers : (t : Table) (files : Files) (b : Block) (r : Option Summary) → AllStand t → AreFound t files → ((x : Summary) → r ≡ Some x → (n : ℕ) × KeepsUnder t n b x) → ((n : ℕ) (x : Summary) → KeepsUnder t n b x → r ≡ Some x)
    → r ≡ get (map_in t) b
answers t files b r stand found f g = same_answer r (get (map_in t) b)
    (λ x is. let (n, keeps) = f x is in has_kept t files stand found n b x keeps)
    (λ x is. let (n, keeps) = map_has t b x is in g n x keeps)

-- the summary of the number of a block
pub its_summary : (t : Table) (files : Files) (b : Block) (n : ℕ) → AllStand t → AreFound t files → IsUnder t n b → summary_in (known t n) ≡ get (map_in t) b
its_summary t files b n stand found under = answers t files b (summary_in (known t n)) stand found
    (λ x is. (n, (under, summary_is (known t n) x is)))
    (λ m x keeps.
    let same : n ≡ m = one_number t.keys.keys n m (area_of t.lines b) t.once under keeps.0 in
    ap (λ k. summary_in (known t k)) same ∙ ap summary_in keeps.1)

-- and of a block without a number
pub no_summary : (t : Table) (files : Files) (b : Block) → AllStand t → AreFound t files → list_any (same_area (area_of t.lines b)) t.keys.keys ≡ false → None ≡ get (map_in t) b
no_summary t files b stand found absent = answers t files b None stand found
    (λ x is. absurd (apart x is))
    (λ m x keeps. absurd (false≢true (sym absent ∙ listed t.keys.keys m (area_of t.lines b) keeps.0)))
  where
    apart : (x : Summary) → None ≡ Some x → ⊥
    apart x e = cc

-- ---- a summary that is put

-- a map that has one summary more
pub inserted_by : (m n : BlockMap Summary) (b : Block) (x : Summary) → get n b ≡ Some x → ((c : Block) → ¬ (c ≡ b) → get n c ≡ get m c) → n ≡ insert m b x
inserted_by m n b x here others = same_map block_cmp-IsTotalOrder block_cmp-IsAntisymmetric n (insert m b x) (λ c. by c (eq_by_cmp block_cmp c b) refl ∙ sym (get-insert block_cmp-IsTotalOrder m b x c))
  where
    by : (c : Block) (t : Bool) → eq_by_cmp block_cmp c b ≡ t → get n c ≡ cond (eq_by_cmp block_cmp c b) (Some x) (get m c)
    by c true e = ap (get n) (same_test c b e) ∙ here ∙ ap (λ t. cond t (Some x) (get m c)) (sym e)
    by c false e = others c (λ same. false≢true (sym e ∙ (ap (λ d. eq_by_cmp block_cmp d b) same ∙ own_test b))) ∙ ap (λ t. cond t (Some x) (get m c)) (sym e)

module _ (old new : Table) (files : Files) (b : Block) (number : ℕ) (x : Summary) (stand : AllStand old) (found : AreFound old files) (inside : IsBlockInside b) (under : IsUnder old number b) (finds : Finds files old.lines b number)
    (lines : new.lines ≡ old.lines) (keys : new.keys.keys ≡ old.keys.keys) (set : (n : ℕ) → known new n ≡ cond (eqb n number) (Kept x) (known old n)) where
  under_put : (n : ℕ) (c : Block) → IsUnder old n c → IsUnder new n c
  under_put n c there = ap (λ ks. slice_get ks n) keys ∙ there ∙ ap (λ l. Some (area_of l c)) (sym lines)

  before_put : (n : ℕ) (c : Block) → IsUnder new n c → IsUnder old n c
  before_put n c there = ap (λ ks. slice_get ks n) (sym keys) ∙ there ∙ ap (λ l. Some (area_of l c)) lines

  each_put : (n : ℕ) → is_found (known new n) ≡ true → (c : Block) × IsKnownBlock new files n c
  each_put n h = by (eqb n number) refl
    where
      by : (t : Bool) → eqb n number ≡ t → (c : Block) × IsKnownBlock new files n c
      by true e =
          let same = eqb-true n number e in
          (b, (under_put n b (subst (λ m. IsUnder old m b) (sym same) under), inside, subst (λ l. Finds files l b n) (sym lines) (subst (Finds files old.lines b) (sym same) finds)))
      by false e =
          let is : known new n ≡ known old n = set n ∙ ap (λ t. cond t (Kept x) (known old n)) e in
          let (c, (there, in_sheet, has_it)) = known_block old files stand found n (subst (λ st. is_found st ≡ true) is h) in
          (c, (under_put n c there, in_sheet, subst (λ l. Finds files l c n) (sym lines) has_it))

  pub stand_put : AllStand new
  stand_put = all_stand new files each_put

  pub found_put : AreFound new files
  found_put = all_found new files each_put

  pub bounded_put : IsBounded x → AreBounded old → AreBounded new
  bounded_put here bounded n y is = by (eqb n number) refl
    where
      by : (t : Bool) → eqb n number ≡ t → IsBounded y
      by true e = let same : Kept x ≡ Kept y = sym (set n ∙ ap (λ t. cond t (Kept x) (known old n)) e) ∙ is in subst IsBounded (one_kept y same) here
        where
          one_kept : (y : Summary) → Kept x ≡ Kept y → x ≡ y
          one_kept y e = cc
      by false e = bounded n y (sym (set n ∙ ap (λ t. cond t (Kept x) (known old n)) e) ∙ is)

  own_number : eqb number number ≡ true
  own_number = eq-eqb number number refl

  other_number : (n : ℕ) (c : Block) → ¬ (c ≡ b) → IsUnder old n c → eqb n number ≡ false
  other_number n c apart there = by (eqb n number) refl
    where
      by : (t : Bool) → eqb n number ≡ t → eqb n number ≡ false
      by true e =
          let same = eqb-true n number e in
          absurd (apart (one_block old.lines c b (same_Some (area_of old.lines c) (area_of old.lines b) (sym there ∙ (ap (slice_get old.keys.keys) same ∙ under)))))
      by false e = e

  pub map_put : map_in new ≡ insert (map_in old) b x
  map_put = inserted_by (map_in old) (map_in new) b x
      (has_kept new files stand_put found_put number b x (under_put number b under, set number ∙ ap (λ t. cond t (Kept x) (known old number)) own_number))
      (λ c apart. same_answer (get (map_in new) c) (get (map_in old) c)
      (λ y e.
      let (n, (there, is)) = map_has new c y e in
      let was = before_put n c there in
      has_kept old files stand found n c y (was, sym (set n ∙ ap (λ t. cond t (Kept x) (known old n)) (other_number n c apart was)) ∙ is))
      (λ y e.
      let (n, (there, is)) = map_has old c y e in
      has_kept new files stand_put found_put n c y (under_put n c there, set n ∙ ap (λ t. cond t (Kept x) (known old n)) (other_number n c apart there) ∙ is)))

-- nothing is kept in a table without numbers
pub nothing_in : (t : Table) → t.keys.keys ≡ [] → map_in t ≡ empty
nothing_in t none = ap (λ ks. from_entries (kept_below t (length ks))) none ∙ sym (nothing_below t)

-- each block for which a summary is kept is one of a sheet
pub map_inside : (t : Table) (files : Files) → AllStand t → AreFound t files → (b : Block) → IsSome (get (map_in t) b) → IsBlockInside b
map_inside t files stand found b some =
    let (x, is) = some_of (get (map_in t) b) some in
    let (n, keeps) = map_has t b x is in (is_kept t files stand found n b x keeps).1

there_or : {X : Type 0} (t : Bool) (x : X) (r : Option X) → (t ≡ true → r ≡ Some x) → cond t (Some x) r ≡ r
there_or true x r h = sym (h refl)
there_or false x r h = refl

-- a summary put where it is changes nothing
pub insert-there : (m : BlockMap Summary) (b : Block) (x : Summary) → get m b ≡ Some x → insert m b x ≡ m
insert-there m b x h = same_map block_cmp-IsTotalOrder block_cmp-IsAntisymmetric _ _ (λ c.
    get-insert block_cmp-IsTotalOrder m b x c
    ∙ there_or (eq_by_cmp block_cmp c b) x (get m c) (λ t. ap (get m) (same_test c b t) ∙ h))

-- where nothing is kept, nothing is given up
pub nothing_touched : (p : Place) → empty ≡ without_holders p empty
nothing_touched p = same_maps empty (without_holders p empty)
    (λ b x e. absurd (apart x (sym (get-empty block_cmp b) ∙ e)))
    (λ b x e. absurd (apart x (sym (by (not (covers b p))) ∙ (ap (λ r. cond (not (covers b p)) r None) (sym (get-empty block_cmp b)) ∙ (sym (get-retain_keys empty (λ c. not (covers c p)) b (λ y tied. ap (λ c. not (covers c p)) (sym (block_cmp-IsAntisymmetric b y tied)))) ∙ e)))))
  where
    the_none : Option Summary
    the_none = None

    apart : (x : Summary) → None ≡ Some x → ⊥
    apart x e = cc

    by : (t : Bool) → cond t (the_none) the_none ≡ the_none
    by true = refl
    by false = refl
