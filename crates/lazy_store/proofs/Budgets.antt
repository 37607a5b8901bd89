-- A pass over formulas that takes those that lag behind a position to it within a budget. Serves the call that catches up.
use Rattle.std.proofs.Common.{◌≡◌, ◌≢◌, ◌∙◌, sym, ap, refl, subst, arith, ℕ, zero, suc, ◌+◌, ◌-◌, ◌<◌, ◌≤◌, ◌⊎◌, inl, inr, Bool, true, false, true≢false, is_some, nat_eq, List, [], ◌∷◌, length, take, get_or, slice_get, Option, Some, None, option_and_then, option_map, unwrap_or}
use Rattle.std.proofs.lemmas.Bool.{cases_eq, cases_lt}
use Rattle.std.proofs.lemmas.Bool.Decides.{Decides-eqb}
use Rattle.std.proofs.lemmas.List.{take_all}
use Rattle.std.proofs.lemmas.List.Sums.{sum_by-cons, sum_by_more}
use Rattle.std.proofs.lemmas.Map.Made.{AllPairs-from_IsDistinct}
use Rattle.std.proofs.lemmas.Option.{get_or_from_slice_get, none-some, same_Some, slice_get-get_or, slice_get_within}
use Rattle.std.specs.HashMap as hash
use Rattle.std.specs.HashMap.{HashMap}
use Rattle.std.specs.List.{IsDistinct, sum_by}
use Rattle.shift_line.specs.Track.{Track}
use Rattle.lazy_store.specs.Holders.{kept_of, kept_under}
use Rattle.lazy_store.specs.Kept.{Kept, Lags, at}
use Rattle.lazy_store.specs.Standing.{Standing}
use Rattle.lazy_store.specs.declared.holder.Holder.{Holder}
use Rattle.lazy_store.specs.internal.Passes.{HasPassed, IsShort, gone_from}
use Rattle.lazy_store.specs.internal.Sweeps.{Brings}
use Rattle.lazy_store.proofs.Tables.{key-place, mapped-some}

-- an id stands at one place of distinct ones
one-place : (ids : List ℕ) → IsDistinct nat_eq ids → (i j id : ℕ) → slice_get ids i ≡ Some id → slice_get ids j ≡ Some id → i ≡ j
one-place ids distinct i j id here there = by (cases_lt i j) (cases_lt j i)
  where
    apart : (a b : ℕ) → slice_get ids a ≡ Some id → slice_get ids b ≡ Some id → a < b → ⊥
    apart a b at_a at_b less = AllPairs-from_IsDistinct Decides-eqb ids distinct a b 0 less (slice_get_within ids b id at_b) (get_or_from_slice_get ids a id 0 at_a ∙ sym (get_or_from_slice_get ids b id 0 at_b))

    by : (i < j) ⊎ (j ≤ i) → (j < i) ⊎ (i ≤ j) → i ≡ j
    by (inl less) any = absurd (apart i j here there less)
    by (inr to) (inl less) = absurd (apart j i there here less)
    by (inr to) (inr from) = omega (arith, to, from)

-- sums over the first of a list agree where the terms do
sums-agree : (f g : ℕ → ℕ) (xs : List ℕ) (n : ℕ) → ((i x : ℕ) → i < n → slice_get xs i ≡ Some x → f x ≡ g x) → sum_by f (take n xs) ≡ sum_by g (take n xs)
sums-agree f g xs zero same = refl
sums-agree f g [] (suc n) same = refl
sums-agree f g (x ∷ xs) (suc n) same =
    sum_by-cons f x (take n xs) ∙ ap (λ a. a + sum_by f (take n xs)) (same 0 x (omega arith) refl) ∙ ap (λ a. g x + a) (sums-agree f g xs n (λ i y under key. same (suc i) y (omega (arith, under)) key)) ∙ sym (sum_by-cons g x (take n xs))

-- and one more term
sum-more : (f : ℕ → ℕ) (xs : List ℕ) (n x : ℕ) → slice_get xs n ≡ Some x → sum_by f (take (n + 1) xs) ≡ sum_by f (take n xs) + f x
sum-more f xs n x key = sum_by_more f xs n 0 (slice_get_within xs n x key) ∙ ap (λ y. sum_by f (take n xs) + f y) (get_or_from_slice_get xs n x 0 key)

-- what is kept as it was didn't go on
none-gone : (first now : ℕ → Option Kept) (id : ℕ) → now id ≡ first id → gone_from first now id ≡ 0
none-gone first now id same = ap (λ o. unwrap_or (option_map (λ h. h.position) o) 0 - unwrap_or (option_map (λ h. h.position) (first id)) 0) same ∙ self (unwrap_or (option_map (λ h. h.position) (first id)) 0)
  where
    self : (n : ℕ) → n - n ≡ 0
    self n = omega arith

-- what went on is as far ahead as the positions are apart
is-gone : (first now : ℕ → Option Kept) (id : ℕ) (h g : Kept) → first id ≡ Some h → now id ≡ Some g → gone_from first now id ≡ g.position - h.position
is-gone first now id h g was is = ap (λ o. unwrap_or (option_map (λ k. k.position) o) 0 - unwrap_or (option_map (λ k. k.position) (first id)) 0) is ∙ ap (λ o. g.position - unwrap_or (option_map (λ k. k.position) o) 0) was

-- a formula without a standing at the position doesn't lag, and one with a standing is there
pub none-lags : (line : Track) (k : ℕ) (o : Option Kept) → is_some (option_and_then (λ h. at line h k) o) ≡ false → (h : Kept) → o ≡ Some h → ¬ Lags line k h
none-lags line k o none h is lags = by (at line h k) refl
  where
    here : is_some (at line h k) ≡ false
    here = sym (ap (λ p. is_some (option_and_then (λ g. at line g k) p)) is) ∙ none

    by : (x : Option Standing) → at line h k ≡ x → ⊥
    by None e = lags.there e
    by (Some x) e = true≢false (sym (ap is_some e) ∙ here)

pub one-stands : (line : Track) (k : ℕ) (o : Option Kept) → is_some (option_and_then (λ h. at line h k) o) ≡ true → (h : Kept) × (o ≡ Some h) × (at line h k ≢ None)
one-stands line k None some = absurd (true≢false (sym some))
one-stands line k (Some h) some = (h, refl, λ none. true≢false (sym some ∙ ap is_some none))

-- what is found in a table stands at a place of its keys
pub known-in : {S : Type 0} (m : HashMap ℕ Holder S) (id : ℕ) (h : Kept) → kept_under m id ≡ Some h → (i : ℕ) × (i < length (hash.keys m)) × (slice_get (hash.keys m) i ≡ Some id)
known-in m id h is =
    let (x, found, same) = mapped-some kept_of (hash.get nat_eq m id) h is in
    let (i, under, key) = key-place m.entries id x found in
    (i, slice_get_within (hash.keys m) i id key, key)

-- formulas that lag no more are kept as they were, over two steps
pub others-on : (line : Track) (k : ℕ) (first mid last : ℕ → Option Kept) → ((id : ℕ) (h : Kept) → first id ≡ Some h → ¬ Lags line k h → mid id ≡ Some h) → ((id : ℕ) (h : Kept) → mid id ≡ Some h → ¬ Lags line k h → last id ≡ Some h)
    → (id : ℕ) (h : Kept) → first id ≡ Some h → ¬ Lags line k h → last id ≡ Some h
others-on line k first mid last one two id h is up = two id h (one id h is up) up

-- a formula that lagged went along the line, and no other one
pub others-brought : {S : Type 0} (line : Track) (k id : ℕ) (old new : HashMap ℕ Holder S) → ((h : Kept) → kept_under old id ≡ Some h → Lags line k h) → Brings line id old new → (other : ℕ) (h : Kept) → kept_under old other ≡ Some h → ¬ Lags line k h → kept_under new other ≡ Some h
others-brought line k id old new lagged brought other h is up = by (cases_eq other id)
  where
    by : (other ≡ id) ⊎ (other ≡ id → ⊥) → kept_under new other ≡ Some h
    by (inl e) = absurd (up (lagged h (ap (kept_under old) (sym e) ∙ is)))
    by (inr ne) = brought.others other ne ∙ is

module _ (line : Track) (k : ℕ) (ids : List ℕ) (budget : ℕ) where
  pub pass-starts : (first : ℕ → Option Kept) → HasPassed line k ids budget 0 budget true first first
  pass-starts first = record {
    placed = λ id h is. inl is;
    ahead = λ i id from key. refl;
    spent = omega arith;
    short = λ i id h under. absurd (omega (arith, under));
    none = λ sure i id h under. absurd (omega (arith, under));
    one = λ unsure. absurd (true≢false unsure);
  }

  module _ (distinct : IsDistinct nat_eq ids) (index left : ℕ) (all : Bool) (first now : ℕ → Option Kept) (id : ℕ) (here : slice_get ids index ≡ Some id) (passed : HasPassed line k ids budget index left all first now) where
    -- a place that isn't behind the index is that of this id, or before
    at-or-before : (i other : ℕ) → i < index + 1 → slice_get ids i ≡ Some other → (other ≡ id) ⊎ (i < index)
    at-or-before i other under key = by (cases_lt i index)
      where
        by : (i < index) ⊎ (index ≤ i) → (other ≡ id) ⊎ (i < index)
        by (inl before) = inr before
        by (inr from) = let same : i ≡ index = omega (arith, under, from) in inl (same_Some other id (sym key ∙ ap (slice_get ids) same ∙ here))

    unspent : sum_by (gone_from first now) (take (index + 1) ids) + left ≡ budget
    unspent =
        let more = sum-more (gone_from first now) ids index id here in
        let none = none-gone first now id (passed.ahead index id (omega arith) here) in
        let before = passed.spent in
        omega (arith, more, none, before)

    -- a formula stays: it doesn't lag, or is short, and then it may be told so
    pub pass-stays : (next : Bool) → ((h : Kept) → now id ≡ Some h → Lags line k h → left < k - h.position) → (next ≡ true → (all ≡ true) × ((h : Kept) → now id ≡ Some h → ¬ Lags line k h))
        → (next ≡ false → (all ≡ false) ⊎ ((h : Kept) × (now id ≡ Some h) × Lags line k h)) → HasPassed line k ids budget (index + 1) left next first now
    pass-stays next short sure unsure = record {
      placed = passed.placed;
      ahead = λ i other from. passed.ahead i other (omega (arith, from));
      spent = unspent;
      short = λ i other h under key is lags. shorts i other h key is lags (at-or-before i other under key);
      none = λ told i other h under key is lags. nones told i other h key is lags (at-or-before i other under key);
      one = λ told. ones (unsure told);
    }
      where
        shorts : (i other : ℕ) (h : Kept) → slice_get ids i ≡ Some other → now other ≡ Some h → Lags line k h → (other ≡ id) ⊎ (i < index) → left < k - h.position
        shorts i other h key is lags (inl e) = short h (ap now (sym e) ∙ is) lags
        shorts i other h key is lags (inr before) = passed.short i other h before key is lags

        nones : next ≡ true → (i other : ℕ) (h : Kept) → slice_get ids i ≡ Some other → now other ≡ Some h → Lags line k h → (other ≡ id) ⊎ (i < index) → ⊥
        nones told i other h key is lags (inl e) = (sure told).1 h (ap now (sym e) ∙ is) lags
        nones told i other h key is lags (inr before) = passed.none (sure told).0 i other h before key is lags

        ones : (all ≡ false) ⊎ ((h : Kept) × (now id ≡ Some h) × Lags line k h) → (other : ℕ) × (h : Kept) × (now other ≡ Some h) × IsShort line k left h
        ones (inl was) = passed.one was
        ones (inr (h, is, lags)) = (id, h, is, record { lags = lags; more = short h is lags })

    -- a formula that lagged is taken to the position
    pub pass-takes : (new : ℕ → Option Kept) (h g : Kept) → now id ≡ Some h → h.position < k → k - h.position ≤ left → new id ≡ Some g → g.position ≡ k → ((other : ℕ) → other ≢ id → new other ≡ now other)
        → HasPassed line k ids budget (index + 1) (left - (k - h.position)) all first new
    pass-takes new h g was below room is there others = record {
      placed = λ other x kept. placed other x kept (cases_eq other id);
      ahead = λ i other from key. ahead i other from key (cases_eq other id);
      spent = spent;
      short = λ i other x under key kept lags. short i other x key kept lags (at-or-before i other under key) (cases_eq other id);
      none = λ told i other x under key kept lags. none told i other x key kept lags (at-or-before i other under key) (cases_eq other id);
      one = λ told. one (passed.one told);
    }
      where
        -- it lags no more
        at_it : (other : ℕ) (x : Kept) → other ≡ id → new other ≡ Some x → x.position ≡ k
        at_it other x e kept = ap (λ z. z.position) (same_Some x g (sym kept ∙ ap new e ∙ is)) ∙ there

        no-more : (other : ℕ) (x : Kept) → other ≡ id → new other ≡ Some x → Lags line k x → ⊥
        no-more other x e kept lags = let place = at_it other x e kept in let under = lags.before in absurd (omega (arith, place, under))

        placed : (other : ℕ) (x : Kept) → new other ≡ Some x → (other ≡ id) ⊎ (other ≡ id → ⊥) → (first other ≡ Some x) ⊎ (x.position ≡ k)
        placed other x kept (inl e) = inr (at_it other x e kept)
        placed other x kept (inr ne) = passed.placed other x (sym (others other ne) ∙ kept)

        ahead : (i other : ℕ) → index + 1 ≤ i → slice_get ids i ≡ Some other → (other ≡ id) ⊎ (other ≡ id → ⊥) → new other ≡ first other
        ahead i other from key (inl e) = let same = one-place ids distinct i index id (key ∙ ap (λ x. Some x) e) here in absurd (omega (arith, same, from))
        ahead i other from key (inr ne) = others other ne ∙ passed.ahead i other (omega (arith, from)) key

        spent : sum_by (gone_from first new) (take (index + 1) ids) + (left - (k - h.position)) ≡ budget
        spent =
            let more = sum-more (gone_from first new) ids index id here in
            let same = sums-agree (gone_from first new) (gone_from first now) ids index (λ i other under key. by i other under key (cases_eq other id)) in
            let gone = is-gone first new id h g (sym (passed.ahead index id (omega arith) here) ∙ was) is in
            let before = passed.spent in
            omega (arith, more, same, gone, before, there, room, below)
          where
            by : (i other : ℕ) → i < index → slice_get ids i ≡ Some other → (other ≡ id) ⊎ (other ≡ id → ⊥) → gone_from first new other ≡ gone_from first now other
            by i other under key (inl e) = let same = one-place ids distinct i index id (key ∙ ap (λ x. Some x) e) here in absurd (omega (arith, same, under))
            by i other under key (inr ne) = ap (λ o. unwrap_or (option_map (λ z. z.position) o) 0 - unwrap_or (option_map (λ z. z.position) (first other)) 0) (others other ne)

        short : (i other : ℕ) (x : Kept) → slice_get ids i ≡ Some other → new other ≡ Some x → Lags line k x → (other ≡ id) ⊎ (i < index) → (other ≡ id) ⊎ (other ≡ id → ⊥) → left - (k - h.position) < k - x.position
        short i other x key kept lags any (inl e) = absurd (no-more other x e kept lags)
        short i other x key kept lags (inl e) (inr ne) = absurd (ne e)
        short i other x key kept lags (inr before) (inr ne) = let less = passed.short i other x before key (sym (others other ne) ∙ kept) lags in omega (arith, less)

        none : all ≡ true → (i other : ℕ) (x : Kept) → slice_get ids i ≡ Some other → new other ≡ Some x → Lags line k x → (other ≡ id) ⊎ (i < index) → (other ≡ id) ⊎ (other ≡ id → ⊥) → ⊥
        none told i other x key kept lags any (inl e) = no-more other x e kept lags
        none told i other x key kept lags (inl e) (inr ne) = ne e
        none told i other x key kept lags (inr before) (inr ne) = passed.none told i other x before key (sym (others other ne) ∙ kept) lags

        one : (other : ℕ) × (x : Kept) × (now other ≡ Some x) × IsShort line k left x → (other : ℕ) × (x : Kept) × (new other ≡ Some x) × IsShort line k (left - (k - h.position)) x
        one (other, x, kept, lacks) = by (cases_eq other id)
          where
            by : (other ≡ id) ⊎ (other ≡ id → ⊥) → (other : ℕ) × (x : Kept) × (new other ≡ Some x) × IsShort line k (left - (k - h.position)) x
            by (inl e) =
                let same : x.position ≡ h.position = ap (λ z. z.position) (same_Some x h (sym kept ∙ ap now e ∙ was)) in
                let less = lacks.more in
                absurd (omega (arith, same, less, room))
            by (inr ne) = let less = lacks.more in (other, x, others other ne ∙ kept, record { lags = lacks.lags; more = omega (arith, less) })

  -- where there is no id at the index
  pub pass-ends : (index left : ℕ) (all : Bool) (first now : ℕ → Option Kept) → slice_get ids index ≡ None → HasPassed line k ids budget index left all first now → HasPassed line k ids budget (index + 1) left all first now
  pass-ends index left all first now gone passed = record {
    placed = passed.placed;
    ahead = λ i other from. passed.ahead i other (omega (arith, from));
    spent = ap (λ xs. sum_by (gone_from first now) xs + left) (take_all (index + 1) ids (omega (arith, whole)) ∙ sym (take_all index ids whole)) ∙ passed.spent;
    short = λ i other h under key. passed.short i other h (before i other under key) key;
    none = λ told i other h under key. passed.none told i other h (before i other under key) key;
    one = passed.one;
  }
    where
      whole : length ids ≤ index
      whole = by (cases_lt index (length ids))
        where
          by : (index < length ids) ⊎ (length ids ≤ index) → length ids ≤ index
          by (inl under) = absurd (none-some (get_or ids index 0) (sym gone ∙ slice_get-get_or ids index 0 under))
          by (inr from) = from

      before : (i other : ℕ) → i < index + 1 → slice_get ids i ≡ Some other → i < index
      before i other under key = let within = slice_get_within ids i other key in omega (arith, within, whole)

  -- in tables: a formula that doesn't lag, or none, at the index
  pub pass-up : (distinct : IsDistinct nat_eq ids) (index left : ℕ) (all : Bool) (first now : ℕ → Option Kept) → ((id : ℕ) (h : Kept) → slice_get ids index ≡ Some id → now id ≡ Some h → ¬ Lags line k h)
      → HasPassed line k ids budget index left all first now → HasPassed line k ids budget (index + 1) left all first now
  pass-up distinct index left all first now up passed = by (slice_get ids index) refl
    where
      by : (o : Option ℕ) → slice_get ids index ≡ o → HasPassed line k ids budget (index + 1) left all first now
      by None e = pass-ends index left all first now e passed
      by (Some id) e = pass-stays distinct index left all first now id e passed all (λ h is lags. absurd (up id h e is lags)) (λ sure. (sure, λ h is. up id h e is)) (λ unsure. inl unsure)

  -- a formula that lagged was taken to the position
  pub pass-brought : {S : Type 0} (distinct : IsDistinct nat_eq ids) (index left : ℕ) (all : Bool) (first : ℕ → Option Kept) (old new : HashMap ℕ Holder S) (id before : ℕ) (h : Kept) → slice_get ids index ≡ Some id → kept_under old id ≡ Some h → h.position < k → before ≡ k - h.position → before ≤ left
      → Brings line id old new → ((g : Kept) → kept_under new id ≡ Some g → g.position ≡ k) → HasPassed line k ids budget index left all first (kept_under old) → HasPassed line k ids budget (index + 1) (left - before) all first (kept_under new)
  pass-brought distinct index left all first old new id before h here was below far room brought there passed = by (kept_under new id) refl
    where
      by : (o : Option Kept) → kept_under new id ≡ o → HasPassed line k ids budget (index + 1) (left - before) all first (kept_under new)
      by None e = absurd (none-some h.live (sym (ap (option_map (λ g. g.live)) e) ∙ brought.along.live id ∙ ap (option_map (λ g. g.live)) was))
      by (Some g) e =
          subst (λ (n : ℕ). HasPassed line k ids budget (index + 1) (left - n) all first (kept_under new)) (sym far)
          (pass-takes distinct index left all first (kept_under old) id here passed (kept_under new) h g was below (omega (arith, room, far)) e (there g e) brought.others)

  -- once the pass went by all ids
  module _ (index left : ℕ) (all : Bool) (first now : ℕ → Option Kept) (passed : HasPassed line k ids budget index left all first now) (whole : length ids ≤ index) where
    whole-sum : sum_by (gone_from first now) ids + left ≡ budget
    whole-sum = subst (λ (xs : List ℕ). sum_by (gone_from first now) xs + left ≡ budget) (take_all index ids whole) passed.spent

    pub spent-most : sum_by (gone_from first now) ids ≤ budget
    spent-most = let spent = whole-sum in omega (arith, spent)

    module _ (known : (id : ℕ) (h : Kept) → now id ≡ Some h → (i : ℕ) × (i < length ids) × (slice_get ids i ≡ Some id)) where
      pub still-short : (id : ℕ) (h : Kept) → now id ≡ Some h → Lags line k h → budget < sum_by (gone_from first now) ids + (k - h.position)
      still-short id h is lags =
          let (i, under, key) = known id h is in
          let less = passed.short i id h (omega (arith, under, whole)) key is lags in
          let spent = whole-sum in
          omega (arith, less, spent)

      pub none-left : (all ≡ true → (id : ℕ) (h : Kept) → now id ≡ Some h → Lags line k h → ⊥) × (((id : ℕ) (h : Kept) → now id ≡ Some h → Lags line k h → ⊥) → all ≡ true)
      none-left = (λ sure id h is lags. let (i, under, key) = known id h is in passed.none sure i id h (omega (arith, under, whole)) key is lags, λ up. by all refl up)
        where
          by : (b : Bool) → all ≡ b → ((id : ℕ) (h : Kept) → now id ≡ Some h → Lags line k h → ⊥) → all ≡ true
          by true e up = e
          by false e up = let (id, h, is, lacks) = passed.one e in absurd (up id h is lacks.lags)
