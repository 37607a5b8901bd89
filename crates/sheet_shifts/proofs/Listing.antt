-- A list of what is picked from a run, taken apart at an index, and grown by an operation. Serves the making of lists and
-- their search.
use Rattle.std.proofs.Common.{◌≡◌, ◌∙◌, sym, ap, refl, arith, ℕ, zero, suc, ◌+◌, ◌-◌, ◌<◌, ◌≤◌, ◌⊎◌, inl, inr, Bool, true, false, List, [], ◌∷◌, ◌++◌, length, get_or, take, drop, nat_lt, Option, Some, None}
use Rattle.std.proofs.lemmas.Bool.{cases_lt}
use Rattle.std.proofs.lemmas.Bool.Decides.{nat_tests}
use Rattle.std.proofs.lemmas.List.{drop_all, length-take-le, take_all, take_more}
use Rattle.std.specs.List.{AllWithin}
use Rattle.std.specs.List.Sorted.{IsPartitionedBy}
use Rattle.std.specs.BTreeMap.{BTreeMap}
use Rattle.std.specs.Global.{Global}
use Rattle.std.specs.Option.{option_map_or}
use Rattle.std.specs.Prelude.{Vec}
use Rattle.shift_core.specs.declared.shift.Shift.{Shift}
use Rattle.sheet_shifts.specs.Listed.{ArePicked, list_in, listed, longer}
use Rattle.sheet_shifts.specs.declared.entry.Entry.{Entry}

-- what is picked from an operation, at its index
abbrev pub entry : {X : Type 0} → ℕ → X → Entry X
entry i x = record { index = i; what = x }

-- in front of those behind it, where something is picked
abbrev pub in_front : {X : Type 0} → ℕ → Option X → List (Entry X) → List (Entry X)
in_front i picked rest = option_map_or (λ x. entry i x ∷ rest) picked rest

module _ {X : Type 0} where
  -- ---- one operation more

  one-more : (i : ℕ) (o : Option X) → in_front i o [] ≡ longer [] (i + 0) o
  one-more i (Some x) = let e : i ≡ i + 0 = omega arith in ap (λ k. entry k x ∷ []) e
  one-more i None = refl

  some-more : (i n : ℕ) (old new : List (Entry X)) (m o : Option X) → new ≡ longer old (i + 1 + n) o → in_front i m new ≡ longer (in_front i m old) (i + suc n) o
  some-more i n old new (Some z) (Some x) e = let at : i + 1 + n ≡ i + suc n = omega arith in ap (λ r. entry i z ∷ r) (e ∙ ap (λ j. old ++ entry j x ∷ []) at)
  some-more i n old new (Some z) None e = ap (λ r. entry i z ∷ r) e
  some-more i n old new None (Some x) e = let at : i + 1 + n ≡ i + suc n = omega arith in e ∙ ap (λ j. old ++ entry j x ∷ []) at
  some-more i n old new None None e = e

  listed-more : (pick : Shift → Option X) (i : ℕ) (run : List Shift) (s : Shift) → listed pick i (run ++ s ∷ []) ≡ longer (listed pick i run) (i + length run) (pick s)
  listed-more pick i [] s = one-more i (pick s)
  listed-more pick i (z ∷ run) s = some-more i (length run) (listed pick (i + 1) run) (listed pick (i + 1) (run ++ s ∷ [])) (pick z) (pick s) (listed-more pick (i + 1) run s)

  pub listed-next : (pick : Shift → Option X) (run : List Shift) (i : ℕ) (d : Shift) → i < length run → listed pick 0 (take (i + 1) run) ≡ longer (listed pick 0 (take i run)) i (pick (get_or run i d))
  listed-next pick run i d within =
      let s = get_or run i d in
      let short = length-take-le i run (omega (arith, within)) in
      let at : 0 + length (take i run) ≡ i = omega (arith, short) in
      ap (listed pick 0) (take_more run i d within) ∙ listed-more pick 0 (take i run) s ∙ ap (λ k. longer (listed pick 0 (take i run)) k (pick s)) at

  -- ---- indices

  least-in : (i : ℕ) (rest : List (Entry X)) (d : Entry X) → ((j : ℕ) → j < length rest → i + 1 ≤ (get_or rest j d).index) → (o : Option X) (j : ℕ) → j < length (in_front i o rest) → i ≤ (get_or (in_front i o rest) j d).index
  least-in i rest d each (Some x) zero low = omega arith
  least-in i rest d each (Some x) (suc j) low = let e = each j (omega (arith, low)) in omega (arith, e)
  least-in i rest d each None j low = let e = each j low in omega (arith, e)

  pub from-least : (pick : Shift → Option X) (run : List Shift) (i j : ℕ) (d : Entry X) → j < length (listed pick i run) → i ≤ (get_or (listed pick i run) j d).index
  from-least pick [] i j d within = absurd (omega (arith, within))
  from-least pick (s ∷ run) i j d within = least-in i (listed pick (i + 1) run) d (λ k low. from-least pick run (i + 1) k d low) (pick s) j within

  rising-in : (i : ℕ) (rest : List (Entry X)) (d : Entry X) → ((j : ℕ) → j < length rest → i + 1 ≤ (get_or rest j d).index) → ((j k : ℕ) → j ≤ k → k < length rest → (get_or rest j d).index ≤ (get_or rest k d).index)
      → (o : Option X) (j k : ℕ) → j ≤ k → k < length (in_front i o rest) → (get_or (in_front i o rest) j d).index ≤ (get_or (in_front i o rest) k d).index
  rising-in i rest d least each (Some x) zero zero up low = omega arith
  rising-in i rest d least each (Some x) zero (suc k) up low = let e = least k (omega (arith, low)) in omega (arith, e)
  rising-in i rest d least each (Some x) (suc j) zero up low = absurd (omega (arith, up))
  rising-in i rest d least each (Some x) (suc j) (suc k) up low = each j k (omega (arith, up)) (omega (arith, low))
  rising-in i rest d least each None j k up low = each j k up low

  rising : (pick : Shift → Option X) (run : List Shift) (i j k : ℕ) (d : Entry X) → j ≤ k → k < length (listed pick i run) → (get_or (listed pick i run) j d).index ≤ (get_or (listed pick i run) k d).index
  rising pick [] i j k d up within = absurd (omega (arith, within))
  rising pick (s ∷ run) i j k d up within = rising-in i (listed pick (i + 1) run) d (λ a low. from-least pick run (i + 1) a d low) (λ a b le low. rising pick run (i + 1) a b d le low) (pick s) j k up within

-- whether it stands before an index
abbrev pub is_before : {X : Type 0} → ℕ → Entry X → Bool
is_before from e = nat_lt e.index from

still-before : (a b from : ℕ) → a ≤ b → nat_lt b from ≡ true → nat_lt a from ≡ true
still-before a b from le low = grind (arith, nat_tests)

pub is-parted : {X : Type 0} (pick : Shift → Option X) (from : ℕ) (run : List Shift) → IsPartitionedBy (is_before from) (listed pick 0 run)
is-parted pick from run = λ i j d up within low. still-before (get_or (listed pick 0 run) i d).index (get_or (listed pick 0 run) j d).index from (rising pick run 0 i j d up within) low

-- ---- what stands from an index on

not-before : (i from : ℕ) → nat_lt i from ≡ false → i < from → ⊥
not-before i from off low = grind (arith, nat_tests)

not-behind : (i from : ℕ) → nat_lt i from ≡ true → from ≤ i → ⊥
not-behind i from on up = grind (arith, nat_tests)

abbrev pub IsParted : {X : Type 0} → ℕ → List (Entry X) → ℕ → Type 0
IsParted from es n = AllWithin (λ e. is_before from e ≡ true) es 0 n × AllWithin (λ e. is_before from e ≡ false) es n (length es)

-- where all stand behind the index, none stands in front of it
none-behind : {X : Type 0} (from n : ℕ) (es : List (Entry X)) → ((j : ℕ) (d : Entry X) → j < length es → from ≤ (get_or es j d).index) → 0 < length es → IsParted from es (suc n) → ⊥
none-behind from n [] least some parts = absurd (omega (arith, some))
none-behind from n (e ∷ es) least some parts = not-behind e.index from (parts.0 0 e (omega arith) (omega arith)) (least 0 e (omega arith))

module _ {X : Type 0} (pick : Shift → Option X) (from : ℕ) (s : Shift) (run : List Shift) (i : ℕ) where
  abbrev later : List (Entry X)
  later = listed pick (i + 1) run

  here : (o : Option X) → pick s ≡ o → from ≡ i → in_front i o later ≡ listed pick from (drop (from - i) (s ∷ run))
  here o on same =
      let none : from - i ≡ 0 = omega (arith, same) in
      sym (ap (λ k. listed pick from (drop k (s ∷ run))) none ∙ ap (λ j. listed pick j (s ∷ run)) same ∙ ap (λ b. in_front i b later) on)

  on : i < from → listed pick from (drop (from - (i + 1)) run) ≡ listed pick from (drop (from - i) (s ∷ run))
  on low = let one : from - i ≡ suc (from - (i + 1)) = omega (arith, low) in sym (ap (λ k. listed pick from (drop k (s ∷ run))) one)

  parted-in : ((k : ℕ) → k ≤ length later → i + 1 ≤ from → IsParted from later k → drop k later ≡ listed pick from (drop (from - (i + 1)) run))
      → (o : Option X) → pick s ≡ o → (n : ℕ) → n ≤ length (in_front i o later) → (i < from) ⊎ (from ≤ i) → i ≤ from → IsParted from (in_front i o later) n
      → drop n (in_front i o later) ≡ listed pick from (drop (from - i) (s ∷ run))
  parted-in each (Some x) is zero within (inl low) up parts = absurd (not-before i from (parts.1 0 (entry i x) (omega arith) (omega arith)) low)
  parted-in each (Some x) is zero within (inr high) up parts = here (Some x) is (omega (arith, high, up))
  parted-in each (Some x) is (suc n) within (inl low) up parts =
      each n (omega (arith, within)) (omega (arith, low)) ((λ k d a b. parts.0 (suc k) d (omega (arith, a)) (omega (arith, b))), (λ k d a b. parts.1 (suc k) d (omega (arith, a)) (omega (arith, b)))) ∙ on low
  parted-in each (Some x) is (suc n) within (inr high) up parts = absurd (not-behind i from (parts.0 0 (entry i x) (omega arith) (omega arith)) high)
  parted-in each None is n within (inl low) up parts = each n within (omega (arith, low)) parts ∙ on low
  parted-in each None is zero within (inr high) up parts = here None is (omega (arith, high, up))
  parted-in each None is (suc n) within (inr high) up parts = absurd (none-behind from n later (λ j d low. let least = from-least pick run (i + 1) j d low in omega (arith, high, least)) (omega (arith, within)) parts)

pub parted : {X : Type 0} (pick : Shift → Option X) (from : ℕ) (run : List Shift) (i n : ℕ) → n ≤ length (listed pick i run) → i ≤ from → from ≤ i + length run → IsParted from (listed pick i run) n → drop n (listed pick i run) ≡ listed pick from (drop (from - i) run)
parted pick from [] i n within low high parts = drop_all n [] (omega arith) ∙ sym (ap (listed pick from) (drop_all (from - i) [] (omega arith)))
parted pick from (s ∷ run) i n within low high parts =
    parted-in pick from s run i (λ k short up p. parted pick from run (i + 1) k short up (omega (arith, high)) p) (pick s) refl n within (cases_lt i from) low parts

-- ---- a slice to the end of a list

module _ {X : Type 0} where
  abbrev the-empty : List (Entry X)
  the-empty = []

  take-none : (n : ℕ) → take n the-empty ≡ the-empty
  take-none zero = refl
  take-none (suc n) = refl

  take-whole : (es : List (Entry X)) → take (length es) es ≡ es
  take-whole [] = refl
  take-whole (e ∷ es) = ap (λ r. e ∷ r) (take-whole es)

  pub take-rest : (n : ℕ) (es : List (Entry X)) → take (length es - n) (drop n es) ≡ drop n es
  take-rest zero es = let all : length es - 0 ≡ length es = omega arith in ap (λ k. take k es) all ∙ take-whole es
  take-rest (suc n) [] = take-none (0 - suc n)
  take-rest (suc n) (e ∷ es) = let fewer : length (e ∷ es) - suc n ≡ length es - n = omega arith in ap (λ k. take k (drop n es)) fewer ∙ take-rest n es

-- ---- sheets that no operation meets

pub none-on : {X : Type 0} (pick : Shift → Option X) (from : ℕ) (run : List Shift) → from ≤ length run → listed pick 0 run ≡ [] → listed pick from (drop from run) ≡ []
none-on pick from run within none =
    let long : length (listed pick 0 run) ≡ 0 = ap length none in
    let whole : from - 0 ≡ from = omega arith in
    sym (parted pick from run 0 0 (omega arith) (omega arith) (omega (arith, within)) ((λ k d a b. absurd (omega (arith, b))), (λ k d a b. absurd (omega (arith, b, long)))) ∙ ap (λ k. listed pick from (drop k run)) whole) ∙ none

-- ---- the lists of all sheets

module _ {X : Type 0} (pick : ℕ → Shift → Option X) (run : List Shift) where
  -- grown by the operation that comes next
  pub picked-next : (i : ℕ) (s : Shift) (old new : BTreeMap ℕ (Vec (Entry X) Global)) → i < length run → s ≡ get_or run i s → ArePicked pick (take i run) old → ((sheet : ℕ) → list_in new sheet ≡ longer (list_in old sheet) i (pick sheet s)) → ArePicked pick (take (i + 1) run) new
  picked-next i s old new within same is each = λ sheet.
      each sheet
      ∙ ap (λ l. longer l i (pick sheet s)) (is sheet)
      ∙ ap (λ t. longer (listed (pick sheet) 0 (take i run)) i (pick sheet t)) same
      ∙ sym (listed-next (pick sheet) run i s within)

  -- those of all operations
  pub picked-all : (n : ℕ) (lists : BTreeMap ℕ (Vec (Entry X) Global)) → length run ≤ n → ArePicked pick (take n run) lists → ArePicked pick run lists
  picked-all n lists all is = λ sheet. is sheet ∙ ap (listed (pick sheet) 0) (take_all n run all)
