-- Steps over the operations of a run, of which lists have what is picked from them. Serves the walk over the lists.
use Rattle.std.proofs.Common.{◌≡◌, ◌∙◌, sym, ap, refl, subst, arith, ℕ, zero, suc, ◌+◌, ◌-◌, ◌<◌, ◌≤◌, inl, inr, List, [], ◌∷◌, length, take, drop, drop-drop, MatchOption, Option, Some, None, option_and_then}
use Rattle.cell_addr.specs.declared.axis.Axis.{Axis}
use Rattle.cell_addr.specs.declared.place.Block.{Block}
use Rattle.cell_addr.specs.declared.place.Place.{Place}
use Rattle.run_walk.specs.Run.{AreSound, IsCarriedOver, area_over, place_over}
use Rattle.shift_core.specs.declared.shift.Shift.{Shift}
use Rattle.tree_rewrite.specs.Rewritten.{area_before}
use Rattle.sheet_shifts.specs.Listed.{listed}
use Rattle.sheet_shifts.specs.declared.entry.Entry.{Entry}
use Rattle.sheet_shifts.specs.internal.Going.{ByPicked, CarriesArea, GoesBy, IsPast, TakesPlace, Walks, part}
use Rattle.sheet_shifts.proofs.Listing.{entry, in_front}

-- ---- lists and indices

module _ {Y : Type 0} where
  past-less : (less to : ℕ) (es : List (Entry Y)) → less ≤ to → IsPast to es → IsPast less es
  past-less less to [] up past = tt
  past-less less to (e ∷ es) up past = omega (arith, up, past)

  past-in : (i : ℕ) (o : Option Y) (rest : List (Entry Y)) → IsPast (i + 1) rest → IsPast i (in_front i o rest)
  past-in i (Some y) rest past = omega arith
  past-in i None rest past = past-less i (i + 1) rest (omega arith) past

  -- a list's first operation has the index of the run's first one, or a later one
  pub past-first : (pick : Shift → Option Y) (i : ℕ) (xs : List Shift) → IsPast i (listed pick i xs)
  past-first pick i [] = tt
  past-first pick i (s ∷ xs) = past-in i (pick s) (listed pick (i + 1) xs) (past-first pick (i + 1) xs)

-- ---- walks over a list

module _ {X Y : Type 0} (Step : Y → X → X → Type 0) (to : ℕ) where
  -- at its end
  pub walks-end : (es : List (Entry Y)) (x : X) → IsPast to es → Walks Step to es x x es
  walks-end [] x past = (refl, refl)
  walks-end (e ∷ es) x past = inl (past, refl, refl)

  -- a walk past the end stays
  walks-still : (es : List (Entry Y)) (x y : X) (rest : List (Entry Y)) → IsPast to es → Walks Step to es x y rest → (x ≡ y) × (rest ≡ es)
  walks-still [] x y rest past w = w
  walks-still (e ∷ es) x y rest past (inl w) = (w.1, w.2)
  walks-still (e ∷ es) x y rest past (inr w) = absurd (let low = w.0 in omega (arith, low, past))

module _ {X Y : Type 0} (pick : Shift → Option Y) (Step : Y → X → X → Type 0) where
  walk-in : (i n : ℕ) (s : Shift) (xs : List Shift) → ((x y : X) (rest : List (Entry Y)) → Walks Step (i + 1 + n) (listed pick (i + 1) xs) x y rest → GoesBy (ByPicked pick Step) (take n xs) x y × (rest ≡ listed pick (i + 1 + n) (drop n xs)))
      → (o : Option Y) → pick s ≡ o → (x y : X) (rest : List (Entry Y)) → Walks Step (i + suc n) (in_front i o (listed pick (i + 1) xs)) x y rest
      → GoesBy (ByPicked pick Step) (s ∷ take n xs) x y × (rest ≡ listed pick (i + suc n) (drop n xs))
  walk-in i n s xs each None is x y rest w =
      let at : i + suc n ≡ i + 1 + n = omega arith in
      let on = each x y rest (subst (λ k. Walks Step k (listed pick (i + 1) xs) x y rest) at w) in
      ((x, (subst (λ o. MatchOption o (x ≡ x) (λ what. Step what x x)) (sym is) refl, on.0)), on.1 ∙ ap (λ k. listed pick k (drop n xs)) (sym at))
  walk-in i n s xs each (Some what) is x y rest (inl w) = absurd (let low = w.0 in omega (arith, low))
  walk-in i n s xs each (Some what) is x y rest (inr w) =
      let at : i + suc n ≡ i + 1 + n = omega arith in
      let z = w.1.0 in
      let on = each z y rest (subst (λ k. Walks Step k (listed pick (i + 1) xs) z y rest) at w.1.1.1) in
      ((z, (subst (λ o. MatchOption o (x ≡ z) (λ e. Step e x z)) (sym is) w.1.1.0, on.0)), on.1 ∙ ap (λ k. listed pick k (drop n xs)) (sym at))

  -- a walk over the list goes by what is picked from the run, and the list is left from the index on
  walk-from : (n i : ℕ) (xs : List Shift) (x y : X) (rest : List (Entry Y)) → Walks Step (i + n) (listed pick i xs) x y rest → GoesBy (ByPicked pick Step) (take n xs) x y × (rest ≡ listed pick (i + n) (drop n xs))
  walk-from zero i xs x y rest w =
      let at : i ≡ i + 0 = omega arith in
      let still = walks-still Step (i + 0) (listed pick i xs) x y rest (subst (λ k. IsPast k (listed pick i xs)) at (past-first pick i xs)) w in
      (still.0, still.1 ∙ ap (λ k. listed pick k xs) at)
  walk-from (suc n) i [] x y rest w = w
  walk-from (suc n) i (s ∷ xs) x y rest w = walk-in i n s xs (walk-from n (i + 1) xs) (pick s) refl x y rest w

  pub walk-goes : (run : List Shift) (index to : ℕ) (x y : X) (list rest : List (Entry Y)) → index ≤ to → list ≡ listed pick index (drop index run) → Walks Step to list x y rest
      → GoesBy (ByPicked pick Step) (part index to run) x y × (rest ≡ listed pick to (drop to run))
  walk-goes run index to x y list rest order is w =
      let n = to - index in
      let there : index + n ≡ to = omega (arith, order) in
      let from : Walks Step (index + n) (listed pick index (drop index run)) x y rest = subst (λ k. Walks Step k (listed pick index (drop index run)) x y rest) (sym there) (subst (λ l. Walks Step to l x y rest) is w) in
      let on = walk-from n index (drop index run) x y rest from in
      (on.0, on.1 ∙ ap (listed pick (index + n)) (drop-drop n index run) ∙ ap (λ k. listed pick k (drop k run)) there)

-- ---- runs joined

module _ {X : Type 0} (Step : Shift → X → X → Type 0) where
  goes-none : (n : ℕ) (x y : X) → x ≡ y → GoesBy Step (take n []) x y
  goes-none zero x y is = is
  goes-none (suc n) x y is = is

  none-goes : (n : ℕ) (x y : X) → GoesBy Step (take n []) x y → x ≡ y
  none-goes zero x y goes = goes
  none-goes (suc n) x y goes = goes

  join : (n m : ℕ) (xs : List Shift) (x y z : X) → GoesBy Step (take n xs) x y → GoesBy Step (take m (drop n xs)) y z → GoesBy Step (take (n + m) xs) x z
  join zero m xs x y z one two =
      let all : m ≡ 0 + m = omega arith in
      subst (λ k. GoesBy Step (take k xs) x z) all (subst (λ w. GoesBy Step (take m xs) w z) (sym one) two)
  join (suc n) m [] x y z one two = goes-none (suc n + m) x z (one ∙ none-goes m y z two)
  join (suc n) m (s ∷ xs) x y z one two =
      let more : suc (n + m) ≡ suc n + m = omega arith in
      subst (λ k. GoesBy Step (take k (s ∷ xs)) x z) more (one.0, (one.1.0, join n m xs one.0 y z one.1.1 two))

  -- from one index to a later one, and on from there
  pub goes-joined : (run : List Shift) (a b c : ℕ) (x y z : X) → a ≤ b → b ≤ c → GoesBy Step (part a b run) x y → GoesBy Step (part b c run) y z → GoesBy Step (part a c run) x z
  goes-joined run a b c x y z low high one two =
      let there : a + (b - a) ≡ b = omega (arith, low) in
      let count : b - a + (c - b) ≡ c - a = omega (arith, low, high) in
      let behind : drop b run ≡ drop (b - a) (drop a run) = sym (drop-drop (b - a) a run ∙ ap (λ k. drop k run) there) in
      subst (λ n. GoesBy Step (take n (drop a run)) x z) count
      (join (b - a) (c - b) (drop a run) x y z one (subst (λ r. GoesBy Step (take (c - b) r) y z) behind two))

  -- by the operation at the index, and on from there
  pub goes-first : (run : List Shift) (index to : ℕ) (s : Shift) (xs : List Shift) (x y z : X) → drop index run ≡ s ∷ xs → index < to → Step s x y → GoesBy Step (part (index + 1) to run) y z → GoesBy Step (part index to run) x z
  goes-first run index to s xs x y z is before step goes =
      let count : suc (to - (index + 1)) ≡ to - index = omega (arith, before) in
      let behind : drop (index + 1) run ≡ xs = sym (drop-drop 1 index run) ∙ ap (drop 1) is in
      subst (λ n. GoesBy Step (take n (drop index run)) x z) count
      (subst (λ r. GoesBy Step (take (suc (to - (index + 1))) r) x z) (sym is) (y, (step, subst (λ r. GoesBy Step (take (to - (index + 1)) r) y z) behind goes)))

-- ---- the first operation of a list

-- it is the first one of the run, and behind it comes the rest
pub record IsHead {Y : Type 0} (pick : Shift → Option Y) (xs : List Shift) (e : Entry Y) (rest : List (Entry Y)) : Type 0 where
  pub shift : Shift
  pub later : List Shift
  pub is : xs ≡ shift ∷ later
  pub picked : pick shift ≡ Some e.what
  pub behind : rest ≡ listed pick (e.index + 1) later

head-in : {Y : Type 0} (pick : Shift → Option Y) (s : Shift) (ys : List Shift) (e : Entry Y) (rest : List (Entry Y)) (o : Option Y) → pick s ≡ o → in_front e.index o (listed pick (e.index + 1) ys) ≡ e ∷ rest → IsHead pick (s ∷ ys) e rest
head-in {Y = Y} pick s ys e rest (Some y) on is =
    let first : entry e.index y ≡ e = cc in
    let more : listed pick (e.index + 1) ys ≡ rest = cc in
    record { shift = s; later = ys; is = refl; picked = on ∙ ap (λ (z : Entry Y). Some z.what) first; behind = sym more }
head-in pick s ys e rest None on is =
    let past : IsPast (e.index + 1) (e ∷ rest) = subst (IsPast (e.index + 1)) is (past-first pick (e.index + 1) ys) in
    absurd (omega (arith, past))

pub head : {Y : Type 0} (pick : Shift → Option Y) (xs : List Shift) (e : Entry Y) (rest : List (Entry Y)) → listed pick e.index xs ≡ e ∷ rest → IsHead pick xs e rest
head pick [] e rest is = absurd (let no : 0 ≡ suc (length rest) = ap length is in omega (arith, no))
head pick (s ∷ ys) e rest is = head-in pick s ys e rest (pick s) refl is

-- ---- what the steps say

pub place-goes : (run : List Shift) (p q : Place) → GoesBy TakesPlace run p q → place_over run p ≡ Some q
place-goes [] p q goes = ap (λ x. Some x) goes
place-goes (s ∷ run) p q goes = ap (option_and_then (place_over run)) goes.1.0 ∙ place-goes run goes.0 q goes.1.1

pub area-goes : (run : List Shift) (lines : Option Axis) (b c : Block) → GoesBy (CarriesArea lines) run b c → (area_over run lines b ≡ Some c) × IsCarriedOver run lines b
area-goes [] lines b c goes = (ap (λ x. Some x) goes, tt)
area-goes (s ∷ run) lines b c goes =
    let rest = area-goes run lines goes.0 c goes.1.1 in (
      ap (option_and_then (area_over run lines)) goes.1.0.0 ∙ rest.0,
      subst (λ o. MatchOption o ⊥ (λ after. (area_before s lines after ≡ Some b) × IsCarriedOver run lines after)) (sym goes.1.0.0) (goes.1.0.1, rest.1),
    )

-- the operations from an index on are sound
pub sound-drop : (n : ℕ) (run : List Shift) → AreSound run → AreSound (drop n run)
sound-drop zero run sound = sound
sound-drop (suc n) [] sound = tt
sound-drop (suc n) (s ∷ run) sound = sound-drop n run sound.1

-- and so are those from a later one on
pub sound-from : (from index : ℕ) (run : List Shift) → from ≤ index → AreSound (drop from run) → AreSound (drop index run)
sound-from from index run order sound =
    let there : from + (index - from) ≡ index = omega (arith, order) in
    subst AreSound (drop-drop (index - from) from run ∙ ap (λ k. drop k run) there) (sound-drop (index - from) (drop from run) sound)

-- so many operations from an index on
pub part-ahead : (from count : ℕ) (run : List Shift) → part from (from + count) run ≡ take count (drop from run)
part-ahead from count run = let all : from + count - from ≡ count = omega arith in ap (λ n. take n (drop from run)) all
