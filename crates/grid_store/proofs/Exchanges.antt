-- Places that are emptied and filled together: what a map has over them. Serves exchanges of cells.
use Rattle.std.proofs.Common.{◌≡◌, ◌∙◌, sym, ap, refl, subst, arith, ℕ, zero, suc, ◌<◌, ◌⊎◌, inl, inr, ◌&&◌, ◌||◌, Bool, true, false, cond, not, filter, List, [], ◌∷◌, ◌++◌, length, get_or, map, Option, Some, None, IsSome, is_some, is_none}
use Rattle.std.specs.FinMap as fin
use Rattle.std.specs.FinMap.{get, get-insert, get-remove}
use Rattle.std.specs.FinMap.Entries.{is_some-find}
use Rattle.std.specs.Cmp.{eq_by_cmp_equiv}
use Rattle.std.specs.List.{AllByRecursion}
use Rattle.std.specs.Ordering.{eq_by_cmp}
use Rattle.std.proofs.lemmas.Bool.{both_ways}
use Rattle.std.proofs.lemmas.List.Folds.{list_any-append}
use Rattle.std.proofs.lemmas.Map.Entries.{lookup-filter-keys}
use Rattle.cell_addr.specs.Order.{place_cmp}
use Rattle.cell_addr.specs.Place.{covers}
use Rattle.cell_addr.specs.declared.place.Block.{Block}
use Rattle.cell_addr.specs.declared.place.Place.{Place}
use Rattle.cell_addr.proofs.Places.{place_cmp-IsTotalOrder, place_cmp-IsAntisymmetric}
use Rattle.shift_core.specs.Maps.{PlaceMap}
use Rattle.shift_core.proofs.CarriedEntries.{eq_by_cmp-decides}
use Rattle.shift_core.proofs.MovedMaps.{find_place}
use Rattle.grid_store.specs.Grid.{outside, with_entries, within, without_places}
use Rattle.grid_store.specs.internal.Exchange.{AreFilled, HasSame, LacksAll, is_among, is_one_cell, places_of}
use Rattle.grid_store.proofs.Fills.{first_of_two, get-with}
use Rattle.grid_store.proofs.PlaceMaps.{entries-kept, get-kept, same_places}

-- the place that a loop names where there is none
abbrev pub no_item : Place
no_item = record { sheet = 0; row = 0; col = 0 }

same-place : (q p : Place) → eq_by_cmp place_cmp q p ≡ true → q ≡ p
same-place q p h = (eq_by_cmp-decides place_cmp-IsTotalOrder place_cmp-IsAntisymmetric q p).0 h

pub turned-test : (p q : Place) → eq_by_cmp place_cmp p q ≡ eq_by_cmp place_cmp q p
turned-test p q = (eq_by_cmp_equiv place_cmp-IsTotalOrder).symm p q

-- one more place in a set
pub one-more : (b c r : Bool) → (cond b true c || r) ≡ (c || (b || r))
one-more true true r = refl
one-more true false r = refl
one-more false c r = refl

or-parts : (a b : Bool) → (a || b) ≡ true → (a ≡ true) ⊎ (b ≡ true)
or-parts true b h = inl refl
or-parts false b h = inr h

some-or : {X : Type 0} (b : Bool) (x : X) (r : Option X) → IsSome r → IsSome (cond b (Some x) r)
some-or true x r h = refl
some-or false x r h = h

module _ {X : Type 0} (x : X) where
  same-on : (m n : PlaceMap X) (p q : Place) → n ≡ fin.insert m p x → eq_by_cmp place_cmp q p ≡ false → get n q ≡ get m q
  same-on m n p q new other = ap (λ z. get z q) new ∙ get-insert place_cmp-IsTotalOrder m p x q ∙ ap (λ b. cond b (Some x) (get m q)) other

  pub filled-insert : (es : List (Place × X)) (m n : PlaceMap X) (p : Place) → n ≡ fin.insert m p x → AreFilled es m → AreFilled es n
  filled-insert [] m n p new h = tt
  filled-insert (e ∷ es) m n p new h = (
    subst IsSome (sym (ap (λ z. get z e.0) new ∙ get-insert place_cmp-IsTotalOrder m p x e.0)) (some-or (eq_by_cmp place_cmp e.0 p) x (get m e.0) h.0),
    filled-insert es m n p new h.1,
  )

or-false : (a b : Bool) → (a || b) ≡ false → (a ≡ false) × (b ≡ false)
or-false true b h = cc
or-false false b h = (refl, h)

-- a place that is none of these is none of them by its index
pub not-item : (places : List Place) (i : ℕ) (d q : Place) → i < length places → is_among places q ≡ false → eq_by_cmp place_cmp q (get_or places i d) ≡ false
not-item [] i d q l h = absurd (omega arith)
not-item (p ∷ places) zero d q l h = (or-false (eq_by_cmp place_cmp q p) (is_among places q) h).0
not-item (p ∷ places) (suc i) d q l h = not-item places i d q (omega arith) (or-false (eq_by_cmp place_cmp q p) (is_among places q) h).1

each-or : {Y : Type 0} (b : Bool) (P : Y → Type 0) (x : Y) (xs : List Y) → P x → AllByRecursion P xs → AllByRecursion P (cond b (x ∷ xs) xs)
each-or true P x xs here more = (here, more)
each-or false P x xs here more = more

pub each-filtered : {Y : Type 0} (P : Y → Type 0) (p : Y → Bool) (xs : List Y) → AllByRecursion P xs → AllByRecursion P (filter p xs)
each-filtered P p [] h = tt
each-filtered P p (x ∷ xs) h = each-or (p x) P x (filter p xs) h.0 (each-filtered P p xs h.1)

among-or : (b e t : Bool) (x q : Place) (r : List Place) (s : Bool) → eq_by_cmp place_cmp q x ≡ e → (e ≡ true → b ≡ t) → is_among r q ≡ (s && t) → is_among (cond b (x ∷ r) r) q ≡ ((e || s) && t)
among-or true true t x q r s same own more = ap (λ a. a || is_among r q) same ∙ own refl
among-or true false t x q r s same own more = ap (λ a. a || is_among r q) same ∙ more
among-or false true true x q r s same own more = absurd (both_ways false refl (own refl))
among-or false true false x q r s same own more = more ∙ none s
  where
    none : (s : Bool) → (s && false) ≡ false
    none true = refl
    none false = refl
among-or false false t x q r s same own more = more

-- which places are among those that pass a test
pub among-filter : (p : Place → Bool) (xs : List Place) (q : Place) → is_among (filter p xs) q ≡ (is_among xs q && p q)
among-filter p [] q = refl
among-filter p (x ∷ xs) q =
    among-or (p x) (eq_by_cmp place_cmp q x) (p q) x q (filter p xs) (is_among xs q) refl (λ same. ap p (sym (same-place q x same))) (among-filter p xs q)

gone-or : {X : Type 0} (a b : Bool) (r : Option X) → cond a None (cond b None r) ≡ cond (b || a) None r
gone-or true true r = refl
gone-or true false r = refl
gone-or false b r = ap (λ z. cond z None r) (flat b)
  where
    flat : (b : Bool) → b ≡ (b || false)
    flat true = refl
    flat false = refl

pub get-without_places : {X : Type 0} (ps : List Place) (m : PlaceMap X) (q : Place) → get (without_places ps m) q ≡ cond (is_among ps q) None (get m q)
get-without_places [] m q = refl
get-without_places (p ∷ ps) m q =
    get-without_places ps (fin.remove m p) q ∙ ap (cond (is_among ps q) None) (get-remove place_cmp-IsTotalOrder m p q) ∙ gone-or (is_among ps q) (eq_by_cmp place_cmp q p) (get m q)

self-among : (p : Place) → eq_by_cmp place_cmp p p ≡ true
self-among p = (eq_by_cmp-decides place_cmp-IsTotalOrder place_cmp-IsAntisymmetric p p).1 refl

later-among : (a b : Bool) → b ≡ true → (a || b) ≡ true
later-among true b h = refl
later-among false b h = h

each-among : {X : Type 0} (P : Place → Type 0) (es : List (Place × X)) → ((q : Place) → is_among (map (λ e. e.0) es) q ≡ true → P q) → AllByRecursion (λ e. P e.0) es
each-among P [] h = tt
each-among P (e ∷ es) h = (
  h e.0 (ap (λ b. b || is_among (map (λ e. e.0) es) e.0) (self-among e.0)),
  each-among P es (λ q there. h q (later-among (eq_by_cmp place_cmp q e.0) (is_among (map (λ e. e.0) es) q) there)),
)

find-filtered : {X : Type 0} (p : Place → Bool) (es : List (Place × X)) (q : Place) → find_place q (filter (λ e. p e.0) es) ≡ cond (p q) (find_place q es) None
find-filtered p es q = lookup-filter-keys (eq_by_cmp place_cmp q) p (p q) (λ k same. ap p (sym (same-place q k same))) es

among-places : {X : Type 0} (es : List (Place × X)) (q : Place) → is_among (places_of es) q ≡ is_some (find_place q es)
among-places es q = sym (is_some-find place_cmp q es)

last-among : {X : Type 0} (es : List (Place × X)) (e : Place × X) (q : Place) → eq_by_cmp place_cmp q e.0 ≡ true → is_among (places_of (es ++ e ∷ [])) q ≡ true
last-among [] e q h = ap (λ b. b || false) h
last-among (f ∷ es) e q h = later-among (eq_by_cmp place_cmp q f.0) (is_among (places_of (es ++ e ∷ [])) q) (last-among es e q h)

or-carried : (a b c : Bool) → (a || b) ≡ true → (b ≡ true → c ≡ true) → (a || c) ≡ true
or-carried true b c h k = refl
or-carried false b c h k = k h

-- a place of a list without its last entry is one of the list
pub front-among : {X : Type 0} (es : List (Place × X)) (e : Place × X) (q : Place) → is_among (places_of es) q ≡ true → is_among (places_of (es ++ e ∷ [])) q ≡ true
front-among [] e q h = absurd (both_ways false refl h)
front-among (f ∷ es) e q h = or-carried (eq_by_cmp place_cmp q f.0) (is_among (places_of es) q) (is_among (places_of (es ++ e ∷ [])) q) h (front-among es e q)

-- the last entry of a list, put in, leaves what is at no place of the list
pub put-beside : {X : Type 0} (es : List (Place × X)) (p : Place) (x : X) (m n : PlaceMap X) (q : Place) → n ≡ fin.insert m p x → is_among (places_of (es ++ (p, x) ∷ [])) q ≡ false → get n q ≡ get m q
put-beside es p x m n q new out = beside (eq_by_cmp place_cmp q p) refl
  where
    beside : (b : Bool) → eq_by_cmp place_cmp q p ≡ b → get n q ≡ get m q
    beside true e = absurd (both_ways (is_among (places_of (es ++ (p, x) ∷ [])) q) out (last-among es (p, x) q e))
    beside false e = same-on x m n p q new e

not-true : (a b : Bool) → (a ≡ true → b ≡ true) → b ≡ false → a ≡ false
not-true true b h out = absurd (both_ways b out (h refl))
not-true false b h out = refl

-- what is among no places is among no part of them
pub out-of-part : (part places : List Place) (q : Place) → (is_among part q ≡ true → is_among places q ≡ true) → is_among places q ≡ false → is_among part q ≡ false
out-of-part part places q h out = not-true (is_among part q) (is_among places q) h out

-- some places that were empty and may have been filled, emptied again
pub left-as-was : {X : Type 0} (places : List Place) (m n : PlaceMap X) → LacksAll places m → HasSame places m n → without_places places n ≡ m
left-as-was places m n none same = same_places _ _ (λ q. get-without_places places n q ∙ at q (is_among places q) refl)
  where
    at : (q : Place) (b : Bool) → is_among places q ≡ b → cond b None (get n q) ≡ get m q
    at q true e = sym (none q e)
    at q false e = same q e

-- the places of the entries that stand at empty ones
pub fresh-lacking : {X : Type 0} (es fresh : List (Place × X)) (m : PlaceMap X) → fresh ≡ filter (λ e. is_none (get m e.0)) es → LacksAll (places_of fresh) m
fresh-lacking es fresh m empty = λ q there. none q (get m q) refl (sym (among-places fresh q) ∙ there)
  where
    none : (q : Place) (r : Option _) → get m q ≡ r → is_some (find_place q fresh) ≡ true → get m q ≡ None
    none q None e h = e
    none q (Some x) e h =
        absurd (both_ways (is_some (find_place q fresh)) (ap is_some (ap (find_place q) empty ∙ find-filtered (λ p. is_none (get m p)) es q ∙ ap (λ r. cond (is_none r) (find_place q es) None) e)) h)

-- an exchange: `targets` are the places of what is placed, `left` those that are emptied for good, `over` what is placed at filled places
-- and `fresh` what is placed at empty ones
module _ {X : Type 0} (emptied targets left : List Place) (es over fresh : List (Place × X)) (m : PlaceMap X)
    (are : targets ≡ map (λ e. e.0) es) (rest : left ≡ filter (λ p. not (is_among targets p)) emptied)
    (filled : over ≡ filter (λ e. is_some (get m e.0)) es) (empty : fresh ≡ filter (λ e. is_none (get m e.0)) es) where
  over-is : (q : Place) → find_place q over ≡ cond (is_some (get m q)) (find_place q es) None
  over-is q = ap (find_place q) filled ∙ find-filtered (λ p. is_some (get m p)) es q

  fresh-is : (q : Place) → find_place q fresh ≡ cond (is_none (get m q)) (find_place q es) None
  fresh-is q = ap (find_place q) empty ∙ find-filtered (λ p. is_none (get m p)) es q

  left-is : (q : Place) → is_among left q ≡ (is_among emptied q && not (is_some (find_place q es)))
  left-is q =
      ap (λ ps. is_among ps q) rest ∙ among-filter (λ p. not (is_among targets p)) emptied q
      ∙ ap (λ b. is_among emptied q && not b) (ap (λ ps. is_among ps q) are ∙ among-places es q)

  now-is : (q : Place)
      → get (without_places left (with_entries fresh m)) q ≡ cond (is_among emptied q && not (is_some (find_place q es))) None (first_of_two (cond (is_none (get m q)) (find_place q es) None) (get m q))
  now-is q =
      get-without_places left (with_entries fresh m) q
      ∙ (λ i. cond (left-is q i) None ((get-with fresh m q ∙ ap (λ r. first_of_two r (get m q)) (fresh-is q)) i))

  stays : (a : Bool) (r f : Option X) → is_some (cond (is_some r) f None) ≡ true → IsSome (cond (a && not (is_some f)) None (first_of_two (cond (is_none r) f None) r))
  stays a None f h = cc
  stays a (Some x) None h = cc
  stays true (Some x) (Some y) h = refl
  stays false (Some x) (Some y) h = refl

  -- the places of the others are filled still
  pub over-filled : AreFilled over (without_places left (with_entries fresh m))
  over-filled = each-among (λ p. IsSome (get (without_places left (with_entries fresh m)) p)) over (λ q there.
      subst IsSome (sym (now-is q)) (stays (is_among emptied q) (get m q) (find_place q es) (ap is_some (sym (over-is q)) ∙ sym (among-places over q) ∙ there)))

  put-in : (a : Bool) (r f : Option X)
      → first_of_two (cond (is_some r) f None) (cond (a && not (is_some f)) None (first_of_two (cond (is_none r) f None) r)) ≡ first_of_two f (cond a None r)
  put-in true None None = refl
  put-in true None (Some y) = refl
  put-in true (Some x) None = refl
  put-in true (Some x) (Some y) = refl
  put-in false None None = refl
  put-in false None (Some y) = refl
  put-in false (Some x) None = refl
  put-in false (Some x) (Some y) = refl

  pub exchanged : with_entries over (without_places left (with_entries fresh m)) ≡ with_entries es (without_places emptied m)
  exchanged = same_places _ _ (λ q.
      get-with over (without_places left (with_entries fresh m)) q ∙ (λ i. first_of_two (over-is q i) (now-is q i)) ∙ put-in (is_among emptied q) (get m q) (find_place q es)
      ∙ ap (first_of_two (find_place q es)) (sym (get-without_places emptied m q)) ∙ sym (get-with es (without_places emptied m) q))

-- what stands in two blocks, emptied
among-entries : {X : Type 0} (m : PlaceMap X) (q : Place) → is_among (map (λ e. e.0) (fin.entries m)) q ≡ is_some (get m q)
among-entries m q = sym (is_some-find place_cmp q (fin.entries m)) ∙ ap is_some (sym (fin.get-entries m q))

two-blocks : {X : Type 0} (a b : Bool) (r : Option X) → cond (is_some (cond a r None) || is_some (cond b r None)) None r ≡ cond (not b) (cond (not a) r None) None
two-blocks true true None = refl
two-blocks true true (Some x) = refl
two-blocks true false None = refl
two-blocks true false (Some x) = refl
two-blocks false true None = refl
two-blocks false true (Some x) = refl
two-blocks false false None = refl
two-blocks false false (Some x) = refl

pub without-blocks : {X : Type 0} (from onto : Block) (m : PlaceMap X) → without_places (map (λ e. e.0) (fin.entries (within from m)) ++ map (λ e. e.0) (fin.entries (within onto m))) m ≡ outside onto (outside from m)
without-blocks from onto m = same_places _ _ (λ q.
    get-without_places (map (λ e. e.0) (fin.entries (within from m)) ++ map (λ e. e.0) (fin.entries (within onto m))) m q
    ∙ ap (λ b. cond b None (get m q))
    (list_any-append (eq_by_cmp place_cmp q) (map (λ e. e.0) (fin.entries (within from m))) (map (λ e. e.0) (fin.entries (within onto m)))
    ∙ (λ i. (among-entries (within from m) q ∙ ap is_some (get-kept m (covers from) q)) i || (among-entries (within onto m) q ∙ ap is_some (get-kept m (covers onto) q)) i))
    ∙ two-blocks (covers from q) (covers onto q) (get m q)
    ∙ ap (λ r. cond (not (covers onto q)) r None) (sym (get-kept m (λ p. not (covers from p)) q)) ∙ sym (get-kept (outside from m) (λ p. not (covers onto p)) q))

beside-at : {X : Type 0} (a b : Bool) (r : Option X) → cond (not a) (cond b r None) None ≡ cond b (cond (not a) r None) None
beside-at true true r = refl
beside-at true false r = refl
beside-at false true r = refl
beside-at false false r = refl

-- the entries of a block that are beside another
pub beside-entries : {X : Type 0} (from onto : Block) (m : PlaceMap X) → filter (λ e. not (covers from e.0)) (fin.entries (within onto m)) ≡ fin.entries (within onto (outside from m))
beside-entries from onto m =
    sym (entries-kept (within onto m) (λ p. not (covers from p)))
    ∙ ap fin.entries (same_places (fin.retain_keys (within onto m) (λ p. not (covers from p))) (within onto (outside from m)) (λ q.
    get-kept (within onto m) (λ p. not (covers from p)) q ∙ ap (λ r. cond (not (covers from q)) r None) (get-kept m (covers onto) q) ∙ beside-at (covers from q) (covers onto q) (get m q)
    ∙ ap (λ r. cond (covers onto q) r None) (sym (get-kept m (λ p. not (covers from p)) q)) ∙ sym (get-kept (outside from m) (covers onto) q)))

-- what stands in one block, emptied
one-block : {X : Type 0} (a : Bool) (r : Option X) → cond (is_some (cond a r None)) None r ≡ cond (not a) r None
one-block true None = refl
one-block true (Some x) = refl
one-block false r = refl

pub without-block : {X : Type 0} (area : Block) (m : PlaceMap X) → without_places (map (λ e. e.0) (fin.entries (within area m))) m ≡ outside area m
without-block area m = same_places _ _ (λ q.
    get-without_places (map (λ e. e.0) (fin.entries (within area m))) m q
    ∙ ap (λ b. cond b None (get m q)) (among-entries (within area m) q ∙ ap is_some (get-kept m (covers area) q)) ∙ one-block (covers area q) (get m q)
    ∙ sym (get-kept m (λ p. not (covers area p)) q))

-- entries of two lists over a map
pub with-both : {X : Type 0} (es fs : List (Place × X)) (m : PlaceMap X) → with_entries (es ++ fs) m ≡ with_entries es (with_entries fs m)
with-both [] fs m = refl
with-both (e ∷ es) fs m = ap (λ n. fin.insert n e.0 e.1) (with-both es fs m)

pub each-both : {Y : Type 0} (P : Y → Type 0) (xs ys : List Y) → AllByRecursion P xs → AllByRecursion P ys → AllByRecursion P (xs ++ ys)
each-both P [] ys h k = k
each-both P (x ∷ xs) ys h k = (h.0, each-both P xs ys h.1 k)

-- where one cell is placed it makes no difference that its place is emptied first
pub one_placed : {X : Type 0} (ps : List Place) (es : List (Place × X)) (m : PlaceMap X) → is_one_cell ps es ≡ true → with_entries es m ≡ with_entries es (without_places ps m)
one_placed [] [] m h = cc
one_placed [] (e ∷ []) m h = refl
one_placed [] (e ∷ f ∷ es) m h = cc
one_placed (p ∷ []) [] m h = cc
one_placed (p ∷ []) (e ∷ []) m h =
    same_places (fin.insert m e.0 e.1) (fin.insert (fin.remove m p) e.0 e.1) (λ q.
    get-insert place_cmp-IsTotalOrder m e.0 e.1 q ∙ over (eq_by_cmp place_cmp q e.0) (eq_by_cmp place_cmp q p) e.1 (get m q) (ap (eq_by_cmp place_cmp q) (sym (same-place p e.0 h)))
    ∙ ap (cond (eq_by_cmp place_cmp q e.0) (Some e.1)) (sym (get-remove place_cmp-IsTotalOrder m p q)) ∙ sym (get-insert place_cmp-IsTotalOrder (fin.remove m p) e.0 e.1 q))
  where
    over : {X : Type 0} (a b : Bool) (x : X) (r : Option X) → a ≡ b → cond a (Some x) r ≡ cond a (Some x) (cond b None r)
    over true b x r h = refl
    over false true x r h = cc
    over false false x r h = refl
one_placed (p ∷ []) (e ∷ f ∷ es) m h = cc
one_placed (p ∷ r ∷ ps) [] m h = cc
one_placed (p ∷ r ∷ ps) (e ∷ es) m h = cc
