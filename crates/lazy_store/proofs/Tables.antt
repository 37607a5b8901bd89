-- Tables of holders after one of them changed, and in the order of their keys. Serves the calls that take formulas
-- along the line.
use Rattle.std.proofs.Common.{◌≡◌, ◌≢◌, ◌∙◌, sym, ap, refl, subst, arith, ℕ, suc, ◌+◌, ◌<◌, ◌≤◌, ◌⊎◌, inl, inr, Bool, true, false, ◌&&◌, ◌||◌, cond, nat_eq, nat_le, eqb-true, ne_eqb, le-ltb, true≢false, List, [], ◌∷◌, length, slice_get, Option, Some, None, option_map, option_and_then}
use Rattle.std.proofs.lemmas.Bool.{cases_eq, cases_lt}
use Rattle.std.proofs.lemmas.Cmp.{nat_eq_equiv}
use Rattle.std.proofs.lemmas.List.Folds.{list_any_at}
use Rattle.std.proofs.lemmas.Option.{get_or_from_slice_get, none-some, same_Some, slice_get_within}
use Rattle.std.specs.HashMap as hash
use Rattle.std.specs.HashMap.{HashMap}
use Rattle.std.specs.List.{list_any}
use Rattle.std.specs.Map.{keys_of, lookup}
use Rattle.shift_line.specs.Track.{Track}
use Rattle.lazy_store.specs.Holders.{AreCoherent, kept_of, kept_under}
use Rattle.lazy_store.specs.Kept.{IsCoherent, Kept, at}
use Rattle.lazy_store.specs.declared.among.Among.{Among}
use Rattle.lazy_store.specs.declared.among.Among.TheVariants.{All, These}
use Rattle.lazy_store.specs.declared.holder.Holder.{Holder}
use Rattle.lazy_store.specs.declared.holders.Side.{Side}
use Rattle.lazy_store.specs.declared.holders.Side.TheVariants.{Before, Beyond, Returning}
use Rattle.lazy_store.specs.internal.Recent.{IsIn, ids_among}
use Rattle.lazy_store.specs.internal.Steps.{CutsOff, GoesAlong}
use Rattle.lazy_store.specs.internal.Sweeps.{ArePlaced, Both, Brings, Cuts, StandAlong, Sweeps, is_off}

-- what a map of an option has, it has from something
pub mapped-some : {A B : Type 0} (f : A → B) (o : Option A) (y : B) → option_map f o ≡ Some y → (x : A) × (o ≡ Some x) × (f x ≡ y)
mapped-some f None y e = absurd (none-some y e)
mapped-some f (Some x) y e = (x, refl, same_Some (f x) y e)

-- ---- a table in which one holder changed

module _ {S : Type 0} (line : Track) (id : ℕ) (old new : HashMap ℕ Holder S) (x y : Holder) (was : hash.get nat_eq old id ≡ Some x) (is : hash.get nat_eq new id ≡ Some y)
    (apart : (other : ℕ) → nat_eq id other ≡ false → hash.get nat_eq new other ≡ hash.get nat_eq old other) (keys : hash.keys new ≡ hash.keys old) (spare : hash.spare new ≡ hash.spare old) where
  others-stay : (other : ℕ) → other ≢ id → kept_under new other ≡ kept_under old other
  others-stay other ne = ap (option_map kept_of) (apart other (ne_eqb id other (λ e. ne (sym e))))

  pub brings : AreCoherent line old → GoesAlong line (kept_of x) (kept_of y) → Brings line id old new
  brings coherent goes = record {
    along = record {
      at = λ other k. stays (λ o. option_and_then (λ h. at line h k) o) (goes.at k) other (cases_eq other id);
      live = λ other. stays (option_map (λ h. h.live)) (ap (λ b. Some b) goes.live) other (cases_eq other id);
      coherent = λ other h there. by other h there (cases_eq other id);
      keys = keys;
      spare = spare;
    };
    others = others-stay;
  }
    where
      stays : {A : Type 0} (f : Option Kept → A) → f (Some (kept_of y)) ≡ f (Some (kept_of x)) → (other : ℕ) → (other ≡ id) ⊎ (other ≡ id → ⊥) → f (kept_under new other) ≡ f (kept_under old other)
      stays f same other (inl e) = ap (λ j. f (kept_under new j)) e ∙ ap (λ o. f (option_map kept_of o)) is ∙ same ∙ sym (ap (λ j. f (kept_under old j)) e ∙ ap (λ o. f (option_map kept_of o)) was)
      stays f same other (inr ne) = ap f (others-stay other ne)

      by : (other : ℕ) (h : Holder) → hash.get nat_eq new other ≡ Some h → (other ≡ id) ⊎ (other ≡ id → ⊥) → IsCoherent line (kept_of h)
      by other h there (inl e) =
          let same : Some y ≡ Some h = sym is ∙ ap (hash.get nat_eq new) (sym e) ∙ there in
          subst (λ z. IsCoherent line (kept_of z)) (same_Some y h same) goes.coherent
      by other h there (inr ne) = coherent other h (sym (apart other (ne_eqb id other (λ e. ne (sym e)))) ∙ there)

-- ---- and one in which none did

pub brings-none : {S : Type 0} (line : Track) (id : ℕ) (m : HashMap ℕ Holder S) → AreCoherent line m → Brings line id m m
brings-none line id m coherent = record {
  along = record { at = λ other k. refl; live = λ other. refl; coherent = coherent; keys = refl; spare = refl };
  others = λ other ne. refl;
}

-- ---- keys in order

-- what is found in a table stands at a place of its keys
pub key-place : {X : Type 0} (es : List (ℕ × X)) (id : ℕ) (x : X) → lookup (nat_eq id) es ≡ Some x → (i : ℕ) × (i < length es) × (slice_get (keys_of es) i ≡ Some id)
key-place [] id x e = absurd (none-some x e)
key-place (e ∷ es) id x found = by (nat_eq id e.0) refl found (key-place es id x)
  where
    by : (b : Bool) → nat_eq id e.0 ≡ b → cond b (Some e.1) (lookup (nat_eq id) es) ≡ Some x → (lookup (nat_eq id) es ≡ Some x → (i : ℕ) × (i < length es) × (slice_get (keys_of es) i ≡ Some id))
        → (i : ℕ) × (i < length (e ∷ es)) × (slice_get (keys_of (e ∷ es)) i ≡ Some id)
    by true same f rest = (0, omega arith, ap (λ k. Some k) (sym (eqb-true id e.0 same)))
    by false apart f rest = let (i, under, there) = rest f in (suc i, omega (arith, under), there)

-- ---- all on one side

-- a formula that is kept as of the position is not to be taken to it
not-off : (side : Side) (k : ℕ) (h : Kept) → h.position ≡ k → is_off side k h ≡ false
not-off Before k h there = le-ltb h.position k (omega (arith, there))
not-off Beyond k h there = le-ltb k h.position (omega (arith, there))
not-off Returning k h there = ap (λ b. b && nat_le h.birth k) (le-ltb k h.position (omega (arith, there)))

pub stand-trans : {S : Type 0} (line : Track) (old mid new : HashMap ℕ Holder S) → StandAlong line old mid → StandAlong line mid new → StandAlong line old new
stand-trans line old mid new a b = record {
  at = λ id k. b.at id k ∙ a.at id k;
  live = λ id. b.live id ∙ a.live id;
  coherent = b.coherent;
  keys = b.keys ∙ a.keys;
  spare = b.spare ∙ a.spare;
}

module _ {S : Type 0} (line : Track) (side : Side) (to : ℕ) where
  pub sweep-starts : (m : HashMap ℕ Holder S) → AreCoherent line m → Sweeps line side to m m
  sweep-starts m coherent = record {
    along = (brings-none line 0 m coherent).along;
    others = λ id h there off. there;
  }

  pub sweep-more : (old mid new : HashMap ℕ Holder S) (id : ℕ) → Sweeps line side to old mid → Brings line id mid new → ((h : Kept) → kept_under mid id ≡ Some h → is_off side to h ≡ true) → Sweeps line side to old new
  sweep-more old mid new id swept brought off = record {
    along = stand-trans line old mid new swept.along brought.along;
    others = λ other h there on. by other h (swept.others other h there on) on (cases_eq other id);
  }
    where
      by : (other : ℕ) (h : Kept) → kept_under mid other ≡ Some h → is_off side to h ≡ false → (other ≡ id) ⊎ (other ≡ id → ⊥) → kept_under new other ≡ Some h
      by other h there on (inl e) = absurd (true≢false (sym (off h (ap (kept_under mid) (sym e) ∙ there)) ∙ on))
      by other h there on (inr ne) = brought.others other ne ∙ there

  pub place-more : (old mid new : HashMap ℕ Holder S) (id : ℕ) → ArePlaced to old mid → Brings line id mid new → ((h : Kept) → kept_under new id ≡ Some h → h.position ≡ to) → ArePlaced to old new
  place-more old mid new id placed brought there other h kept = by (cases_eq other id)
    where
      by : (other ≡ id) ⊎ (other ≡ id → ⊥) → (kept_under old other ≡ Some h) ⊎ (h.position ≡ to)
      by (inl e) = inr (there h (ap (kept_under new) (sym e) ∙ kept))
      by (inr ne) = placed other h (sym (brought.others other ne) ∙ kept)

  -- where a formula is off it was off before
  pub off-before : (old mid : HashMap ℕ Holder S) → Sweeps line side to old mid → (id : ℕ) (h : Kept) → kept_under mid id ≡ Some h → is_off side to h ≡ true → (g : Kept) × (kept_under old id ≡ Some g) × (is_off side to g ≡ true)
  off-before old mid swept id h f off = by (kept_under old id) refl
    where
      on_side : (g : Kept) → kept_under old id ≡ Some g → (b : Bool) → is_off side to g ≡ b → (k : Kept) × (kept_under old id ≡ Some k) × (is_off side to k ≡ true)
      on_side g e true away = (g, e, away)
      on_side g e false on = absurd (true≢false (sym off ∙ ap (λ k. is_off side to k) (same_Some h g (sym f ∙ swept.others id g e on)) ∙ on))

      by : (o : Option Kept) → kept_under old id ≡ o → (g : Kept) × (kept_under old id ≡ Some g) × (is_off side to g ≡ true)
      by None e = absurd (none-some h.live (sym (ap (option_map (λ k. k.live)) e) ∙ sym (swept.along.live id) ∙ ap (option_map (λ k. k.live)) f))
      by (Some g) e = on_side g e (is_off side to g) refl

  -- so it has a standing at the position where all that were off had one
  pub still-there : (old mid : HashMap ℕ Holder S) (id : ℕ) → Sweeps line side to old mid → ((id : ℕ) (h : Kept) → kept_under old id ≡ Some h → is_off side to h ≡ true → at line h to ≢ None)
      → ((h : Kept) → kept_under mid id ≡ Some h → is_off side to h ≡ true) → (h : Kept) → kept_under mid id ≡ Some h → at line h to ≢ None
  still-there old mid id swept there off h f none =
      let (g, was, away) = off-before old mid swept id h f (off h f) in
      there id g was away (sym (ap (option_and_then (λ k. at line k to)) was) ∙ sym (swept.along.at id to) ∙ ap (option_and_then (λ k. at line k to)) f ∙ none)

  -- where none was off before, none is
  pub none-off : (old mid : HashMap ℕ Holder S) (id : ℕ) → Sweeps line side to old mid → ((id : ℕ) (h : Kept) → kept_under old id ≡ Some h → is_off side to h ≡ false)
      → hash.get nat_eq mid id ≢ None → ((h : Kept) → kept_under mid id ≡ Some h → is_off side to h ≡ true) → ⊥
  none-off old mid id swept on some off = by (hash.get nat_eq mid id) refl
    where
      by : (o : Option Holder) → hash.get nat_eq mid id ≡ o → ⊥
      by None e = some e
      by (Some x) e =
          let there : kept_under mid id ≡ Some (kept_of x) = ap (option_map kept_of) e in
          let (g, was, away) = off-before old mid swept id (kept_of x) there (off (kept_of x) there) in
          true≢false (sym away ∙ on id g was)

-- ---- ids in order

-- an id that stands at a place of a list is in it, and the opposite
pub in-at : (id : ℕ) (ids : List ℕ) (i : ℕ) → slice_get ids i ≡ Some id → IsIn id ids
in-at id ids i there = list_any_at (nat_eq id) ids i 0 (slice_get_within ids i id there) (ap (nat_eq id) (get_or_from_slice_get ids i id 0 there) ∙ nat_eq_equiv.refl id)

pub in-place : (id : ℕ) (ids : List ℕ) → IsIn id ids → (i : ℕ) × (i < length ids) × (slice_get ids i ≡ Some id)
in-place id [] is = absurd (true≢false (sym is))
in-place id (x ∷ xs) is = by (nat_eq id x) refl (in-place id xs)
  where
    by : (b : Bool) → nat_eq id x ≡ b → (IsIn id xs → (i : ℕ) × (i < length xs) × (slice_get xs i ≡ Some id)) → (i : ℕ) × (i < length (x ∷ xs)) × (slice_get (x ∷ xs) i ≡ Some id)
    by true same rest = (0, omega arith, ap (λ k. Some k) (sym (eqb-true id x same)))
    by false apart rest = let (i, under, there) = rest (sym (ap (λ b. b || list_any (nat_eq id) xs) apart) ∙ is) in (suc i, omega (arith, under), there)

module _ {S : Type 0} where
  -- what is found in a table is among all its ids
  pub found-in : (m : HashMap ℕ Holder S) (id : ℕ) (h : Holder) → hash.get nat_eq m id ≡ Some h → IsIn id (hash.keys m)
  found-in m id h found = let (i, under, there) = key-place m.entries id h found in in-at id (hash.keys m) i there

  -- tables with the same keys have the same ids among them
  pub same-ids : (among : Among) (old new : HashMap ℕ Holder S) → hash.keys new ≡ hash.keys old → ids_among among new ≡ ids_among among old
  same-ids All old new same = same
  same-ids (These ids) old new same = refl

module _ {S : Type 0} (line : Track) (side : Side) (to : ℕ) (ids : List ℕ) where
  -- of the formulas whose ids stand before the index none is off
  pub record IsDone (index : ℕ) (m : HashMap ℕ Holder S) : Type 0 where
    pub done : (i id : ℕ) (h : Kept) → i < index → slice_get ids i ≡ Some id → kept_under m id ≡ Some h → is_off side to h ≡ false

  pub none-done : (m : HashMap ℕ Holder S) → IsDone 0 m
  none-done m = record { done = λ i id h under. absurd (omega (arith, under)) }

  pub done-more : (mid new : HashMap ℕ Holder S) (id index : ℕ) → IsDone index mid → Brings line id mid new → slice_get ids index ≡ Some id → ((h : Kept) → kept_under new id ≡ Some h → h.position ≡ to) → IsDone (index + 1) new
  done-more mid new id index done brought here there = record { done = λ i other h under key kept. by i other h under key kept (cases_eq other id) (cases_lt i index) }
    where
      by : (i other : ℕ) (h : Kept) → i < index + 1 → slice_get ids i ≡ Some other → kept_under new other ≡ Some h → (other ≡ id) ⊎ (other ≡ id → ⊥) → (i < index) ⊎ (index ≤ i) → is_off side to h ≡ false
      by i other h under key kept (inl e) place = not-off side to h (there h (ap (kept_under new) (sym e) ∙ kept))
      by i other h under key kept (inr ne) (inl before) = done.done i other h before key (sym (brought.others other ne) ∙ kept)
      by i other h under key kept (inr ne) (inr at) =
          let same : index ≡ i = omega (arith, under, at) in
          absurd (ne (sym (same_Some id other (sym here ∙ ap (slice_get ids) same ∙ key))))

  pub done-passes : (m : HashMap ℕ Holder S) (index : ℕ) → IsDone index m → ((id : ℕ) (h : Kept) → slice_get ids index ≡ Some id → kept_under m id ≡ Some h → is_off side to h ≡ false) → IsDone (index + 1) m
  done-passes m index done on = record { done = λ i id h under key kept. by i id h under key kept (cases_lt i index) }
    where
      by : (i id : ℕ) (h : Kept) → i < index + 1 → slice_get ids i ≡ Some id → kept_under m id ≡ Some h → (i < index) ⊎ (index ≤ i) → is_off side to h ≡ false
      by i id h under key kept (inl before) = done.done i id h before key kept
      by i id h under key kept (inr at) = let same : i ≡ index = omega (arith, under, at) in on id h (ap (slice_get ids) (sym same) ∙ key) kept

  -- where all that were off are among the ids, none is left
  pub all-done : (old m : HashMap ℕ Holder S) (index : ℕ) → Sweeps line side to old m → ((id : ℕ) (h : Kept) → kept_under old id ≡ Some h → is_off side to h ≡ true → IsIn id ids)
      → IsDone index m → length ids ≤ index → (id : ℕ) (h : Kept) → kept_under m id ≡ Some h → is_off side to h ≡ false
  all-done old m index swept among done whole id h kept = by (is_off side to h) refl
    where
      by : (b : Bool) → is_off side to h ≡ b → is_off side to h ≡ false
      by false on = on
      by true off =
          let (g, was, away) = off-before line side to old m swept id h kept off in
          let (i, under, key) = in-place id ids (among id g was away) in
          done.done i id h (omega (arith, under, whole)) key kept

-- ---- saved trees cut off

cuts-trans : (k : ℕ) (a b c : Kept) → CutsOff k a b → CutsOff k b c → CutsOff k a c
cuts-trans k a b c f g = record {
  below = g.below;
  others = λ j from. g.others j from ∙ f.others j from;
  position = g.position ∙ f.position;
  home = g.home ∙ f.home;
  tree = g.tree ∙ f.tree;
  birth = g.birth ∙ f.birth;
  live = g.live ∙ f.live;
}

both-trans : (k : ℕ) (a b c : Option Kept) → Both (CutsOff k) a b → Both (CutsOff k) b c → Both (CutsOff k) a c
both-trans k None None None f g = tt
both-trans k None None (Some z) f g = g
both-trans k None (Some y) c f g = absurd f
both-trans k (Some x) None c f g = absurd f
both-trans k (Some x) (Some y) None f g = g
both-trans k (Some x) (Some y) (Some z) f g = cuts-trans k x y z f g

module _ {S : Type 0} (k : ℕ) where
  pub cuts-none : (id : ℕ) (m : HashMap ℕ Holder S) → hash.get nat_eq m id ≡ None → Cuts k id m m
  cuts-none id m none = record {
    cut = subst (λ o. Both (CutsOff k) (option_map kept_of o) (option_map kept_of o)) (sym none) tt;
    others = λ other apart. refl;
    keys = refl;
    spare = refl;
  }

  pub cuts-one : (id : ℕ) (old new : HashMap ℕ Holder S) (x y : Holder) → hash.get nat_eq old id ≡ Some x → hash.get nat_eq new id ≡ Some y → ((other : ℕ) → nat_eq id other ≡ false → hash.get nat_eq new other ≡ hash.get nat_eq old other)
      → hash.keys new ≡ hash.keys old → hash.spare new ≡ hash.spare old → CutsOff k (kept_of x) (kept_of y) → Cuts k id old new
  cuts-one id old new x y was is apart keys spare cut = record {
    cut = subst (λ o. Both (CutsOff k) (option_map kept_of o) (kept_under new id)) (sym was) (subst (λ o. Both (CutsOff k) (Some (kept_of x)) (option_map kept_of o)) (sym is) cut);
    others = λ other ne. ap (option_map kept_of) (apart other (ne_eqb id other (λ e. ne (sym e))));
    keys = keys;
    spare = spare;
  }

  -- the formulas whose keys stand before the index are cut, and each other one is as it was or cut
  pub record AreCut (index : ℕ) (old new : HashMap ℕ Holder S) : Type 0 where
    pub each : (id : ℕ) → (kept_under new id ≡ kept_under old id) ⊎ Both (CutsOff k) (kept_under old id) (kept_under new id)
    pub done : (i id : ℕ) → i < index → slice_get (hash.keys old) i ≡ Some id → Both (CutsOff k) (kept_under old id) (kept_under new id)
    pub keys : hash.keys new ≡ hash.keys old
    pub spare : hash.spare new ≡ hash.spare old

  pub none-cut : (m : HashMap ℕ Holder S) → AreCut 0 m m
  none-cut m = record { each = λ id. inl refl; done = λ i id under. absurd (omega (arith, under)); keys = refl; spare = refl }

  pub cut-more : (old mid new : HashMap ℕ Holder S) (id index : ℕ) → AreCut index old mid → Cuts k id mid new → slice_get (hash.keys mid) index ≡ Some id → AreCut (index + 1) old new
  cut-more old mid new id index cut one here = record {
    each = λ other. each other (cut.each other) (cases_eq other id);
    done = λ i other under key. done i other under key (cases_eq other id) (cases_lt i index);
    keys = one.keys ∙ cut.keys;
    spare = one.spare ∙ cut.spare;
  }
    where
      at_it : (kept_under mid id ≡ kept_under old id) ⊎ Both (CutsOff k) (kept_under old id) (kept_under mid id) → Both (CutsOff k) (kept_under old id) (kept_under new id)
      at_it (inl same) = subst (λ o. Both (CutsOff k) o (kept_under new id)) same one.cut
      at_it (inr both) = both-trans k (kept_under old id) (kept_under mid id) (kept_under new id) both one.cut

      each : (other : ℕ) → (kept_under mid other ≡ kept_under old other) ⊎ Both (CutsOff k) (kept_under old other) (kept_under mid other) → (other ≡ id) ⊎ (other ≡ id → ⊥) → (kept_under new other ≡ kept_under old other) ⊎ Both (CutsOff k) (kept_under old other) (kept_under new other)
      each other any (inl e) = inr (subst (λ j. Both (CutsOff k) (kept_under old j) (kept_under new j)) (sym e) (at_it (cut.each id)))
      each other (inl same) (inr ne) = inl (one.others other ne ∙ same)
      each other (inr both) (inr ne) = inr (subst (Both (CutsOff k) (kept_under old other)) (sym (one.others other ne)) both)

      done : (i other : ℕ) → i < index + 1 → slice_get (hash.keys old) i ≡ Some other → (other ≡ id) ⊎ (other ≡ id → ⊥) → (i < index) ⊎ (index ≤ i) → Both (CutsOff k) (kept_under old other) (kept_under new other)
      done i other under key (inl e) place = subst (λ j. Both (CutsOff k) (kept_under old j) (kept_under new j)) (sym e) (at_it (cut.each id))
      done i other under key (inr ne) (inl before) = subst (Both (CutsOff k) (kept_under old other)) (sym (one.others other ne)) (cut.done i other before key)
      done i other under key (inr ne) (inr at) =
          let same : index ≡ i = omega (arith, under, at) in
          let both : Some id ≡ Some other = sym here ∙ ap (λ ks. slice_get ks index) cut.keys ∙ ap (slice_get (hash.keys old)) same ∙ key in
          absurd (ne (sym (same_Some id other both)))

  pub cut-passes : (old mid : HashMap ℕ Holder S) (index : ℕ) → AreCut index old mid → slice_get (hash.keys mid) index ≡ None → AreCut (index + 1) old mid
  cut-passes old mid index cut none = record { each = cut.each; done = λ i id under key. by i id under key (cases_lt i index); keys = cut.keys; spare = cut.spare }
    where
      by : (i id : ℕ) → i < index + 1 → slice_get (hash.keys old) i ≡ Some id → (i < index) ⊎ (index ≤ i) → Both (CutsOff k) (kept_under old id) (kept_under mid id)
      by i id under key (inl before) = cut.done i id before key
      by i id under key (inr at) =
          let same : index ≡ i = omega (arith, under, at) in
          absurd (none-some id (sym none ∙ ap (λ ks. slice_get ks index) cut.keys ∙ ap (slice_get (hash.keys old)) same ∙ key))

  pub all-cut : (old new : HashMap ℕ Holder S) (index : ℕ) → AreCut index old new → length old.entries ≤ index → (id : ℕ) → Both (CutsOff k) (kept_under old id) (kept_under new id)
  all-cut old new index cut whole id = by (hash.get nat_eq old id) refl (cut.each id)
    where
      by : (o : Option Holder) → hash.get nat_eq old id ≡ o → (kept_under new id ≡ kept_under old id) ⊎ Both (CutsOff k) (kept_under old id) (kept_under new id) → Both (CutsOff k) (kept_under old id) (kept_under new id)
      by None e (inl same) = subst (Both (CutsOff k) (kept_under old id)) (sym same) (subst (λ o. Both (CutsOff k) (option_map kept_of o) (option_map kept_of o)) (sym e) tt)
      by None e (inr both) = both
      by (Some x) e any = let (i, under, key) = key-place old.entries id x e in cut.done i id (omega (arith, under, whole)) key
