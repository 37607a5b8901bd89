-- Formulas by the positions at which they were born. Serves the calls that take formulas back before the line is cut, and drop
-- those that were born beyond the cut or are named no more.
use Rattle.std.proofs.Common.{◌≡◌, ◌≢◌, ◌∙◌, sym, ap, refl, subst, arith, ℕ, ◌<◌, ◌≤◌, ⊎_elim, Bool, true, false, true≢false, ◌&&◌, if◌then◌else◌, nat_eq, nat_le, nat_lt, le-ltb, lt-ltb, Option, Some, None, option_map, option_and_then}
use Rattle.std.proofs.lemmas.Bool.{cases_lt, le-leb, leb-false, leb-true, lt-leb, ltb-true}
use Rattle.std.proofs.lemmas.Map.Entries.{option_filter}
use Rattle.std.proofs.lemmas.Option.{none-some, same_Some}
use Rattle.std.specs.HashMap as hash
use Rattle.std.specs.HashMap.{HashMap}
use Rattle.shift_line.specs.Track.{Track, last}
use Rattle.lazy_store.specs.Holders.{AreCoherent, kept_of, kept_under}
use Rattle.lazy_store.specs.Kept.{IsCoherent, IsSoundLine, Kept, at, history, lowest}
use Rattle.lazy_store.specs.Store.{if_born_by}
use Rattle.lazy_store.specs.declared.holder.Holder.{Holder}
use Rattle.lazy_store.specs.declared.holders.Side.TheVariants.{Returning}
use Rattle.lazy_store.specs.internal.Sweeps.{Sweeps, at_under, holder_born_by, is_off}
use Rattle.lazy_store.proofs.Histories.{at-below, at-is}
use Rattle.lazy_store.proofs.Stores.{StandBehind}
use Rattle.lazy_store.proofs.Tables.{mapped-some}

-- ---- one formula

module _ (line : Track) (h : Kept) (coherent : IsCoherent line h) where
  -- it isn't kept as of a position before its birth
  pub born-before : h.birth ≤ h.position
  born-before = let from = coherent.along.from in omega (arith, from)

  -- before its birth it has no standing
  pub none-unborn : (k : ℕ) → k < h.birth → at line h k ≡ None
  none-unborn k under = let from = coherent.along.from in at-below line h k (omega (arith, under, from)) (omega (arith, under))

  -- from its birth to the position as of which it is kept it has standings
  pub some-born : IsSoundLine line → (k : ℕ) → line.first ≤ k → h.birth ≤ k → k ≤ h.position → at line h k ≢ None
  some-born sound k first born to none = none-some (history line h k) (sym none ∙ at-is line sound (lowest line h) h.position (history line h) h coherent.along refl k (omega (arith, first, born)) to)

-- ---- tables before the line is cut

and-false : (b : Bool) → b && false ≡ false
and-false true = refl
and-false false = refl

-- a formula is to return where it is kept as of a position beyond, and was born by this one
returning : (k : ℕ) (h : Kept) → is_off Returning k h ≡ true → (k < h.position) × (h.birth ≤ k)
returning k h off = by (nat_lt k h.position) (nat_le h.birth k) refl refl off
  where
    by : (above born : Bool) → nat_lt k h.position ≡ above → nat_le h.birth k ≡ born → above && born ≡ true → (k < h.position) × (h.birth ≤ k)
    by true true is too both = (ltb-true k h.position is, leb-true h.birth k too)
    by true false is too both = absurd (true≢false (sym both))
    by false born is too both = absurd (true≢false (sym both))

-- it isn't where it is kept as of one up to this one, or was born beyond it
behind-stays : (k : ℕ) (h : Kept) → h.position ≤ k → is_off Returning k h ≡ false
behind-stays k h to = ap (λ b. b && nat_le h.birth k) (le-ltb k h.position to)

unborn-stays : (k : ℕ) (h : Kept) → k < h.birth → is_off Returning k h ≡ false
unborn-stays k h under = ap (λ b. nat_lt k h.position && b) (lt-leb h.birth k under) ∙ and-false (nat_lt k h.position)

module _ {S : Type 0} (line : Track) (k : ℕ) (m : HashMap ℕ Holder S) where
  -- what returns to a position has a standing there
  pub can-return : IsSoundLine line → AreCoherent line m → line.first ≤ k → (id : ℕ) (h : Kept) → kept_under m id ≡ Some h → is_off Returning k h ≡ true → at line h k ≢ None
  can-return sound coherent first id h is off =
      let (x, found, same) = mapped-some kept_of (hash.get nat_eq m id) h is in
      let both = returning k h off in
      let above = both.0 in
      some-born line h (subst (IsCoherent line) same (coherent id x found)) sound k first both.1 (omega (arith, above))

  -- where none is left to return, those beyond were born beyond
  pub none-returning : ((id : ℕ) (h : Kept) → kept_under m id ≡ Some h → is_off Returning k h ≡ false) → (id : ℕ) (h : Kept) → kept_under m id ≡ Some h → k < h.position → k < h.birth
  none-returning on id h is above = by (nat_le h.birth k) refl
    where
      by : (born : Bool) → nat_le h.birth k ≡ born → k < h.birth
      by true e = absurd (true≢false (sym (ap (λ b. b && nat_le h.birth k) (lt-ltb k h.position above) ∙ e) ∙ on id h is))
      by false e = leb-false h.birth k e

  -- and the opposite
  pub returned-stay : ((id : ℕ) (h : Kept) → kept_under m id ≡ Some h → k < h.position → k < h.birth) → (id : ℕ) (h : Kept) → kept_under m id ≡ Some h → is_off Returning k h ≡ false
  returned-stay returned id h is = ⊎_elim (λ (above : k < h.position). unborn-stays k h (returned id h is above)) (λ (to : h.position ≤ k). behind-stays k h to) (cases_lt k h.position)

  module _ (new : HashMap ℕ Holder S) (swept : Sweeps line Returning k m new) where
    pub keeps-behind : (id : ℕ) (h : Kept) → kept_under m id ≡ Some h → h.position ≤ k → kept_under new id ≡ Some h
    keeps-behind id h is to = swept.others id h is (behind-stays k h to)

    pub keeps-unborn : (id : ℕ) (h : Kept) → kept_under m id ≡ Some h → k < h.birth → kept_under new id ≡ Some h
    keeps-unborn id h is under = swept.others id h is (unborn-stays k h under)

-- ---- tables without the formulas that were born beyond

-- no formula of a coherent table was born beyond the last position of the line
pub all-born : {S : Type 0} (line : Track) (k : ℕ) (m : HashMap ℕ Holder S) → AreCoherent line m → last line ≤ k → (id : ℕ) → kept_under m id ≡ option_and_then (if_born_by k) (kept_under m id)
all-born line k m coherent past id = by (hash.get nat_eq m id) refl
  where
    by : (o : Option Holder) → hash.get nat_eq m id ≡ o → option_map kept_of o ≡ option_and_then (if_born_by k) (option_map kept_of o)
    by None is = refl
    by (Some x) is =
        let born = born-before line (kept_of x) (coherent id x is) in
        let within = (coherent id x is).within in
        sym (ap (λ b. if b then Some (kept_of x) else None) (le-leb x.birth k (omega (arith, born, within, past))))

-- a filter of one holder
pub filtered-born : (k : ℕ) (o : Option Holder) → option_filter (λ h. nat_le h.birth k) o ≡ option_and_then (holder_born_by k) o
filtered-born k None = refl
filtered-born k (Some x) = refl

-- what is found of the formulas that were born up to a position, by another name of it
pub found-here : {S : Type 0} (m n : HashMap ℕ Holder S) (j k : ℕ) → j ≡ k → ((id : ℕ) → hash.get nat_eq n id ≡ option_and_then (holder_born_by j) (hash.get nat_eq m id)) → (id : ℕ) → hash.get nat_eq n id ≡ option_and_then (holder_born_by k) (hash.get nat_eq m id)
found-here m n j k same found id = found id ∙ ap (λ p. option_and_then (holder_born_by p) (hash.get nat_eq m id)) same

module _ {S : Type 0} (line : Track) (k : ℕ) (m n : HashMap ℕ Holder S) (found : (id : ℕ) → hash.get nat_eq n id ≡ option_and_then (holder_born_by k) (hash.get nat_eq m id)) where
  pub born-kept : (id : ℕ) → kept_under n id ≡ option_and_then (if_born_by k) (kept_under m id)
  born-kept id = ap (option_map kept_of) (found id) ∙ by (hash.get nat_eq m id)
    where
      one : (x : Holder) (b : Bool) → option_map kept_of (if b then Some x else None) ≡ (if b then Some (kept_of x) else None)
      one x true = refl
      one x false = refl

      by : (o : Option Holder) → option_map kept_of (option_and_then (holder_born_by k) o) ≡ option_and_then (if_born_by k) (option_map kept_of o)
      by None = refl
      by (Some x) = one x (nat_le x.birth k)

  module _ (coherent : AreCoherent line m) where
    pub born-coherent : AreCoherent line n
    born-coherent id h there = by (hash.get nat_eq m id) refl (sym (found id) ∙ there)
      where
        one : (x : Holder) (b : Bool) → hash.get nat_eq m id ≡ Some x → (if b then Some x else None) ≡ Some h → IsCoherent line (kept_of h)
        one x true is e = subst (λ z. IsCoherent line (kept_of z)) (same_Some x h e) (coherent id x is)
        one x false is e = absurd (none-some h e)

        by : (o : Option Holder) → hash.get nat_eq m id ≡ o → option_and_then (holder_born_by k) o ≡ Some h → IsCoherent line (kept_of h)
        by None is e = absurd (none-some h e)
        by (Some x) is e = one x (nat_le x.birth k) is e

    -- up to the position each formula has the standings that it had
    pub born-standings : (id j : ℕ) → j ≤ k → at_under line n id j ≡ at_under line m id j
    born-standings id j to = ap (option_and_then (λ h. at line h j)) (born-kept id) ∙ by (hash.get nat_eq m id) refl
      where
        one : (x : Holder) (b : Bool) → hash.get nat_eq m id ≡ Some x → nat_le x.birth k ≡ b → option_and_then (λ h. at line h j) (if b then Some (kept_of x) else None) ≡ at line (kept_of x) j
        one x true is e = refl
        one x false is e = let under = leb-false x.birth k e in sym (none-unborn line (kept_of x) (coherent id x is) j (omega (arith, under, to)))

        by : (o : Option Holder) → hash.get nat_eq m id ≡ o → option_and_then (λ h. at line h j) (option_and_then (if_born_by k) (option_map kept_of o)) ≡ option_and_then (λ h. at line h j) (option_map kept_of o)
        by None is = refl
        by (Some x) is = one x (nat_le x.birth k) is refl

  -- none is beyond it where those beyond were born beyond
  pub born-behind : ((id : ℕ) (h : Kept) → kept_under m id ≡ Some h → k < h.position → k < h.birth) → StandBehind k n
  born-behind returned id h is = by (kept_under m id) refl (sym (born-kept id) ∙ is)
    where
      one : (g : Kept) (b : Bool) → kept_under m id ≡ Some g → nat_le g.birth k ≡ b → (if b then Some g else None) ≡ Some h → h.position ≤ k
      one g true was e f =
          let born = leb-true g.birth k e in
          subst (λ (z : Kept). z.position ≤ k) (same_Some g h f) (⊎_elim (λ (above : k < g.position). let under = returned id g was above in absurd (omega (arith, born, under))) (λ (to : g.position ≤ k). to) (cases_lt k g.position))
      one g false was e f = absurd (none-some h f)

      by : (o : Option Kept) → kept_under m id ≡ o → option_and_then (if_born_by k) o ≡ Some h → h.position ≤ k
      by None was e = absurd (none-some h e)
      by (Some g) was e = one g (nat_le g.birth k) was refl e

-- ---- tables without the formulas that are named no more

module _ {S : Type 0} (test : ℕ → Bool) (m n : HashMap ℕ Holder S) (found : (id : ℕ) → hash.get nat_eq n id ≡ (if test id then hash.get nat_eq m id else None)) where
  pub among-kept : (id : ℕ) → kept_under n id ≡ (if test id then kept_under m id else None)
  among-kept id = ap (option_map kept_of) (found id) ∙ by (test id)
    where
      by : (b : Bool) → option_map kept_of (if b then hash.get nat_eq m id else None) ≡ (if b then kept_under m id else None)
      by true = refl
      by false = refl

  pub among-coherent : (line : Track) → AreCoherent line m → AreCoherent line n
  among-coherent line coherent id h there = by (test id) (sym (found id) ∙ there)
    where
      by : (b : Bool) → (if b then hash.get nat_eq m id else None) ≡ Some h → IsCoherent line (kept_of h)
      by true e = coherent id h e
      by false e = absurd (none-some h e)
