-- Formulas that are noted as kept beyond a position. Serves the calls that add, read and drop formulas, and those that take
-- formulas along the line.
use Rattle.std.proofs.Common.{◌≡◌, ◌∙◌, sym, ap, refl, subst, arith, ℕ, ◌+◌, ◌<◌, ◌≤◌, ◌⊎◌, ⊎_elim, inl, inr, Bool, true, false, true≢false, ◌&&◌, if◌then◌else◌, nat_eq, nat_le, nat_lt, ne_eqb, List, length, slice_get, Option, Some, None, option_and_then, option_map, Result, Ok, Err}
use Rattle.std.proofs.lemmas.Bool.{cases_eq, cases_lt, leb-false, ltb-true}
use Rattle.std.proofs.lemmas.Option.{none-some, same_Some}
use Rattle.std.specs.HashMap as hash
use Rattle.std.specs.HashMap.{HashMap}
use Rattle.std.specs.Map.{lookup}
use Rattle.std.specs.Prelude.{OnErr, OnOk, ⊤}
use Rattle.shift_line.specs.Track.{Track, forgotten, last, with_spare}
use Rattle.lazy_store.specs.Holders.{AreCoherent, kept_of, kept_under}
use Rattle.lazy_store.specs.Kept.{Kept}
use Rattle.lazy_store.specs.declared.among.Among.{Among}
use Rattle.lazy_store.specs.declared.holder.Holder.{Holder}
use Rattle.lazy_store.specs.declared.holders.Side.{Side}
use Rattle.lazy_store.specs.declared.holders.Side.TheVariants.{Before, Beyond, Returning}
use Rattle.lazy_store.specs.declared.recent.Recent.{Recent}
use Rattle.lazy_store.specs.internal.Recent.{AreLookedAt, AreNoted, IsIn, IsNoted, ids_among}
use Rattle.lazy_store.specs.internal.Sweeps.{Brings, Sweeps, holder_born_by, is_off}
use Rattle.lazy_store.proofs.Lines.{is-forgotten}
use Rattle.lazy_store.proofs.Tables.{in-place, mapped-some}

module _ {S : Type 0} (m : HashMap ℕ Holder S) where
  -- the notes changed, but for no formula of the line
  pub noted-after : (line : Track) (old new : Recent) → AreCoherent line m → AreNoted old m → ((id k : ℕ) → k ≤ last line → IsNoted old id k → IsNoted new id k) → AreNoted new m
  noted-after line old new coherent noted keeps id h is = keeps id h.position (coherent id h is).within (noted id h is)

  -- none is kept as of a position beyond that from which all are noted
  pub noted-within : (line : Track) (recent : Recent) → AreCoherent line m → ((id k : ℕ) → k ≤ last line → IsNoted recent id k) → AreNoted recent m
  noted-within line recent coherent all id h is = all id h.position (coherent id h is).within

module _ {S : Type 0} (recent : Recent) (old new : HashMap ℕ Holder S) where
  -- each formula of a table is one of another where all are noted, or is noted
  pub noted-by : AreNoted recent old → ((id : ℕ) (h : Holder) → hash.get nat_eq new id ≡ Some h → ((g : Holder) × (hash.get nat_eq old id ≡ Some g) × (g.position ≡ h.position)) ⊎ IsNoted recent id h.position) → AreNoted recent new
  noted-by noted from id h is = by (from id h is)
    where
      by : ((g : Holder) × (hash.get nat_eq old id ≡ Some g) × (g.position ≡ h.position)) ⊎ IsNoted recent id h.position → IsNoted recent id h.position
      by (inl (g, was, same)) = subst (IsNoted recent id) same (noted id g was)
      by (inr one) = one

  -- so where one came or changed that is noted
  pub noted-changed : (id : ℕ) (y : Holder) → ((other : ℕ) → nat_eq id other ≡ false → hash.get nat_eq new other ≡ hash.get nat_eq old other) → hash.get nat_eq new id ≡ Some y → IsNoted recent id y.position → AreNoted recent old → AreNoted recent new
  noted-changed id y apart there one noted = noted-by noted (λ other h is. by other h is (cases_eq other id))
    where
      by : (other : ℕ) (h : Holder) → hash.get nat_eq new other ≡ Some h → (other ≡ id) ⊎ (other ≡ id → ⊥) → ((g : Holder) × (hash.get nat_eq old other ≡ Some g) × (g.position ≡ h.position)) ⊎ IsNoted recent other h.position
      by other h is (inl e) = inr (subst (λ i. IsNoted recent i h.position) (sym e) (subst (λ (z : Holder). IsNoted recent id z.position) (same_Some y h (sym there ∙ ap (hash.get nat_eq new) (sym e) ∙ is)) one))
      by other h is (inr ne) = inl (h, sym (apart other (ne_eqb id other (λ e. ne (sym e)))) ∙ is, refl)

  -- or one left
  pub noted-left : (id : ℕ) → ((other : ℕ) → nat_eq id other ≡ false → hash.get nat_eq new other ≡ hash.get nat_eq old other) → hash.get nat_eq new id ≡ None → AreNoted recent old → AreNoted recent new
  noted-left id apart none noted = noted-by noted (λ other h is. by other h is (cases_eq other id))
    where
      by : (other : ℕ) (h : Holder) → hash.get nat_eq new other ≡ Some h → (other ≡ id) ⊎ (other ≡ id → ⊥) → ((g : Holder) × (hash.get nat_eq old other ≡ Some g) × (g.position ≡ h.position)) ⊎ IsNoted recent other h.position
      by other h is (inl e) = absurd (none-some h (sym none ∙ ap (hash.get nat_eq new) (sym e) ∙ is))
      by other h is (inr ne) = inl (h, sym (apart other (ne_eqb id other (λ e. ne (sym e)))) ∙ is, refl)

  -- where the entries are the same
  pub noted-unchanged : new.entries ≡ old.entries → AreNoted recent old → AreNoted recent new
  noted-unchanged same noted id h is = noted id h (sym (ap (lookup (nat_eq id)) same) ∙ is)

module _ {S : Type 0} {T E : Type 0} (r : Result T E) (recent : Recent) (id : ℕ) (old new : HashMap ℕ Holder S) (y : Holder) where
  -- a table to which a formula was to be added: it was, or the table is as it was
  pub noted-inserted : AreNoted recent old → IsNoted recent id y.position → OnOk r (hash.Updates nat_eq old new id (Some y)) → OnErr r (hash.IsUnchanged old new) → AreNoted recent new
  noted-inserted noted one ok err = by r ok err
    where
      by : (r : Result T E) → OnOk r (hash.Updates nat_eq old new id (Some y)) → OnErr r (hash.IsUnchanged old new) → AreNoted recent new
      by (Ok x) ok err = noted-changed recent old new id y ok.2 ok.1 one noted
      by (Err x) ok err = noted-unchanged recent old new err noted

module _ {S : Type 0} (recent : Recent) (old new : HashMap ℕ Holder S) where
  -- a part of a table
  pub noted-among : (test : ℕ → Bool) → ((id : ℕ) → hash.get nat_eq new id ≡ (if test id then hash.get nat_eq old id else None)) → AreNoted recent old → AreNoted recent new
  noted-among test found noted = noted-by recent old new noted (λ id h is. inl (by id h (test id) (sym (found id) ∙ is)))
    where
      by : (id : ℕ) (h : Holder) (b : Bool) → (if b then hash.get nat_eq old id else None) ≡ Some h → (g : Holder) × (hash.get nat_eq old id ≡ Some g) × (g.position ≡ h.position)
      by id h true e = (h, e, refl)
      by id h false e = absurd (none-some h e)

  pub noted-born : (k : ℕ) → ((id : ℕ) → hash.get nat_eq new id ≡ option_and_then (holder_born_by k) (hash.get nat_eq old id)) → AreNoted recent old → AreNoted recent new
  noted-born k found noted = noted-by recent old new noted (λ id h is. inl (by id h (hash.get nat_eq old id) refl (sym (found id) ∙ is)))
    where
      one : (id : ℕ) (h g : Holder) (b : Bool) → hash.get nat_eq old id ≡ Some g → (if b then Some g else None) ≡ Some h → (g : Holder) × (hash.get nat_eq old id ≡ Some g) × (g.position ≡ h.position)
      one id h g true was e = (h, was ∙ e, refl)
      one id h g false was e = absurd (none-some h e)

      by : (id : ℕ) (h : Holder) (o : Option Holder) → hash.get nat_eq old id ≡ o → option_and_then (holder_born_by k) o ≡ Some h → (g : Holder) × (hash.get nat_eq old id ≡ Some g) × (g.position ≡ h.position)
      by id h None was e = absurd (none-some h e)
      by id h (Some g) was e = one id h g (nat_le g.birth k) was e

  -- a formula that is kept as it was is there, as of the same position
  same-place : (id : ℕ) (h : Holder) → hash.get nat_eq new id ≡ Some h → kept_under old id ≡ Some (kept_of h) → (g : Holder) × (hash.get nat_eq old id ≡ Some g) × (g.position ≡ h.position)
  same-place id h is was = let (g, found, same) = mapped-some kept_of (hash.get nat_eq old id) (kept_of h) was in (g, found, ap (λ k. k.position) same)

  module _ (line : Track) where
    -- one formula went along the line, and is noted wherever it is
    pub noted-brought : (id : ℕ) → Brings line id old new → ((k : ℕ) → k ≤ last line → IsNoted recent id k) → AreNoted recent old → AreNoted recent new
    noted-brought id brought one noted = noted-by recent old new noted (λ other h is. by other h is (cases_eq other id))
      where
        by : (other : ℕ) (h : Holder) → hash.get nat_eq new other ≡ Some h → (other ≡ id) ⊎ (other ≡ id → ⊥) → ((g : Holder) × (hash.get nat_eq old other ≡ Some g) × (g.position ≡ h.position)) ⊎ IsNoted recent other h.position
        by other h is (inl e) = inr (subst (λ i. IsNoted recent i h.position) (sym e) (one h.position (brought.along.coherent other h is).within))
        by other h is (inr ne) = inl (same-place other h is (sym (brought.others other ne) ∙ ap (option_map kept_of) is))

    -- all of a side did, and each of these is noted wherever it is
    pub noted-swept : (side : Side) (to : ℕ) → Sweeps line side to old new → ((id : ℕ) (g : Kept) → kept_under old id ≡ Some g → is_off side to g ≡ true → (k : ℕ) → k ≤ last line → IsNoted recent id k) → AreNoted recent old → AreNoted recent new
    noted-swept side to swept off noted = noted-by recent old new noted (λ id h is. by id h is (kept_under old id) refl)
      where
        on_side : (id : ℕ) (h : Holder) → hash.get nat_eq new id ≡ Some h → (g : Kept) → kept_under old id ≡ Some g → (b : Bool) → is_off side to g ≡ b → ((x : Holder) × (hash.get nat_eq old id ≡ Some x) × (x.position ≡ h.position)) ⊎ IsNoted recent id h.position
        on_side id h is g was true away = inr (off id g was away h.position (swept.along.coherent id h is).within)
        on_side id h is g was false on = inl (same-place id h is (was ∙ sym (swept.others id g was on) ∙ ap (option_map kept_of) is))

        by : (id : ℕ) (h : Holder) → hash.get nat_eq new id ≡ Some h → (o : Option Kept) → kept_under old id ≡ o → ((x : Holder) × (hash.get nat_eq old id ≡ Some x) × (x.position ≡ h.position)) ⊎ IsNoted recent id h.position
        by id h is None was = absurd (none-some h.live (sym (ap (option_map (λ k. k.live)) was) ∙ sym (swept.along.live id) ∙ ap (λ o. option_map (λ k. k.live) (option_map kept_of o)) is))
        by id h is (Some g) was = on_side id h is g was (is_off side to g) refl

-- what is kept as of a position beyond one from which all are noted, or behind which none has to be, is noted wherever it is
pub noted-beyond : {S : Type 0} (line : Track) (recent : Recent) (position : ℕ) (m : HashMap ℕ Holder S) → (recent.from ≤ position) ⊎ (last line ≤ recent.from) → AreNoted recent m → (id : ℕ) (g : Kept) → kept_under m id ≡ Some g → position < g.position → (k : ℕ) → k ≤ last line → IsNoted recent id k
noted-beyond line recent position m either noted id g is above k within from = by either
  where
    by : (recent.from ≤ position) ⊎ (last line ≤ recent.from) → IsIn id recent.ids.items
    by (inl upto) =
        let (x, found, same) = mapped-some kept_of (hash.get nat_eq m id) g is in
        let place : x.position ≡ g.position = ap (λ h. h.position) same in
        noted id x found (omega (arith, upto, above, place))
    by (inr past) = absurd (omega (arith, past, within, from))

-- the side of those that are taken back
abbrev TakesBack : Side → Type 0
TakesBack Before = ⊥
TakesBack Beyond = ⊤
TakesBack Returning = ⊤

-- what is taken back to a position is kept as of one beyond it
pub off-beyond : (side : Side) (k : ℕ) (h : Kept) → TakesBack side → is_off side k h ≡ true → k < h.position
off-beyond Before k h back off = absurd back
off-beyond Beyond k h back off = ltb-true k h.position off
off-beyond Returning k h back off = by (nat_lt k h.position) (nat_le h.birth k) refl off
  where
    by : (above born : Bool) → nat_lt k h.position ≡ above → above && born ≡ true → k < h.position
    by true born is both = ltb-true k h.position is
    by false born is both = absurd (true≢false (sym both))

-- and looked at
pub off-among : {S : Type 0} (side : Side) (k : ℕ) (among : Among) (m : HashMap ℕ Holder S) → TakesBack side → AreLookedAt among k m → (id : ℕ) (h : Kept) → kept_under m id ≡ Some h → is_off side k h ≡ true → IsIn id (ids_among among m)
off-among side k among m back looked id h is off =
    let (x, found, same) = mapped-some kept_of (hash.get nat_eq m id) h is in
    let place : x.position ≡ h.position = ap (λ z. z.position) same in
    let above = off-beyond side k h back off in
    looked id x found (omega (arith, above, place))

-- so the notes stay right while all of a side are taken back
pub noted-back : {S : Type 0} (line : Track) (recent : Recent) (side : Side) (position : ℕ) (old new : HashMap ℕ Holder S) → TakesBack side → Sweeps line side position old new → (recent.from ≤ position) ⊎ (last line ≤ recent.from) → AreNoted recent old → AreNoted recent new
noted-back line recent side position old new back swept either noted =
    noted-swept recent old new line side position swept (λ id g is off. noted-beyond line recent position old either noted id g is (off-beyond side position g back off)) noted

-- the last position stays where the first ones are forgotten
pub forgotten-last : (k : ℕ) (line new : Track) → new ≡ with_spare new.spare (forgotten k line) → line.first ≤ k → k ≤ last line → last new ≡ last line
forgotten-last k line new kept from within = ap last kept ∙ (is-forgotten new.spare k line from within).end

-- ---- formulas that are dropped one by one

-- dropped twice is dropped once
born-twice : (k : ℕ) (o : Option Holder) → option_and_then (holder_born_by k) (option_and_then (holder_born_by k) o) ≡ option_and_then (holder_born_by k) o
born-twice k None = refl
born-twice k (Some h) = by (nat_le h.birth k) refl
  where
    by : (b : Bool) → nat_le h.birth k ≡ b → option_and_then (holder_born_by k) (if b then Some h else None) ≡ (if b then Some h else None)
    by true e = ap (λ b. if b then Some h else None) e
    by false e = refl

module _ {S : Type 0} (k : ℕ) (ids : List ℕ) where
  -- those whose ids stand before the index are dropped where they were born beyond the position, and each other one may be
  pub record AreDropped (index : ℕ) (old new : HashMap ℕ Holder S) : Type 0 where
    pub each : (id : ℕ) → (hash.get nat_eq new id ≡ hash.get nat_eq old id) ⊎ (hash.get nat_eq new id ≡ option_and_then (holder_born_by k) (hash.get nat_eq old id))
    pub done : (i id : ℕ) → i < index → slice_get ids i ≡ Some id → hash.get nat_eq new id ≡ option_and_then (holder_born_by k) (hash.get nat_eq old id)
    pub spare : hash.spare old ≤ hash.spare new

  pub none-dropped : (m : HashMap ℕ Holder S) → AreDropped 0 m m
  none-dropped m = record { each = λ id. inl refl; done = λ i id under. absurd (omega (arith, under)); spare = omega arith }

  pub drop-more : (old mid new : HashMap ℕ Holder S) (id index : ℕ) → AreDropped index old mid → slice_get ids index ≡ Some id → hash.get nat_eq new id ≡ option_and_then (holder_born_by k) (hash.get nat_eq mid id)
      → ((other : ℕ) → nat_eq id other ≡ false → hash.get nat_eq new other ≡ hash.get nat_eq mid other) → hash.spare mid ≤ hash.spare new → AreDropped (index + 1) old new
  drop-more old mid new id index dropped here one apart spare = record {
    each = λ other. each other (cases_eq other id);
    done = λ i other under key. done i other under key (cases_eq other id);
    spare = let before = dropped.spare in omega (arith, before, spare);
  }
    where
      at_it : hash.get nat_eq new id ≡ option_and_then (holder_born_by k) (hash.get nat_eq old id)
      at_it = by (dropped.each id)
        where
          by : (hash.get nat_eq mid id ≡ hash.get nat_eq old id) ⊎ (hash.get nat_eq mid id ≡ option_and_then (holder_born_by k) (hash.get nat_eq old id)) → hash.get nat_eq new id ≡ option_and_then (holder_born_by k) (hash.get nat_eq old id)
          by (inl same) = one ∙ ap (option_and_then (holder_born_by k)) same
          by (inr gone) = one ∙ ap (option_and_then (holder_born_by k)) gone ∙ born-twice k (hash.get nat_eq old id)

      here_too : (other : ℕ) → other ≡ id → hash.get nat_eq new other ≡ option_and_then (holder_born_by k) (hash.get nat_eq old other)
      here_too other e = subst (λ j. hash.get nat_eq new j ≡ option_and_then (holder_born_by k) (hash.get nat_eq old j)) (sym e) at_it

      stays : (other : ℕ) → (other ≡ id → ⊥) → hash.get nat_eq new other ≡ hash.get nat_eq mid other
      stays other ne = apart other (ne_eqb id other (λ e. ne (sym e)))

      each : (other : ℕ) → (other ≡ id) ⊎ (other ≡ id → ⊥) → (hash.get nat_eq new other ≡ hash.get nat_eq old other) ⊎ (hash.get nat_eq new other ≡ option_and_then (holder_born_by k) (hash.get nat_eq old other))
      each other (inl e) = inr (here_too other e)
      each other (inr ne) = ⊎_elim (λ (same : hash.get nat_eq mid other ≡ hash.get nat_eq old other). inl (stays other ne ∙ same)) (λ (gone : hash.get nat_eq mid other ≡ option_and_then (holder_born_by k) (hash.get nat_eq old other)). inr (stays other ne ∙ gone)) (dropped.each other)

      done : (i other : ℕ) → i < index + 1 → slice_get ids i ≡ Some other → (other ≡ id) ⊎ (other ≡ id → ⊥) → hash.get nat_eq new other ≡ option_and_then (holder_born_by k) (hash.get nat_eq old other)
      done i other under key (inl e) = here_too other e
      done i other under key (inr ne) = by (cases_lt i index)
        where
          by : (i < index) ⊎ (index ≤ i) → hash.get nat_eq new other ≡ option_and_then (holder_born_by k) (hash.get nat_eq old other)
          by (inl before) = stays other ne ∙ dropped.done i other before key
          by (inr at) =
              let same : index ≡ i = omega (arith, under, at) in
              absurd (ne (sym (same_Some id other (sym here ∙ ap (slice_get ids) same ∙ key))))

  pub all-dropped : (old new : HashMap ℕ Holder S) (index : ℕ) → AreDropped index old new → length ids ≤ index → ((id : ℕ) (h : Holder) → hash.get nat_eq old id ≡ Some h → k < h.birth → IsIn id ids)
      → (id : ℕ) → hash.get nat_eq new id ≡ option_and_then (holder_born_by k) (hash.get nat_eq old id)
  all-dropped old new index dropped whole among id = by (hash.get nat_eq old id) refl (dropped.each id)
    where
      one : (h : Holder) → hash.get nat_eq old id ≡ Some h → (b : Bool) → nat_le h.birth k ≡ b → hash.get nat_eq new id ≡ hash.get nat_eq old id → hash.get nat_eq new id ≡ option_and_then (holder_born_by k) (hash.get nat_eq old id)
      one h was true born same = same ∙ was ∙ sym (ap (option_and_then (holder_born_by k)) was ∙ ap (λ b. if b then Some h else None) born)
      one h was false unborn same =
          let (i, under, key) = in-place id ids (among id h was (leb-false h.birth k unborn)) in
          dropped.done i id (omega (arith, under, whole)) key

      by : (o : Option Holder) → hash.get nat_eq old id ≡ o → (hash.get nat_eq new id ≡ hash.get nat_eq old id) ⊎ (hash.get nat_eq new id ≡ option_and_then (holder_born_by k) (hash.get nat_eq old id)) → hash.get nat_eq new id ≡ option_and_then (holder_born_by k) (hash.get nat_eq old id)
      by o was (inr gone) = gone
      by None was (inl same) = same ∙ was ∙ sym (ap (option_and_then (holder_born_by k)) was)
      by (Some h) was (inl same) = one h was (nat_le h.birth k) refl same
