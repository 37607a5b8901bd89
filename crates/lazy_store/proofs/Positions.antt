-- As of which positions formulas are kept after they were taken along the line. Serves the calls that take all formulas of
-- one side along.
use Rattle.std.proofs.Common.{◌≡◌, ◌∙◌, sym, ap, refl, arith, ℕ, ◌≤◌, max, min, nat_le, nat_lt, ◌⊎◌, inl, inr, Result, Ok, Err, Bool, true, false, true≢false, ◌&&◌, if◌then◌else◌, Option, Some, None, option_map}
use Rattle.std.proofs.lemmas.Bool.{ltb-false, ltb-true}
use Rattle.std.proofs.lemmas.Option.{none-some, same_Some}
use Rattle.std.specs.HashMap.{HashMap}
use Rattle.std.specs.Prelude.{OnOk}
use Rattle.shift_line.specs.Track.{Track}
use Rattle.lazy_store.specs.Holders.{kept_under}
use Rattle.lazy_store.specs.Kept.{Kept}
use Rattle.lazy_store.specs.Store.{back_at}
use Rattle.lazy_store.specs.declared.holder.Holder.{Holder}
use Rattle.lazy_store.specs.declared.holders.Side.{Side}
use Rattle.lazy_store.specs.declared.holders.Side.TheVariants.{Before, Beyond, Returning}
use Rattle.lazy_store.specs.internal.Steps.{CutsOff}
use Rattle.lazy_store.specs.internal.Sweeps.{ArePlaced, Both, CutsAll, Sweeps, is_off}
use Rattle.lazy_store.proofs.Stores.{StandBehind}

-- what two facts of an answer say together
pub on_ok_both : {T E P Q R : Type 0} (r : Result T E) → (P → Q → R) → OnOk r P → OnOk r Q → OnOk r R
on_ok_both (Ok x) f p q = f p q
on_ok_both (Err x) f p q = tt

-- as of which position a formula of a table is kept
abbrev pub position_under : {S : Type 0} → HashMap ℕ Holder S → ℕ → Option ℕ
position_under m id = option_map (λ h. h.position) (kept_under m id)

-- where a formula is kept once none of this side of a position is left there
abbrev pub brought : Side → ℕ → Kept → ℕ
brought Before k h = max k h.position
brought Beyond k h = min k h.position
brought Returning k h = back_at k h

off-comes : (side : Side) (k : ℕ) (h : Kept) → is_off side k h ≡ true → k ≡ brought side k h
off-comes Before k h off = let under = ltb-true h.position k off in omega (arith, under)
off-comes Beyond k h off = let above = ltb-true k h.position off in omega (arith, above)
off-comes Returning k h off = by (nat_lt k h.position) (nat_le h.birth k) refl off
  where
    by : (above born : Bool) → nat_lt k h.position ≡ above → above && born ≡ true → k ≡ (if born then min k h.position else h.position)
    by true true is both = let above = ltb-true k h.position is in omega (arith, above)
    by true false is both = absurd (true≢false (sym both))
    by false born is both = absurd (true≢false (sym both))

on-stays : (side : Side) (k : ℕ) (h : Kept) → is_off side k h ≡ false → h.position ≡ brought side k h
on-stays Before k h on = let from = ltb-false h.position k on in omega (arith, from)
on-stays Beyond k h on = let to = ltb-false k h.position on in omega (arith, to)
on-stays Returning k h on = by (nat_lt k h.position) (nat_le h.birth k) refl on
  where
    by : (above born : Bool) → nat_lt k h.position ≡ above → above && born ≡ false → h.position ≡ (if born then min k h.position else h.position)
    by true true is one = absurd (true≢false one)
    by true false is one = refl
    by false true is one = let to = ltb-false k h.position is in omega (arith, to)
    by false false is one = refl

-- where formulas are kept, by a rule on that alone
pub mapped-position : (f : ℕ → ℕ) (o : Option Kept) → option_map (λ h. f h.position) o ≡ option_map f (option_map (λ h. h.position) o)
mapped-position f None = refl
mapped-position f (Some h) = refl

module _ {S : Type 0} (line : Track) (side : Side) (k : ℕ) (old new : HashMap ℕ Holder S) (swept : Sweeps line side k old new) (on : (id : ℕ) (h : Kept) → kept_under new id ≡ Some h → is_off side k h ≡ false) (placed : ArePlaced k old new) where
  -- formulas of the side are kept as of the position, and the others where they were
  pub swept-positions : (id : ℕ) → position_under new id ≡ option_map (brought side k) (kept_under old id)
  swept-positions id = by (kept_under old id) (kept_under new id) refl refl (swept.along.live id)
    where
      each : (h g : Kept) → kept_under old id ≡ Some h → kept_under new id ≡ Some g → (b : Bool) → is_off side k h ≡ b → (kept_under old id ≡ Some g) ⊎ (g.position ≡ k) → g.position ≡ brought side k h
      each h g was is true off (inl same) = absurd (true≢false (sym off ∙ ap (λ x. is_off side k x) (same_Some h g (sym was ∙ same)) ∙ on id g is))
      each h g was is true off (inr there) = there ∙ off-comes side k h off
      each h g was is false here any = ap (λ x. x.position) (same_Some g h (sym is ∙ swept.others id h was here)) ∙ on-stays side k h here

      by : (o p : Option Kept) → kept_under old id ≡ o → kept_under new id ≡ p → option_map (λ h. h.live) p ≡ option_map (λ h. h.live) o → option_map (λ h. h.position) p ≡ option_map (brought side k) o
      by None None was is same = refl
      by None (Some g) was is same = absurd (none-some g.live (sym same))
      by (Some h) None was is same = absurd (none-some h.live same)
      by (Some h) (Some g) was is same = ap (λ p. Some p) (each h g was is (is_off side k h) refl (placed id g is))

-- where none is beyond a position, none comes back to it
pub behind-positions : {S : Type 0} (k : ℕ) (m : HashMap ℕ Holder S) → StandBehind k m → (id : ℕ) → position_under m id ≡ option_map (min k) (position_under m id)
behind-positions k m behind id = by (kept_under m id) refl
  where
    by : (o : Option Kept) → kept_under m id ≡ o → option_map (λ h. h.position) o ≡ option_map (min k) (option_map (λ h. h.position) o)
    by None is = refl
    by (Some h) is = let to = behind id h is in let same : h.position ≡ min k h.position = omega (arith, to) in ap (λ p. Some p) same

-- so none that was born up to it returns to it
pub behind-returned : {S : Type 0} (k : ℕ) (m : HashMap ℕ Holder S) → StandBehind k m → (id : ℕ) → position_under m id ≡ option_map (back_at k) (kept_under m id)
behind-returned k m behind id = by (kept_under m id) refl
  where
    there : (h : Kept) (born : Bool) → h.position ≤ k → h.position ≡ (if born then min k h.position else h.position)
    there h true to = omega (arith, to)
    there h false to = refl

    by : (o : Option Kept) → kept_under m id ≡ o → option_map (λ h. h.position) o ≡ option_map (back_at k) o
    by None is = refl
    by (Some h) is = ap (λ p. Some p) (there h (nat_le h.birth k) (behind id h is))

-- formulas that had old trees cut off are kept where they were
pub cut-positions : {S : Type 0} (k : ℕ) (m n : HashMap ℕ Holder S) → CutsAll k m n → (id : ℕ) → position_under n id ≡ position_under m id
cut-positions k m n cuts id = by (kept_under m id) (kept_under n id) (cuts id)
  where
    by : (o p : Option Kept) → Both (CutsOff k) o p → option_map (λ h. h.position) p ≡ option_map (λ h. h.position) o
    by None None both = refl
    by None (Some g) both = absurd both
    by (Some h) None both = absurd both
    by (Some h) (Some g) both = ap (λ p. Some p) both.position
