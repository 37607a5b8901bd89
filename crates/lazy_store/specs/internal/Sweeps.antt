-- What goes along the line at once: one formula of a table of holders, or all on one side of a position.
use Rattle.std.specs.Prelude.{◌≡◌, ◌≢◌, ℕ, ◌⊎◌, nat_le, nat_lt, Bool, false, ◌&&◌, if◌then◌else◌, Option, Some, None, option_map, option_and_then}
use Rattle.std.specs.HashMap as hash
use Rattle.std.specs.HashMap.{HashMap}
use Rattle.shift_line.specs.Track.{Track}
use Rattle.lazy_store.specs.Holders.{AreCoherent, kept_under}
use Rattle.lazy_store.specs.Kept.{Kept, at}
use Rattle.lazy_store.specs.Standing.{Standing}
use Rattle.lazy_store.specs.declared.holder.Holder.{Holder}
use Rattle.lazy_store.specs.declared.holders.Side.{Side}
use Rattle.lazy_store.specs.declared.holders.Side.TheVariants.{Before, Beyond, Returning}
use Rattle.lazy_store.specs.internal.Steps.{CutsOff}

-- the formula is to be taken to the position
abbrev pub is_off : Side → ℕ → Kept → Bool
is_off Before position h = nat_lt h.position position
is_off Beyond position h = nat_lt position h.position
is_off Returning position h = nat_lt position h.position && nat_le h.birth position

-- a holder whose formula was born up to the position; else none
abbrev pub holder_born_by : ℕ → Holder → Option Holder
holder_born_by k h = if nat_le h.birth k then Some h else None

-- two of a kind, or none of either
abbrev pub Both : {A : Type 0} → (A → A → Type 0) → Option A → Option A → Type 0
Both P None None = Unit {0}
Both P None (Some y) = ⊥
Both P (Some x) None = ⊥
Both P (Some x) (Some y) = P x y

module _ {S : Type 0} where
  -- the standing of a formula of the table, and whether it is live
  abbrev pub at_under : Track → HashMap ℕ Holder S → ℕ → ℕ → Option Standing
  at_under line holders id k = option_and_then (λ h. at line h k) (kept_under holders id)

  abbrev pub live_under : HashMap ℕ Holder S → ℕ → Option Bool
  live_under holders id = option_map (λ h. h.live) (kept_under holders id)

  -- each formula has the standings that it had, and goes along the line
  pub record StandAlong (line : Track) (old new : HashMap ℕ Holder S) : Type 0 where
    pub at : (id k : ℕ) → at_under line new id k ≡ at_under line old id k
    pub live : (id : ℕ) → live_under new id ≡ live_under old id
    pub coherent : AreCoherent line new
    pub keys : hash.keys new ≡ hash.keys old
    pub spare : hash.spare new ≡ hash.spare old

  -- one formula went along
  pub record Brings (line : Track) (id : ℕ) (old new : HashMap ℕ Holder S) : Type 0 where
    pub along : StandAlong line old new
    pub others : (other : ℕ) → other ≢ id → kept_under new other ≡ kept_under old other

  -- formulas on one side of the position went along, and no others
  pub record Sweeps (line : Track) (side : Side) (position : ℕ) (old new : HashMap ℕ Holder S) : Type 0 where
    pub along : StandAlong line old new
    pub others : (id : ℕ) (h : Kept) → kept_under old id ≡ Some h → is_off side position h ≡ false → kept_under new id ≡ Some h

  -- each formula is kept as it was, or as of the position
  abbrev pub ArePlaced : ℕ → HashMap ℕ Holder S → HashMap ℕ Holder S → Type 0
  ArePlaced position old new = (id : ℕ) (h : Kept) → kept_under new id ≡ Some h → (kept_under old id ≡ Some h) ⊎ (h.position ≡ position)

  -- of the formula under the id the trees that were saved before the position are gone
  pub record Cuts (k id : ℕ) (old new : HashMap ℕ Holder S) : Type 0 where
    pub cut : Both (CutsOff k) (kept_under old id) (kept_under new id)
    pub others : (other : ℕ) → other ≢ id → kept_under new other ≡ kept_under old other
    pub keys : hash.keys new ≡ hash.keys old
    pub spare : hash.spare new ≡ hash.spare old

  -- and of all
  abbrev pub CutsAll : ℕ → HashMap ℕ Holder S → HashMap ℕ Holder S → Type 0
  CutsAll k old new = (id : ℕ) → Both (CutsOff k) (kept_under old id) (kept_under new id)
