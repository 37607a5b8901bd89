-- How far a pass has come that takes formulas to a position within a budget.
use Rattle.std.specs.Prelude.{◌≡◌, ◌⊎◌, ℕ, ◌+◌, ◌-◌, ◌<◌, ◌≤◌, Bool, true, false, List, take, slice_get, Option, Some, option_map, unwrap_or}
use Rattle.std.specs.List.{sum_by}
use Rattle.shift_line.specs.Track.{Track}
use Rattle.lazy_store.specs.Kept.{Kept, Lags}

-- over how many operations a formula went on, from what was kept of it to what is
abbrev pub gone_from : (ℕ → Option Kept) → (ℕ → Option Kept) → ℕ → ℕ
gone_from old new id = unwrap_or (option_map (λ h. h.position) (new id)) 0 - unwrap_or (option_map (λ h. h.position) (old id)) 0

-- a formula that lags behind the position has more operations before it than are left
pub record IsShort (line : Track) (k left : ℕ) (h : Kept) : Type 0 where
  pub lags : Lags line k h
  pub more : left < k - h.position

-- so many operations are left of the budget after the pass went by the ids before the index, and whether none lags of which it knows
pub record HasPassed (line : Track) (k : ℕ) (ids : List ℕ) (budget index left : ℕ) (all : Bool) (first now : ℕ → Option Kept) : Type 0 where
  pub placed : (id : ℕ) (h : Kept) → now id ≡ Some h → (first id ≡ Some h) ⊎ (h.position ≡ k)
  pub ahead : (i id : ℕ) → index ≤ i → slice_get ids i ≡ Some id → now id ≡ first id
  pub spent : sum_by (gone_from first now) (take index ids) + left ≡ budget
  pub short : (i id : ℕ) (h : Kept) → i < index → slice_get ids i ≡ Some id → now id ≡ Some h → Lags line k h → left < k - h.position
  pub none : all ≡ true → (i id : ℕ) (h : Kept) → i < index → slice_get ids i ≡ Some id → now id ≡ Some h → ¬ Lags line k h
  pub one : all ≡ false → (id : ℕ) × (h : Kept) × (now id ≡ Some h) × IsShort line k left h
