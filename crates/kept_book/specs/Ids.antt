-- The ids under which a store keeps its formulas. Each id is given out once. Source: this project's own.
use Rattle.std.specs.Prelude.{◌≡◌, ◌≢◌, ℕ, ◌<◌, ◌≤◌, false, Some, is_some}
use Rattle.lazy_store.specs.Store.{kept_in, live_in}
use Rattle.lazy_store.specs.declared.lazy.Lazy.{Lazy}

-- no formula has this id or a later one
abbrev pub AreBelow : ℕ → Lazy → Type 0
AreBelow n store = (id : ℕ) → n ≤ id → is_some (kept_in store id) ≡ false

-- each formula that came before this id is kept as it was
abbrev pub KeepsBelow : ℕ → Lazy → Lazy → Type 0
KeepsBelow n old new = (id : ℕ) → id < n → kept_in new id ≡ kept_in old id

-- no formula is a removed one
abbrev pub AreLive : Lazy → Type 0
AreLive store = (id : ℕ) → live_in store id ≢ Some false
