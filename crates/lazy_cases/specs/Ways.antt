-- Stores whose formulas are under small ids, and which of them are in the way of an operation or of settling.
use Rattle.std.specs.Prelude.{◌≡◌, ◌≢◌, ℕ, ◌<◌, ◌≤◌, true, Some, None}
use Rattle.lazy_cases.specs.declared.guarded.TheConstants.{IDS}
use Rattle.lazy_store.specs.Kept.{Kept, at}
use Rattle.lazy_store.specs.Store.{kept_in, live_in}
use Rattle.lazy_store.specs.declared.lazy.Lazy.{Lazy}

-- no formula is under an id from the limit on
abbrev pub AreFew : Lazy → Type 0
AreFew store = (id : ℕ) → IDS ≤ id → live_in store id ≡ None

-- where the formula is kept as of a position beyond the cursor, it is live and has a standing at the cursor
abbrev pub ComesBack : Lazy → ℕ → Type 0
ComesBack store id = (h : Kept) → kept_in store id ≡ Some h → store.line.cursor < h.position → (h.live ≡ true) × (at store.line h store.line.cursor ≢ None)

-- where the formula is kept as of a position before this one, it has a standing here
abbrev pub GoesOn : ℕ → Lazy → ℕ → Type 0
GoesOn k store id = (h : Kept) → kept_in store id ≡ Some h → h.position < k → at store.line h k ≢ None
