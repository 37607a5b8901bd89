-- Which formulas are noted as kept beyond a position.
use Rattle.std.specs.Prelude.{◌≡◌, ℕ, ◌<◌, nat_eq, true, List, Some}
use Rattle.std.specs.HashMap as hash
use Rattle.std.specs.HashMap.{HashMap}
use Rattle.std.specs.List.{list_any}
use Rattle.lazy_store.specs.declared.among.Among.{Among}
use Rattle.lazy_store.specs.declared.among.Among.TheVariants.{All, These}
use Rattle.lazy_store.specs.declared.holder.Holder.{Holder}
use Rattle.lazy_store.specs.declared.recent.Recent.{Recent}

-- the id is one of these
abbrev pub IsIn : ℕ → List ℕ → Type 0
IsIn id ids = list_any (nat_eq id) ids ≡ true

-- a formula of this id that is kept as of this position is noted, where it has to be
abbrev pub IsNoted : Recent → ℕ → ℕ → Type 0
IsNoted recent id k = recent.from < k → IsIn id recent.ids.items

module _ {S : Type 0} where
  -- so is each formula of a table
  abbrev pub AreNoted : Recent → HashMap ℕ Holder S → Type 0
  AreNoted recent holders = (id : ℕ) (h : Holder) → hash.get nat_eq holders id ≡ Some h → IsNoted recent id h.position

  -- the ids of the formulas of a table that are looked at
  abbrev pub ids_among : Among → HashMap ℕ Holder S → List ℕ
  ids_among All holders = hash.keys holders
  ids_among (These ids) holders = ids.now

  -- each formula that is kept as of a position beyond this one is looked at
  abbrev pub AreLookedAt : Among → ℕ → HashMap ℕ Holder S → Type 0
  AreLookedAt among k holders = (id : ℕ) (h : Holder) → hash.get nat_eq holders id ≡ Some h → k < h.position → IsIn id (ids_among among holders)
