-- What goes with a dropped sheet, and how formulas stand once an operation is on the line.
use Rattle.std.specs.Prelude.{◌≡◌, ⊤, ℕ, ◌+◌, ◌≤◌, List, [], ◌∷◌, map, Option, Some, None, option_and_then}
use Rattle.lazy_store.specs.Standing.{after}
use Rattle.lazy_store.specs.Store.{at_in}
use Rattle.lazy_store.specs.declared.lazy.Lazy.{Lazy}
use Rattle.name_table.specs.Scopes.{NameMap, in_scope, key_of}
use Rattle.name_table.specs.declared.key.NameKey.{NameKey}
use Rattle.shift_core.specs.declared.form.Form.{Form}
use Rattle.shift_core.specs.declared.form.Form.TheVariants as form
use Rattle.shift_core.specs.declared.shift.Shift.{Shift}

-- a name that goes
abbrev pub gone : Option ℕ → ℕ × ℕ → NameKey × (Option ℕ × Option ℕ)
gone scope e = (key_of scope e.0, (Some e.1, None))

-- the names of a dropped sheet's own
abbrev pub ids_left : Form → NameMap → List (NameKey × (Option ℕ × Option ℕ))
ids_left (form.Sheet sheet) names = map (gone (Some sheet)) (in_scope (Some sheet) names)
ids_left _ names = []

-- the names are without an id after the changes
abbrev pub AreGone : List (NameKey × (Option ℕ × Option ℕ)) → Type 0
AreGone [] = ⊤
AreGone (c ∷ cs) = (c.1.1 ≡ None) × AreGone cs

-- an operation is on the line behind a position: each formula has the standings that it had up to the position, and the
-- one behind the operation by that
pub record PushesOn (s : Shift) (k : ℕ) (old new : Lazy) : Type 0 where
  pub before : (id j : ℕ) → j ≤ k → at_in new id j ≡ at_in old id j
  pub next : (id : ℕ) → at_in new id (k + 1) ≡ option_and_then (after s) (at_in old id k)
