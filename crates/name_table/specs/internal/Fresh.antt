-- Names that a draft adds.
use Rattle.std.specs.Prelude.{◌≡◌, ℕ, List, [], ◌∷◌, if◌then◌else◌, Option, Some, None, IsSome, is_none, filter_map, option_map}
use Rattle.std.specs.BTreeMap as tree
use Rattle.std.specs.BTreeMap.{BTreeMap, is_at}
use Rattle.std.specs.FinMap as fin
use Rattle.std.specs.Map.{lookup}
use Rattle.name_table.specs.Scopes.{NameMap, key_cmp}
use Rattle.name_table.specs.declared.key.NameKey.{NameKey}

-- a name that gets a holder and has none
abbrev pub fresh_at : NameMap → NameKey × Option ℕ → Option (NameKey × ℕ)
fresh_at names e = if is_none (fin.get names e.0) then option_map (λ holder. (e.0, holder)) e.1 else None

-- those of the changes
abbrev pub fresh_of : NameMap → List (NameKey × Option ℕ) → List (NameKey × ℕ)
fresh_of names changes = filter_map (fresh_at names) changes

-- the names with these added
abbrev pub with_added : List (NameKey × ℕ) → NameMap → NameMap
with_added [] names = names
with_added (e ∷ es) names = with_added es (fin.insert names e.0 e.1)

-- what entries have under a name
abbrev pub under : {X : Type 0} → List (NameKey × X) → NameKey → Option X
under es k = lookup (is_at (key_cmp k)) es

-- all names but these are as they were
abbrev pub KeepsOthers : List (NameKey × ℕ) → NameMap → NameMap → Type 0
KeepsOthers es old new = (k : NameKey) → under es k ≡ None → fin.get new k ≡ fin.get old k

-- each name that the changes give a holder has one
abbrev pub AddsNone : BTreeMap NameKey (Option ℕ) → NameMap → Type 0
AddsNone changes names = (k : NameKey) (holder : ℕ) → tree.get key_cmp changes k ≡ Some (Some holder) → IsSome (fin.get names k)
