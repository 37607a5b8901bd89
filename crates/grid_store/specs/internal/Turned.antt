-- Keys with their two lines turned round, which stand in the order of columns.
use Rattle.std.specs.Prelude.{◌≡◌, ℕ, refl, is_some}
use Rattle.std.specs.BTreeMap as tree
use Rattle.std.specs.BTreeMap.{BTreeMap}
use Rattle.std.specs.BTreeSet.{BTreeSet, contains}
use Rattle.std.specs.Coded.{Coded, code_by, coded×, coded_ℕ}
use Rattle.grid_store.specs.Keys.{key_cmp}
use Rattle.grid_store.specs.declared.key.CellKey.{CellKey}

-- a key as its three numbers
abbrev pub coded_key : Coded CellKey
coded_key = code_by (ℕ × (ℕ × ℕ)) (coded× coded_ℕ (coded× coded_ℕ coded_ℕ)) (λ k. (k.sheet, (k.row, k.col))) (λ p. record { sheet = p.0; row = p.1.0; col = p.1.1 }) (λ _. refl)

-- the key with its two lines turned round
abbrev pub turned : CellKey → CellKey
turned k = record { sheet = k.sheet; row = k.col; col = k.row }

-- the turned keys are those of the cells
abbrev pub AreTurned : {X : Type 0} → BTreeMap CellKey X → BTreeSet CellKey → Type 0
AreTurned cells cols = (k : CellKey) → contains key_cmp cols (turned k) ≡ is_some (tree.get key_cmp cells k)
