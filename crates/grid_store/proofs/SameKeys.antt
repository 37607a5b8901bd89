-- Cells that are kept under the same keys. Serves drafts whose changes want memory.
use Rattle.std.proofs.Common.{◌≡◌, ◌∙◌, sym, refl, List, Option, Some, None, option_and_then}
use Rattle.stable_lines.specs.declared.sheets.SheetLines.{SheetLines}
use Rattle.grid_store.specs.Keys.{key_at}
use Rattle.grid_store.specs.declared.key.CellKey.{CellKey}
use Rattle.grid_store.proofs.PlaceMaps.{same_places}
use Rattle.grid_store.proofs.Views.{get-seen, kept, seen}

module _ {X : Type 0} (rows cols : SheetLines) (es fs : List (CellKey × X)) where
  seen-by : ((k : CellKey) → kept fs k ≡ kept es k) → (r : Option CellKey) → option_and_then (kept fs) r ≡ option_and_then (kept es) r
  seen-by same None = refl
  seen-by same (Some k) = same k

  -- cells that are kept under the same keys stand for the same map
  pub same_seen : ((k : CellKey) → kept fs k ≡ kept es k) → seen rows cols fs ≡ seen rows cols es
  same_seen same = same_places _ _ (λ p. get-seen rows cols fs p ∙ seen-by same (key_at rows cols p) ∙ sym (get-seen rows cols es p))
