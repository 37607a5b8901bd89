-- A grid whose lines are the same at all positions stands for the same map. Serves copies.
use Rattle.std.proofs.Common.{◌≡◌, List, option_map, option_and_then, filter_map}
use Rattle.std.specs.FinMap.{from_entries}
use Rattle.stable_lines.specs.Sheets.{AreUnchanged}
use Rattle.stable_lines.specs.declared.sheets.SheetLines.{SheetLines}
use Rattle.grid_store.specs.Keys.{place_at}
use Rattle.grid_store.specs.declared.key.CellKey.{CellKey}
use Rattle.grid_store.proofs.Views.{seen}

module _ (rows cols rows' cols' : SheetLines) (r : AreUnchanged rows rows') (c : AreUnchanged cols cols') where
  pub place_unchanged : (k : CellKey) → place_at rows' cols' k ≡ place_at rows cols k
  place_unchanged k = λ i. option_and_then (λ row. option_map (λ col. record { sheet = k.sheet; row = row; col = col }) ((c k.sheet).3 k.col i)) ((r k.sheet).3 k.row i)

  pub seen_unchanged : {X : Type 0} (es : List (CellKey × X)) → seen rows' cols' es ≡ seen rows cols es
  seen_unchanged es = λ i. from_entries (filter_map (λ e. option_map (λ p. (p, e.1)) (place_unchanged e.0 i)) es)
