-- The kept values of a block, in the order of their places, are what its places show. Serves areas.
use Rattle.std.proofs.Common.{◌≡◌, ◌∙◌, sym, ap, refl, subst, arith, Bool, true, false, cond, ◌&&◌, List, [], ◌∷◌, None}
use Rattle.std.specs.FinMap as map
use Rattle.std.specs.FinMap.{entries, entries_sorted, get-entries, is_sorted}
use Rattle.std.specs.FinMap.Entries.{below_all}
use Rattle.std.specs.List.{AllByRecursion, All}
use Rattle.std.specs.List.Sorted.{IsStrictlySortedBy}
use Rattle.std.specs.Map.{keys_of}
use Rattle.std.specs.Ordering.{is_lt}
use Rattle.std.specs.Prelude.{T, unwrap_or}
use Rattle.std.specs.declared.cmp.Ordering.{Ordering}
use Rattle.std.specs.declared.cmp.Ordering.TheVariants.{Less, Equal, Greater}
use Rattle.std.proofs.lemmas.Bool.Decides.{nat_tests}
use Rattle.std.proofs.lemmas.List.Elements.{filter_passes}
use Rattle.cell_addr.proofs.Entries.{lookup-find}
use Rattle.cell_addr.specs.Order.{place_cmp}
use Rattle.cell_addr.specs.Place.{covers}
use Rattle.cell_addr.specs.declared.place.Block.{Block}
use Rattle.cell_addr.specs.declared.place.Place.{Place}
use Rattle.cell_value.specs.declared.scalar.Scalar.{Scalar}
use Rattle.cell_value.specs.declared.scalar.Scalar.TheVariants.{Empty}
use Rattle.shift_core.specs.Maps.{PlaceMap}
use Rattle.calc_eval.specs.Filled.{AreFilled, shown_by}
use Rattle.calc_terms.proofs.CellsAlike.{cells_alike}
use Rattle.calc_terms.specs.Cells.{cells_in, fits}
use Rattle.grid_store.proofs.PlaceMaps.{entries-kept, get-kept}
use Rattle.grid_store.specs.Grid.{within}
use Rattle.dep_graph.specs.declared.node.Node.TheVariants.{Cell}
use Rattle.recalc_core.specs.Kept.{Kept}
use Rattle.recalc_core.specs.Shifted.{is_inside}
use Rattle.recalc_core.specs.internal.KeptTables.{held}
use Rattle.recalc_core.specs.internal.Seen.{shown_at}

-- ---- entries of a map rise by their keys

is_less : (o : Ordering) → T (is_lt o) → o ≡ Less
is_less Less h = refl
is_less Equal h = absurd h
is_less Greater h = absurd h

first : (a b : Bool) → T (a && b) → T a
first true b p = tt
first false b p = absurd p

second : (a b : Bool) → T (a && b) → T b
second true b p = p
second false b p = absurd p

module _ {K X : Type 0} (R : K → K → Ordering) where
  below : (k : K) (es : List (K × X)) → T (below_all R k es) → AllByRecursion (λ y. R k y ≡ Less) (keys_of es)
  below k [] h = tt
  below k (e ∷ es) h = (is_less (R k e.0) (first (is_lt (R k e.0)) (below_all R k es) h), below k es (second (is_lt (R k e.0)) (below_all R k es) h))

  rising : (es : List (K × X)) → T (is_sorted R es) → IsStrictlySortedBy R (keys_of es)
  unfolding IsStrictlySortedBy
  rising [] h = tt
  rising (e ∷ es) h = (below e.0 es (first (below_all R e.0 es) (is_sorted R es) h), rising es (second (below_all R e.0 es) (is_sorted R es) h))

-- ---- the values of a block

pub block_filled : (m : PlaceMap Scalar) (b : Block) → AreFilled b (entries (within b m))
block_filled m b = record {
  covered = subst (All (λ (cell : Place × Scalar). covers b cell.0 ≡ true)) (sym (entries-kept m (covers b))) (filter_passes (λ (cell : Place × Scalar). covers b cell.0) (entries m));
  ordered = rising place_cmp (entries (within b m)) (entries_sorted (within b m));
}

-- a place that a block within the limits covers is within them
covered_inside : (b : Block) (p : Place) → fits b ≡ true → covers b p ≡ true → is_inside p ≡ true
covered_inside b p fit h = grind (arith, nat_tests)

pub block_shown : (m : PlaceMap Scalar) (beyond others : Kept) (b : Block) → fits b ≡ true → cells_in (shown_by (entries (within b m))) b ≡ cells_in (shown_at (held m beyond others)) b
block_shown m beyond others b fit = cells_alike (shown_by (entries (within b m))) (shown_at (held m beyond others)) b (λ p h.
    ap (λ o. unwrap_or o Empty)
    (lookup-find place_cmp p (entries (within b m)) ∙ sym (get-entries (within b m) p) ∙ get-kept m (covers b) p ∙ ap (λ t. cond t (map.get m p) None) h
    ∙ sym (ap (λ t. cond t (map.get m p) (beyond (Cell p))) (covered_inside b p fit h))))
