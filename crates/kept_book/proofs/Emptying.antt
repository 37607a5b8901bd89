-- Cells of a block that are emptied one after the other, and places of listed cells. Serves blocks that are emptied and
-- structural operations.
use Rattle.std.proofs.Common.{◌≡◌, ◌∙◌, sym, ap, subst, Bool, true, false, cond, None, IsSome, is_none}
use Rattle.std.specs.List.{All}
use Rattle.std.specs.FinMap as fin
use Rattle.std.specs.FinMap.{find, get-entries, get-retain_keys}
use Rattle.std.proofs.lemmas.List.Elements.{All-from_recursion, All-filter}
use Rattle.cell_addr.specs.Order.{place_cmp}
use Rattle.cell_addr.specs.Place.{IsInside, covers}
use Rattle.cell_addr.specs.declared.place.Block.{Block}
use Rattle.cell_addr.specs.declared.place.Place.{Place}
use Rattle.cell_addr.proofs.Places.{place_cmp-IsAntisymmetric}
use Rattle.grid_store.specs.Grid.{within}
use Rattle.grid_store.specs.declared.cell.Cell.{Cell}
use Rattle.shift_core.proofs.MovedMaps.{each_place}
use Rattle.shift_core.specs.Maps.{AreInside, PlaceMap, lost_entries}
use Rattle.shift_core.specs.Tables.{place_after}
use Rattle.shift_core.specs.declared.shift.Shift.{Shift}

pub found_within : (area : Block) (cells : PlaceMap Cell) (q : Place) → find place_cmp q (fin.entries (within area cells)) ≡ cond (covers area q) (fin.get cells q) None
found_within area cells q =
    sym (get-entries (within area cells) q) ∙ get-retain_keys cells (covers area) q (λ p t. ap (covers area) (sym (place_cmp-IsAntisymmetric q p t)))

-- the places of the entries of a map are inside where all of the map are
pub entries_inside : (m : PlaceMap Cell) → AreInside m → All (λ e. IsInside e.0) (fin.entries m)
entries_inside m inside = All-from_recursion (λ e. IsInside e.0) (fin.entries m) (each_place IsInside (fin.entries m) (λ q some. inside q (subst IsSome (sym (get-entries m q)) some)))

pub within_inside : (area : Block) (m : PlaceMap Cell) → AreInside m → AreInside (within area m)
within_inside area m inside q some = go (covers area q) (subst IsSome (get-retain_keys m (covers area) q (λ p t. ap (covers area) (sym (place_cmp-IsAntisymmetric q p t)))) some)
  where
    go : (b : Bool) → IsSome (cond b (fin.get m q) None) → IsInside q
    go true s = inside q s
    go false s = cc

-- so are those of the entries that an operation loses
pub lost_inside : (s : Shift) (m : PlaceMap Cell) → AreInside m → All (λ e. IsInside e.0) (lost_entries s m)
lost_inside s m inside = All-filter (λ e. is_none (place_after s e.0)) (λ e. IsInside e.0) (fin.entries m) (entries_inside m inside)
