-- Maps with the entries of a list over their own. Serves blocks of cells that are moved, and what is put back.
use Rattle.std.proofs.Common.{◌≡◌, ◌∙◌, ap, refl, Bool, true, false, cond, List, [], ◌∷◌, ◌++◌, Option, Some, None}
use Rattle.std.specs.FinMap as map
use Rattle.std.specs.FinMap.{get, get-insert}
use Rattle.std.specs.List.{AllByRecursion}
use Rattle.std.specs.Ordering.{eq_by_cmp}
use Rattle.cell_addr.specs.Order.{place_cmp}
use Rattle.cell_addr.specs.declared.place.Place.{Place}
use Rattle.cell_addr.proofs.Places.{place_cmp-IsTotalOrder}
use Rattle.shift_core.specs.Maps.{PlaceMap}
use Rattle.shift_core.proofs.MovedMaps.{find_place}
use Rattle.grid_store.specs.Grid.{with_entries}

-- the last entry goes in first
pub with_last : {X : Type 0} (es : List (Place × X)) (e : Place × X) (m : PlaceMap X) → with_entries (es ++ e ∷ []) m ≡ with_entries es (map.insert m e.0 e.1)
with_last [] e m = refl
with_last (f ∷ es) e m = ap (λ n. map.insert n f.0 f.1) (with_last es e m)

pub each_front : {X : Type 0} (P : X → Type 0) (es : List X) (e : X) → AllByRecursion P (es ++ e ∷ []) → AllByRecursion P es × P e
each_front P [] e h = (tt, h.0)
each_front P (f ∷ es) e h = let w = each_front P es e h.1 in ((h.0, w.0), w.1)

-- entries over a map made of entries
pub with_from : {X : Type 0} (es xs : List (Place × X)) → with_entries es (map.from_entries xs) ≡ map.from_entries (es ++ xs)
with_from [] xs = refl
with_from (e ∷ es) xs = ap (λ n. map.insert n e.0 e.1) (with_from es xs)

-- the first of two that is there
abbrev pub first_of_two : {X : Type 0} → Option X → Option X → Option X
first_of_two None s = s
first_of_two (Some x) s = Some x

over : {X : Type 0} (b : Bool) (x : X) (r s : Option X) → cond b (Some x) (first_of_two r s) ≡ first_of_two (cond b (Some x) r) s
over true x r s = refl
over false x r s = refl

pub get-with : {X : Type 0} (es : List (Place × X)) (m : PlaceMap X) (q : Place) → get (with_entries es m) q ≡ first_of_two (find_place q es) (get m q)
get-with [] m q = refl
get-with (e ∷ es) m q =
    get-insert place_cmp-IsTotalOrder (with_entries es m) e.0 e.1 q ∙ ap (cond (eq_by_cmp place_cmp q e.0) (Some e.1)) (get-with es m q) ∙ over (eq_by_cmp place_cmp q e.0) e.1 (find_place q es) (get m q)
