-- One exchange of cells in place of two. Serves the steps over several changes.
use Rattle.std.proofs.Common.{◌≡◌, ◌∙◌, sym, ap, refl, Bool, true, false, cond, ◌||◌, not, filter, List, ◌++◌, Option, None}
use Rattle.std.proofs.lemmas.Map.Entries.{lookup-filter-keys}
use Rattle.std.specs.FinMap.{get}
use Rattle.std.specs.Ordering.{eq_by_cmp}
use Rattle.cell_addr.specs.Order.{place_cmp}
use Rattle.cell_addr.specs.declared.place.Place.{Place}
use Rattle.cell_addr.proofs.Places.{place_cmp-IsTotalOrder, place_cmp-IsAntisymmetric}
use Rattle.grid_store.specs.Grid.{with_entries, without_places}
use Rattle.grid_store.specs.internal.Exchange.{is_among}
use Rattle.grid_store.proofs.Exchanges.{get-without_places, with-both}
use Rattle.grid_store.proofs.Fills.{first_of_two, get-with}
use Rattle.grid_store.proofs.PlaceMaps.{same_places}
use Rattle.shift_core.proofs.CarriedEntries.{eq_by_cmp-decides}
use Rattle.shift_core.proofs.MovedMaps.{find_place}
use Rattle.shift_core.specs.Maps.{PlaceMap}

beside : {X : Type 0} (gone : List Place) (es : List (Place × X)) (q : Place) → find_place q (filter (λ e. not (is_among gone e.0)) es) ≡ cond (not (is_among gone q)) (find_place q es) None
beside gone es q =
    lookup-filter-keys (eq_by_cmp place_cmp q) (λ p. not (is_among gone p)) (not (is_among gone q))
    (λ k same. ap (λ p. not (is_among gone p)) (sym ((eq_by_cmp-decides place_cmp-IsTotalOrder place_cmp-IsAntisymmetric q k).0 same))) es

one-of : {X : Type 0} (e w : Bool) (r x : Option X) → first_of_two (cond (not e) r None) (cond (e || w) None x) ≡ cond e None (first_of_two r (cond w None x))
one-of true w r x = refl
one-of false w r x = refl

-- what is placed first counts where nothing is emptied or placed afterwards
pub joined : {X : Type 0} (placed first : List (Place × X)) (gone more all : List Place) (m : PlaceMap X) → ((q : Place) → is_among all q ≡ (is_among gone q || is_among more q))
    → with_entries (placed ++ filter (λ e. not (is_among gone e.0)) first) (without_places all m) ≡ with_entries placed (without_places gone (with_entries first (without_places more m)))
joined placed first gone more all m are =
    let late = filter (λ e. not (is_among gone e.0)) first in
    with-both placed late (without_places all m)
    ∙ ap (with_entries placed) (same_places (with_entries late (without_places all m)) (without_places gone (with_entries first (without_places more m))) (λ q.
    get-with late (without_places all m) q ∙ (λ i. first_of_two (beside gone first q i) ((get-without_places all m q ∙ ap (λ b. cond b None (get m q)) (are q)) i))
    ∙ one-of (is_among gone q) (is_among more q) (find_place q first) (get m q)
    ∙ ap (λ r. cond (is_among gone q) None (first_of_two (find_place q first) r)) (sym (get-without_places more m q))
    ∙ ap (cond (is_among gone q) None) (sym (get-with first (without_places more m) q)) ∙ sym (get-without_places gone (with_entries first (without_places more m)) q)))
