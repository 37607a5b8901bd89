-- Maps from places by what they have at each: parts by a test, and maps without the places of a list.
use Rattle.std.proofs.Common.{◌≡◌, ◌∙◌, sym, ap, refl, Bool, true, false, cond, not, List, [], ◌∷◌, Option, Some, None, is_some, filter}
use Rattle.std.specs.FinMap as map
use Rattle.std.specs.FinMap.{entries, get, get-entries, get-remove, get-retain_keys, same_map, entries_sorted}
use Rattle.std.specs.FinMap.Entries.{where_key, find-where_key, is_sorted-where_key, same_entries}
use Rattle.std.specs.Ordering.{eq_by_cmp}
use Rattle.cell_addr.specs.Order.{place_cmp}
use Rattle.cell_addr.specs.Place.{covers}
use Rattle.cell_addr.specs.declared.place.Block.{Block}
use Rattle.cell_addr.specs.declared.place.Place.{Place}
use Rattle.cell_addr.proofs.Places.{place_cmp-IsTotalOrder, place_cmp-IsAntisymmetric}
use Rattle.shift_core.specs.Maps.{PlaceMap}
use Rattle.shift_core.proofs.MovedMaps.{find_place}
use Rattle.grid_store.specs.Grid.{outside, within}
use Rattle.grid_store.specs.internal.Lists.{without}

-- maps that have the same at each place
pub same_places : {X : Type 0} (m n : PlaceMap X) → ((q : Place) → get m q ≡ get n q) → m ≡ n
same_places m n h = same_map place_cmp-IsTotalOrder place_cmp-IsAntisymmetric m n h

pub get-kept : {X : Type 0} (m : PlaceMap X) (p : Place → Bool) (q : Place) → get (map.retain_keys m p) q ≡ cond (p q) (get m q) None
get-kept m p q = get-retain_keys m p q (λ x t. ap p (sym (place_cmp-IsAntisymmetric q x t)))

-- the entries of a part are the entries that pass its test
pub entries-kept : {X : Type 0} (m : PlaceMap X) (p : Place → Bool) → entries (map.retain_keys m p) ≡ filter (λ e. p e.0) (entries m)
entries-kept m p =
    same_entries place_cmp place_cmp-IsTotalOrder place_cmp-IsAntisymmetric (entries (map.retain_keys m p)) (where_key place_cmp p (entries m)) (entries_sorted (map.retain_keys m p)) (is_sorted-where_key place_cmp p (entries m) (entries_sorted m))
    (λ q. sym (get-entries (map.retain_keys m p) q) ∙ get-kept m p q ∙ ap (λ r. cond (p q) r None) (get-entries m q) ∙ sym (find-where_key place_cmp p q (λ x t. ap p (sym (place_cmp-IsAntisymmetric q x t))) (entries m)))

gone_or : {X : Type 0} (a b : Bool) (x : X) (r : Option X) (s : Option X) → cond (is_some r) None (cond a None s) ≡ cond (is_some (cond a (Some x) r)) None s
gone_or true b x None s = refl
gone_or true b x (Some y) s = refl
gone_or false b x r s = refl

-- a map without the places of a list
pub get-without : {X : Type 0} (es : List (Place × X)) (m : PlaceMap X) (q : Place) → get (without es m) q ≡ cond (is_some (find_place q es)) None (get m q)
get-without [] m q = refl
get-without (e ∷ es) m q =
    get-without es (map.remove m e.0) q ∙ ap (cond (is_some (find_place q es)) None) (get-remove place_cmp-IsTotalOrder m e.0 q)
    ∙ gone_or (eq_by_cmp place_cmp q e.0) true e.1 (find_place q es) (get m q)

left : {X : Type 0} (b : Bool) (r : Option X) → cond (is_some (cond b r None)) None r ≡ cond (not b) r None
left true None = refl
left true (Some x) = refl
left false None = refl
left false (Some x) = refl

-- a map without its entries in a block
pub without-within : {X : Type 0} (area : Block) (m : PlaceMap X) → without (entries (within area m)) m ≡ outside area m
without-within area m = same_places _ _ (λ q.
    get-without (entries (within area m)) m q ∙ ap (λ r. cond (is_some r) None (get m q)) (sym (get-entries (within area m) q) ∙ get-kept m (covers area) q)
    ∙ left (covers area q) (get m q) ∙ sym (get-kept m (λ p. not (covers area p)) q))
