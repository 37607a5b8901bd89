use Rattle.std.proofs.Common.{◌≡◌, ◌∙◌, ◌-◌, ◌+◌, ◌<◌, ◌∷◌, sym, ap, subst, arith, length, drop, List, []}
use Rattle.std.specs.BTreeMap.{is_at}
use Rattle.std.specs.BTreeSet.{btree_set_len, contains}
use Rattle.std.specs.List.{filter_map, list_any}
use Rattle.std.proofs.lemmas.List.{drop_all, drop_more}
use Rattle.cell_addr.specs.Order.{place_cmp}
use Rattle.cell_addr.specs.declared.place.Place.{Place}
use Rattle.clip_board.specs.declared.clip.CopyItem.{CopyItem}
use Rattle.session_operations.specs.internal.Pasting.{ArePlaces, place_pasted}
use Rattle.session_operations.proofs.copying.places_of.Goals as goal

pub loop-index-init : goal.loop-index-init
loop-index-init c =
    let none : drop (length c.args.cells.now) c.args.cells.now ≡ [] = drop_all (length c.args.cells.now) c.args.cells.now (omega arith) in
    subst (λ l. ArePlaces (filter_map (place_pasted c.args.area c.args.at) l) (contains place_cmp c.new-places.result) (btree_set_len c.new-places.result)) (sym none) (λ q. ap (list_any (is_at (place_cmp q))) c.new-places.ensures.empty, c.new-places.ensures.len)

pub loop-index-preserved : goal.loop-index-preserved
loop-index-preserved c =
    let cells = c.args.cells.now in
    let i = c.loop-index.index - 1 in
    let last : c.loop-index.index ≡ i + 1 = omega (arith, c.loop-index-test.true) in
    let below : i < length cells = omega (arith, c.loop-index-test.true, c.loop-index.auto.index) in
    let pasted : List (Place × CopyItem) → List Place = λ l. filter_map (place_pasted c.args.area c.args.at) l in
    subst (λ l. ArePlaces (pasted l) (contains place_cmp c.add_pasted.new.places) (btree_set_len c.add_pasted.new.places)) (sym (drop_more cells i c.index-cells-index.result below ∙ ap (λ x. x ∷ drop (i + 1) cells) (sym c.index-cells-index.is)))
    (c.in_ok-add_pasted.ensures (pasted (drop (i + 1) cells)) (subst (λ n. ArePlaces (pasted (drop n cells)) (contains place_cmp c.loop-index.places) (btree_set_len c.loop-index.places)) last c.loop-index.invariant))

pub returns : goal.returns
returns c =
    let first : c.loop-index.index ≡ 0 = omega (arith, c.loop-index-test.false) in
    subst (λ n. ArePlaces (filter_map (place_pasted c.args.area c.args.at) (drop n c.args.cells.now)) (contains place_cmp c.loop-index.places) (btree_set_len c.loop-index.places)) first c.loop-index.invariant
