use Rattle.std.proofs.Common.{◌≡◌, ◌<◌, ◌≤◌, ◌+◌, ◌*◌, ◌∙◌, sym, ap, arith, rules, map}
use Rattle.std.proofs.lemmas.List.{take_all}
use Rattle.cell_addr.specs.Place.{IsInside}
use Rattle.formula_tree.specs.Term.{terms_of, depth_of, depth_of_all, each_corner_all}
use Rattle.formula_tree.specs.Reference.{base_of, ref_from}
use Rattle.formula_tree.specs.Seen.{seen, seen_list}
use Rattle.formula_tree.specs.StandsFor.{ArePlacesInside, from_home}
use Rattle.formula_tree.proofs.ArgumentLists.{EachCorner-item, depth_of-item, each_corner_all-terms_of}
use Rattle.formula_tree.proofs.RelativeNodes.{relative_list-trees}
use Rattle.formula_tree.proofs.SeenNodes.{seen_list-arguments}
use Rattle.formula_tree.proofs.plain.+seen_from.Goals as goal

pub PlainList::seen_from-seen_from-requires : goal.PlainList::seen_from-seen_from-requires
PlainList::seen_from-seen_from-requires t c =
    let items = c.items-argument-items.result.now in
    let i = c.arguments.argument-index in
    let item = c.argument-item.result in
    let all : seen_list c.args.self.now ≡ terms_of (map seen items) = seen_list-arguments c.args.self.now ∙ ap (λ xs. terms_of (map seen xs)) (sym c.items-argument-items.ensures) in
    let inside : ArePlacesInside (seen item) = EachCorner-item (λ d. IsInside d.at) seen items i item c.arguments-test.true c.argument-item.is (rw all at c.requires.places) in
    let least : depth_of (seen item) ≤ depth_of_all (terms_of (map seen items)) = depth_of-item seen items i item c.arguments-test.true c.argument-item.is in
    let less : 2 * depth_of (seen item) < 2 * depth_of_all (seen_list c.args.self.now) + 1 = rw all (omega (arith, least)) in
    search rules

pub PlainList::seen_from-returns : goal.PlainList::seen_from-returns
PlainList::seen_from-returns t c =
    let items = c.items-argument-items.result.now in
    let f = ref_from (base_of c.args.home) in
    relative_list-trees c.arguments.list
    ∙ ap terms_of (c.arguments.invariant ∙ ap (map (λ p. from_home c.args.home (seen p))) (take_all c.arguments.argument-index items c.arguments-test.false))
    ∙ sym (each_corner_all-terms_of f seen items)
    ∙ ap (λ xs. each_corner_all f (terms_of (map seen xs))) c.items-argument-items.ensures
    ∙ ap (each_corner_all f) (sym (seen_list-arguments c.args.self.now))
