use Rattle.std.proofs.Common.{◌∙◌, sym, ap, take, ◌∷◌, ◌++◌, []}
use Rattle.std.specs.List.{filter_map}
use Rattle.std.proofs.lemmas.List.{take_more}
use Rattle.dep_graph.specs.Nodes.{items_of}
use Rattle.kept_values.specs.internal.Linking.{node_of}
use Rattle.kept_values.proofs.FoundNames.{some_more}
use Rattle.kept_values.proofs.linking.add_places.Goals as goal

pub places-preserved : goal.places-preserved
places-preserved c =
    let i = c.places.place-index in
    let place = c.place-item.result in
    let one_more = take_more c.args.places.now i place c.places-test.true ∙ ap (λ p. take i c.args.places.now ++ p ∷ []) (sym c.place-item.is) in
    some_more node_of (take i c.args.places.now) place (items_of c.args.needs.now) (items_of c.places.needs) (items_of c.add_place.new.needs) c.places.invariant c.in_ok-add_place.ensures
    ∙ ap (λ ls. items_of c.args.needs.now ++ filter_map node_of ls) (sym one_more)
