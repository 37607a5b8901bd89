use Rattle.std.proofs.Common.{◌≡◌, ◌∙◌, ap, refl, subst, ℕ, List, ◌++◌}
use Rattle.std.specs.List.{filter_map}
use Rattle.formula_tree.specs.Reference.{sheet_of}
use Rattle.formula_tree.specs.Relative.{relative}
use Rattle.formula_tree.specs.StandsFor.{at_home}
use Rattle.dep_graph.specs.Nodes.{items_of}
use Rattle.dep_graph.specs.declared.node.Node.{Node}
use Rattle.kept_values.specs.internal.Linking.{AddsFound, node_of}
use Rattle.kept_values.proofs.FoundNames.{links_for}
use Rattle.kept_values.proofs.linking.needs_of.Goals as goal

pub returns-clause-needs : goal.returns-clause-needs
returns-clause-needs g c =
    let b = g.T.Trees.workbook c.args.trees.now in
    let words = g.T.Trees.words c.args.trees.now in
    let home = c.args.home in
    let t = at_home home (relative c.args.tree.now.value) in
    let places = c.in_ok-places.places.items in
    let asked = c.in_ok-words.words.items in
    let needs = items_of c.add_names.new.needs in
    let start : items_of c.add_places.new.needs ≡ filter_map node_of places =
    c.in_ok-add_places.ensures ∙ ap (λ (l : List Node). l ++ filter_map node_of c.deref.result.now) c.in_ok-needs.ensures ∙ ap (filter_map node_of) c.deref.ensures.value in
    links_for words b.names (sheet_of home) c.requires.numbered.once t places asked needs (c.in_ok-places.ensures t refl) (c.in_ok-words.ensures home t refl)
    (subst (λ (sheet : ℕ). AddsFound words b.names sheet asked (filter_map node_of places) needs) c.sheet.ensures
    (subst (λ (l : List (List ℕ)). AddsFound words b.names c.sheet.result l (filter_map node_of places) needs) c.deref-2.ensures.value
    (subst (λ (l : List Node). AddsFound words b.names c.sheet.result c.deref-2.result.now l needs) start c.in_ok-add_names.ensures.found)))
