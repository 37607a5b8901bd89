use Rattle.std.proofs.Common.{◌∙◌, sym, ap, refl, subst, take, ◌∷◌, ◌++◌, []}
use Rattle.std.proofs.lemmas.List.{take_more}
use Rattle.dep_graph.specs.Nodes.{items_of}
use Rattle.book_values.specs.Workbook.{Workbook}
use Rattle.recalc_core.specs.Nodes.{AreNumbered}
use Rattle.kept_values.specs.internal.Linking.{AddsFound}
use Rattle.kept_values.proofs.FoundNames.{found_both, none_found}
use Rattle.kept_values.proofs.linking.add_names.Goals as goal

pub words-init : goal.words-init
words-init g c =
    let b = g.T.Trees.workbook c.args.trees.now in
    record { found = none_found (g.T.Trees.words c.args.trees.now) b.names c.args.sheet c.requires.numbered.once (items_of c.args.needs.now); leaves = refl; words = refl; reads = g.T.Trees.laws.none c.args.trees.now }

pub add_name-requires : goal.add_name-requires
add_name-requires g c = record {
  numbered = subst (λ (w : Workbook). AreNumbered (g.T.Trees.words c.words.trees) w.names) (sym c.words.invariant.leaves)
      (subst (λ ws. AreNumbered ws (g.T.Trees.workbook c.args.trees.now).names) (sym c.words.invariant.words) c.requires.numbered);
}

pub words-preserved : goal.words-preserved
words-preserved g c =
    let b = g.T.Trees.workbook c.args.trees.now in
    let words = g.T.Trees.words c.args.trees.now in
    let sheet = c.args.sheet in
    let i = c.words.word-index in
    let word = c.word-item.result in
    let old = items_of c.words.needs in
    let new = items_of c.add_name.new.needs in
    let one_more = take_more c.args.words.now i word c.words-test.true ∙ ap (λ w. take i c.args.words.now ++ w ∷ []) (sym c.word-item.is) in
    record {
      found = subst (λ asked. AddsFound words b.names sheet asked (items_of c.args.needs.now) new) (sym one_more)
          (found_both words b.names sheet c.requires.numbered.once (take i c.args.words.now) (word ∷ []) (items_of c.args.needs.now) old new c.words.invariant.found
          (subst (λ (w : Workbook). AddsFound words w.names sheet (word ∷ []) old new) c.words.invariant.leaves
          (subst (λ ws. AddsFound ws (g.T.Trees.workbook c.words.trees).names sheet (word ∷ []) old new) c.words.invariant.words c.in_ok-add_name.ensures.found)));
      leaves = c.in_ok-add_name.ensures.leaves ∙ c.words.invariant.leaves;
      words = c.in_ok-add_name.ensures.words ∙ c.words.invariant.words;
      reads = g.T.Trees.laws.both _ _ _ c.words.invariant.reads c.in_ok-add_name.ensures.reads;
    }
