use Rattle.std.proofs.Common.{◌∙◌, sym, ap, refl, subst, take, ◌∷◌, ◌++◌, []}
use Rattle.std.proofs.lemmas.List.{take_more}
use Rattle.recalc_core.specs.internal.Seen.{AddsRead, AreRead}
use Rattle.recalc_core.proofs.ReadNames.{none_read, reads_on}
use Rattle.recalc_core.proofs.names.read_words.Goals as goal

pub words-init : goal.words-init
words-init g c =
    let b = g.T.Trees.workbook c.args.trees.now in
    let words = g.T.Trees.words c.args.trees.now in
    record { read = subst (AreRead b words c.args.sheet []) (sym c.new-names.ensures.items) (none_read b words c.args.sheet); leaves = refl; words = refl; reads = g.T.Trees.laws.none c.args.trees.now }

pub words-preserved : goal.words-preserved
words-preserved g c =
    let b = g.T.Trees.workbook c.args.trees.now in
    let words = g.T.Trees.words c.args.trees.now in
    let sheet = c.args.sheet in
    let i = c.words.word-index in
    let word = c.word-item.result in
    let one_more = take_more c.args.words.now i word c.words-test.true ∙ ap (λ w. take i c.args.words.now ++ w ∷ []) (sym c.word-item.is) in
    record {
      read = subst (λ asked. AreRead b words sheet asked c.read_word.new.names.items) (sym one_more)
          (reads_on b words sheet (take i c.args.words.now) word c.words.names.items c.read_word.new.names.items c.words.invariant.read
          (subst (λ w. AddsRead w words sheet word c.words.names.items c.read_word.new.names.items) c.words.invariant.leaves
          (subst (λ ws. AddsRead (g.T.Trees.workbook c.words.trees) ws sheet word c.words.names.items c.read_word.new.names.items) c.words.invariant.words c.in_ok-read_word.ensures.read)));
      leaves = c.in_ok-read_word.ensures.leaves ∙ c.words.invariant.leaves;
      words = c.in_ok-read_word.ensures.words ∙ c.words.invariant.words;
      reads = g.T.Trees.laws.both _ _ _ c.words.invariant.reads c.in_ok-read_word.ensures.reads;
    }
