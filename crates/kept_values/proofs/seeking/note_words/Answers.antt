use Rattle.std.proofs.Common.{◌≡◌, ◌∙◌, ◌&&◌, sym, ap, refl, ℕ, true, List, take, ◌∷◌, ◌++◌, [], inl, inr, ⊎_elim}
use Rattle.std.specs.List.{list_any}
use Rattle.std.specs.Option.{is_none}
use Rattle.std.proofs.lemmas.Bool.{false≢true}
use Rattle.std.proofs.lemmas.List.{take_all, take_more}
use Rattle.cell_addr.specs.Sheets.{same_name}
use Rattle.book_values.specs.Names.{found}
use Rattle.book_values.specs.Workbook.{Workbook}
use Rattle.dep_graph.specs.Nodes.{same_node}
use Rattle.kept_values.specs.Sought.{noted_under}
use Rattle.kept_values.proofs.SeekingNames.{any_last}
use Rattle.kept_values.proofs.seeking.note_words.Goals as goal

pub words-init : goal.words-init
words-init g c = record { stay = λ w b h. h; only = λ w b h. inl h; seeks = λ w h. absurd (false≢true h); leaves = refl; words = refl; reads = g.T.Trees.laws.none c.args.trees.now }

pub words-preserved : goal.words-preserved
words-preserved g c =
    let b = g.T.Trees.workbook c.args.trees.now in
    let i = c.words.word-index in
    let word = c.word-item.result in
    let so_far = c.words.invariant in
    let more = take_more c.args.words.now i word c.words-test.true ∙ ap (λ w. take i c.args.words.now ++ w ∷ []) (sym c.word-item.is) in
    record {
      stay = λ w a h. c.note_word.ensures.stay w a (so_far.stay w a h);
      only = λ w a h. ⊎_elim (λ (was : noted_under c.words.sought w a ≡ true). so_far.only w a was) (λ (one : same_node a c.args.a ≡ true). inr one) (c.note_word.ensures.only w a h);
      seeks = λ w h. ⊎_elim
          (λ (front : list_any (λ v. same_name w v && is_none (found b.names v c.args.sheet)) (take i c.args.words.now) ≡ true). c.note_word.ensures.stay w c.args.a (so_far.seeks w front))
          (λ (last : (same_name w word && is_none (found b.names word c.args.sheet)) ≡ true).
          c.in_ok-note_word.ensures.seeks w (ap (λ (k : Workbook). same_name w word && is_none (found k.names word c.args.sheet)) so_far.leaves ∙ last))
          (any_last (λ v. same_name w v && is_none (found b.names v c.args.sheet)) c.args.words.now i word more h);
      leaves = c.note_word.ensures.leaves ∙ so_far.leaves;
      words = c.note_word.ensures.words ∙ so_far.words;
      reads = g.T.Trees.laws.both _ _ _ so_far.reads c.note_word.ensures.reads;
    }

pub returns-in_err-note_word-clause-stay : goal.returns-in_err-note_word-clause-stay
returns-in_err-note_word-clause-stay g c = λ w a h. c.note_word.ensures.stay w a (c.words.invariant.stay w a h)

pub returns-in_err-note_word-clause-only : goal.returns-in_err-note_word-clause-only
returns-in_err-note_word-clause-only g c = λ w a h. ⊎_elim
    (λ (was : noted_under c.words.sought w a ≡ true). c.words.invariant.only w a was) (λ (one : same_node a c.args.a ≡ true). inr one) (c.note_word.ensures.only w a h)

pub returns-clause-seeks : goal.returns-clause-seeks
returns-clause-seeks g c = λ w h.
    let b = g.T.Trees.workbook c.args.trees.now in
    c.words.invariant.seeks w (ap (list_any (λ v. same_name w v && is_none (found b.names v c.args.sheet))) (take_all c.words.word-index c.args.words.now c.words-test.false) ∙ h)
