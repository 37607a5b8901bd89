-- The next word goes behind those of the copy.
use Rattle.std.proofs.Common.{◌∙◌, ◌++◌, ◌∷◌, [], sym, ap, subst, map, append_assoc}
use Rattle.folded_key.specs.Key.{text_of}
use Rattle.name_table.specs.Words.{AreWords, with_word}
use Rattle.name_table.specs.internal.WordList.{words_in}
use Rattle.name_table.proofs.WordNumbers.{next-word}
use Rattle.name_table.proofs.words.Words.copied.Goals as goal

pub words-preserved : goal.words-preserved
words-preserved c =
    let parts = ap (λ r. words_in c.words.copy ++ map text_of r) (sym c.in-Some.ensures.steps) ∙ c.words.invariant in
    ap (λ z. z ++ map text_of c.next.new.self)
    (c.in_ok-word.ensures.ok ∙ ap (λ w. with_word w (words_in c.words.copy)) c.as_str.ensures
    ∙ next-word (words_in c.words.copy) (map text_of c.next.new.self) (text_of c.in-Some.spelling.now) (subst AreWords (sym parts) c.args.self.now.proper))
    ∙ append_assoc (words_in c.words.copy) (text_of c.in-Some.spelling.now ∷ []) (map text_of c.next.new.self) ∙ parts
