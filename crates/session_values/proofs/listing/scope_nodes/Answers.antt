use Rattle.std.proofs.Common.{◌∙◌, sym, ap, length, is_some}
use Rattle.std.specs.Prelude.{slice_get}
use Rattle.dep_graph.specs.Nodes.{items_of}
use Rattle.session_values.specs.Following.{words_in}
use Rattle.session_values.proofs.Listed.{below_all, below_more, word_within}
use Rattle.session_values.proofs.listing.scope_nodes.Goals as goal

pub words-preserved : goal.words-preserved
words-preserved c =
    let words = words_in c.args.session.now in
    below_more c.args.sheet (length words) c.next_word-in-words.result (items_of c.words.nodes) (items_of c.push.new.self) c.words.invariant c.next_word-in-words.ensures
    (word_within words c.next_word-in-words.result (ap (λ n. is_some (slice_get words n)) (c.next_word-in-words.ensures ∙ sym c.next_word.ensures) ∙ sym c.is_word.ensures ∙ c.words-test.true)) c.in_ok-push.ensures.ok

pub returns : goal.returns
returns c = below_all c.args.sheet (words_in c.args.session.now) (items_of c.words.nodes) c.next_word.result c.words.invariant c.next_word.ensures (sym c.is_word.ensures ∙ c.words-test.false)
