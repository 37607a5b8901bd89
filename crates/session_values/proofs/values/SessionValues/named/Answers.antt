use Rattle.std.proofs.Common.{◌≡◌, sym, subst, Option}
use Rattle.std.specs.Prelude.{IfOk}
use Rattle.book_values.specs.Names.{Key}
use Rattle.recalc_core.specs.Given.{IsFound}
use Rattle.recalc_core.proofs.Bridge.{found_stands}
use Rattle.dep_graph.specs.declared.node.Node.{Node}
use Rattle.session_values.specs.Following.{book_of, name_shown, words_in}
use Rattle.session_values.proofs.values.SessionValues.named.Goals as goal

pub returns-in-Some-clause-named : goal.returns-in-Some-clause-named
returns-in-Some-clause-named c = λ customs today shows.
    let s = c.args.session.now in
    let b = book_of s in
    let (key, found, known) = subst (λ (o : Option Node). IsFound b (words_in s) c.args.word.now c.args.sheet o) c.in-Some.is c.in_ok-name.ensures.found in
    subst (λ (o : Option Key). IfOk c.node_shown.result (λ scalar. scalar ≡ name_shown b customs today o)) (sym found)
    (c.node_shown.ensures s customs today key shows (found_stands b.names c.args.word.now c.args.sheet key found) known)
