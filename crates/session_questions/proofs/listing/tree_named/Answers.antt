use Rattle.std.proofs.Common.{◌≡◌, ◌∙◌, sym, ap, subst, option_map}
use Rattle.std.specs.FinMap as fin
use Rattle.std.specs.Prelude.{IfOk, option_and_then}
use Rattle.name_table.specs.Named.{names_of, words_of}
use Rattle.name_table.specs.Scopes as table
use Rattle.kept_book.specs.Formula.{tree_in_scope}
use Rattle.kept_book.specs.Frame.{named_at}
use Rattle.kept_book.specs.Kept.{at_of}
use Rattle.kept_book.proofs.FoundNames.{get-read}
use Rattle.session_questions.proofs.listing.tree_named.Goals as goal

pub returns-in-Some-clause-tree : goal.returns-in-Some-clause-tree
returns-in-Some-clause-tree c =
    let b = c.args.parts.now.session.book in
    let trees = named_at (at_of b) b.lazy.line.cursor in
    let scope = c.args.scope in
    subst (λ r. IfOk c.named.result (λ tree. option_map (tree_in_scope scope) tree ≡ r))
    (sym (get-read (words_of b.names) b.names.words.proper trees (names_of b.names) scope c.args.name.now
    ∙ ap (λ r. option_map trees (option_and_then (λ n. fin.get (names_of b.names) (table.key_of scope n)) r)) (sym c.known.ensures.number ∙ c.in-Some.is)))
    c.named.ensures.tree

pub returns-in-None-clause-tree : goal.returns-in-None-clause-tree
returns-in-None-clause-tree c =
    let b = c.args.parts.now.session.book in
    let trees = named_at (at_of b) b.lazy.line.cursor in
    let scope = c.args.scope in
    sym (get-read (words_of b.names) b.names.words.proper trees (names_of b.names) scope c.args.name.now
    ∙ ap (λ r. option_map trees (option_and_then (λ n. fin.get (names_of b.names) (table.key_of scope n)) r)) (sym c.known.ensures.number ∙ c.in-None.is))
