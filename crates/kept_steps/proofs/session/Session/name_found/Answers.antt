use Rattle.std.proofs.Common.{◌∙◌, sym, subst, refl, Some}
use Rattle.book_model.specs.Answers.{valued}
use Rattle.dep_graph.specs.declared.node.Node.TheVariants as node
use Rattle.name_table.specs.Named.{names_of, words_of}
use Rattle.kept_book.specs.Kept.{at_of}
use Rattle.recalc_core.specs.Given.{IsFound}
use Rattle.kept_steps.specs.Session.{state_of}
use Rattle.kept_steps.proofs.GivenNodes.{name-found, none-found, none-known}
use Rattle.kept_steps.proofs.session.Session.name_found.Goals as goal

pub returns-in_err-word : goal.returns-in_err-word
returns-in_err-word c =
    let s = c.args.self.now in
    let b = s.book in
    subst (IsFound (valued (state_of s).book) (words_of b.names) c.args.word.now c.args.sheet) (sym c.from_residual.ensures)
    (none-known (at_of b) b.lazy.line.cursor (words_of b.names) b.names.words.proper (names_of b.names) s.fits.stand.names (valued (state_of s).book) refl
    c.args.word.now c.args.sheet (sym c.known.ensures.number ∙ c.in_err-word.was))

pub returns-in_err-scope : goal.returns-in_err-scope
returns-in_err-scope c =
    let s = c.args.self.now in
    let b = s.book in
    subst (IsFound (valued (state_of s).book) (words_of b.names) c.args.word.now c.args.sheet) (sym c.from_residual-in_err-scope.ensures)
    (none-found (at_of b) b.lazy.line.cursor (words_of b.names) b.names.words.proper (names_of b.names) s.fits.stand.names (valued (state_of s).book) refl
    c.args.word.now c.args.sheet c.in_ok-word.word (sym c.known.ensures.number ∙ c.in_ok-word.was) (sym c.find.ensures ∙ c.in_err-scope.was))

pub returns : goal.returns
returns c =
    let s = c.args.self.now in
    let b = s.book in
    subst (λ scope. IsFound (valued (state_of s).book) (words_of b.names) c.args.word.now c.args.sheet (Some (node.Name scope c.in_ok-word.word))) (sym c.unwrap_or.ensures)
    (name-found (at_of b) b.lazy.line.cursor (words_of b.names) b.names.words.proper (names_of b.names) s.fits.stand.names (valued (state_of s).book) refl
    c.args.word.now c.args.sheet c.in_ok-word.word (c.in_ok-scope.scope, c.in_ok-scope.field-0-1) (sym c.known.ensures.number ∙ c.in_ok-word.was) (sym c.find.ensures ∙ c.in_ok-scope.was))
