use Rattle.std.proofs.Common.{◌≡◌, ◌∙◌, sym, ap, subst, refl, None, Some, option_map}
use Rattle.std.specs.FinMap as fin
use Rattle.std.specs.Prelude.{slice_get}
use Rattle.formula_tree.specs.declared.reference.Home.TheVariants as homes
use Rattle.book_model.specs.Answers.{valued}
use Rattle.book_values.specs.Workbook.{scope_sheet}
use Rattle.name_table.specs.Named.{names_of, words_of}
use Rattle.name_table.specs.Scopes.{key_of}
use Rattle.kept_book.specs.Formula.{tree_in_scope}
use Rattle.kept_book.specs.Frame.{named_at}
use Rattle.kept_book.specs.Kept.{at_of}
use Rattle.recalc_core.specs.Given.{HasGivenAt}
use Rattle.recalc_core.specs.Nodes.{name_at}
use Rattle.recalc_core.specs.declared.trees.NodeContent.TheVariants.{Formula}
use Rattle.kept_steps.specs.Session.{state_of}
use Rattle.kept_steps.proofs.GivenNodes.{name-given, no-name-given}
use Rattle.kept_steps.proofs.session.Session.given_name.Goals as goal

pub returns-in-Some-clause-given : goal.returns-in-Some-clause-given
returns-in-Some-clause-given c =
    let s = c.args.self.now in
    let b = s.book in
    let trees = named_at (at_of b) b.lazy.line.cursor in
    let t = c.in-Some.tree in
    let read : option_map (tree_in_scope c.scope_at-scope.result) (Some t) ≡ option_map trees (fin.get (names_of b.names) (key_of c.scope_at-scope.result c.args.word)) =
    ap (option_map (tree_in_scope c.scope_at-scope.result)) (sym c.in-Some.is) ∙ c.in_ok-tree.ensures.tree in
    let home = c.home_in.ensures ∙ ap (λ scope. homes.Name (scope_sheet scope)) c.scope_at-scope.ensures in
    subst (λ h. HasGivenAt (valued (state_of s).book) (name_at c.args.scope (slice_get (words_of b.names) c.args.word)) (Formula t h)) (sym home)
    (name-given (at_of b) b.lazy.line.cursor (words_of b.names) b.names.words.proper (names_of b.names) s.fits.stand.names (valued (state_of s).book) refl c.args.scope c.args.word t
    (subst (λ scope. option_map (tree_in_scope scope) (Some t) ≡ option_map trees (fin.get (names_of b.names) (key_of scope c.args.word))) c.scope_at-scope.ensures read))

pub returns-in-None-clause-given : goal.returns-in-None-clause-given
returns-in-None-clause-given c =
    let s = c.args.self.now in
    let b = s.book in
    let trees = named_at (at_of b) b.lazy.line.cursor in
    let read : None ≡ option_map trees (fin.get (names_of b.names) (key_of c.scope_at-scope.result c.args.word)) =
    ap (option_map (tree_in_scope c.scope_at-scope.result)) (sym c.in-None.is) ∙ c.in_ok-tree.ensures.tree in
    no-name-given (at_of b) b.lazy.line.cursor (words_of b.names) b.names.words.proper (names_of b.names) s.fits.stand.names (valued (state_of s).book) refl c.args.scope c.args.word
    (subst (λ scope. None ≡ option_map trees (fin.get (names_of b.names) (key_of scope c.args.word))) c.scope_at-scope.ensures read)
