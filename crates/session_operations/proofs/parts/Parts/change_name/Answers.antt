use Rattle.std.proofs.Common.{◌∙◌, sym, ap, refl, not, ◌∷◌, [], List, ℕ, true, Option, Some, option_map}
use Rattle.std.proofs.lemmas.Result.{err_from_is_err_and}
use Rattle.book_values.specs.Names.{key_of}
use Rattle.book_model.specs.Changes.{name_tree, with_name}
use Rattle.book_model.specs.Operation as op
use Rattle.book_model.specs.Refusals.{Cause, of_name_text}
use Rattle.book_model.specs.Session.{changed}
use Rattle.book_model.specs.Workbook.{State, has_name, has_scope}
use Rattle.book_model.specs.declared.refusal.Refusal.TheVariants as refusals
use Rattle.kept_book.specs.Formula.{tree_in_scope}
use Rattle.session_operations.specs.Turns.{NoAnswer}
use Rattle.session_operations.specs.Seen.{state_of}
use Rattle.session_operations.proofs.Causes.{behind, front, reads_turn, scoped, second_holds}
use Rattle.session_operations.proofs.Turning.{done_sound, next_refused}
use Rattle.session_operations.proofs.Following.{follow_named, follow_state}
use Rattle.session_operations.proofs.parts.Parts.change_name.Goals as goal

-- what is tested before the text
abbrev first : State → List ℕ → Option ℕ → List Cause
first d name scope = (not (has_scope d.book scope), refusals.NoSheet) ∷ (not (has_name d.book (key_of scope name)), refusals.NoSuchName) ∷ []

pub returns-in_err-check_known_name-clause-turns : goal.returns-in_err-check_known_name-clause-turns
returns-in_err-check_known_name-clause-turns c =
    let d = state_of c.args.self.now in
    let some = front (first d c.args.name.now c.args.scope) (of_name_text c.args.text.now (name_tree c.args.scope c.args.text.now d.book)) _ c.in_err-check_known_name.ensures in
    let p = err_from_is_err_and c.from_residual.result c.from_residual.ensures.1 in
    rw (p.1, p.2) (some, next_refused (op.change_name c.args.name.now c.args.scope c.args.text.now) d _ some)

pub returns-in_err-tree-clause-turns : goal.returns-in_err-tree-clause-turns
returns-in_err-tree-clause-turns c =
    let d = state_of c.args.self.now in
    let causes = of_name_text c.args.text.now (name_tree c.args.scope c.args.text.now d.book) in
    let p = err_from_is_err_and c.from_residual-in_err-tree.result c.from_residual-in_err-tree.ensures.1 in
    let turned = reads_turn {X = Unit {0}} {Y = Unit {0}} (op.change_name c.args.name.now c.args.scope c.args.text.now) d causes (λ x. Unit {0}) NoAnswer _ (behind (first d c.args.name.now c.args.scope) causes c.in_ok-check_known_name.ensures) c.in_err-tree.ensures in
    rw (p.1, p.2) turned

pub returns-clause-fits : goal.returns-clause-fits
returns-clause-fits c =
    let d = state_of c.args.self.now in
    let causes = of_name_text c.args.text.now (name_tree c.args.scope c.args.text.now d.book) in
    let none = behind (first d c.args.name.now c.args.scope) causes c.in_ok-check_known_name.ensures ∙ c.in_ok-tree.ensures.0 in
    let same = c.in_ok-name.ensures.ok ∙ ap (λ o. changed (with_name (key_of c.args.scope c.args.name.now) o d.book) d) (sym c.in_ok-tree.ensures.1.0) in
    done_sound (op.change_name c.args.name.now c.args.scope c.args.text.now) d _ none same c.requires

pub name-requires-clause-scope : goal.name-requires-clause-scope
name-requires-clause-scope c = scoped (state_of c.args.self.now).book c.args.scope refusals.NoSheet ((not (has_name (state_of c.args.self.now).book (key_of c.args.scope c.args.name.now)), refusals.NoSuchName) ∷ []) c.requires.book.sheets c.in_ok-check_known_name.ensures

pub name_changed-requires : goal.name_changed-requires
name_changed-requires c = scoped (state_of c.args.self.now).book c.args.scope refusals.NoSheet ((not (has_name (state_of c.args.self.now).book (key_of c.args.scope c.args.name.now)), refusals.NoSuchName) ∷ []) c.requires.book.sheets c.in_ok-check_known_name.ensures

pub returns-in_err-name-clause-follow : goal.returns-in_err-name-clause-follow
returns-in_err-name-clause-follow c = follow_state c.args.self.now (record { session = c.name.new.self; values = c.args.self.now.values }) c.name.ensures.words refl c.in_err-name.ensures.err

pub returns-clause-follow : goal.returns-clause-follow
returns-clause-follow c =
    let b = (state_of c.args.self.now).book in
    let key = key_of c.args.scope c.args.name.now in
    follow_named key true (option_map (tree_in_scope c.args.scope) (Some c.in_ok-tree.tree)) c.args.self.now (record { session = c.name.new.self; values = c.name_changed.new.self }) c.name.ensures.words c.in_ok-name.ensures.ok
    (second_holds (has_scope b c.args.scope) (has_name b key) refusals.NoSheet refusals.NoSuchName c.in_ok-check_known_name.ensures) c.name_changed.ensures.follows

pub returns-clause-marks : goal.returns-clause-marks
returns-clause-marks c = c.name_changed.ensures.marks

pub returns-in_err-check_known_name-clause-marks : goal.returns-in_err-check_known_name-clause-marks
returns-in_err-check_known_name-clause-marks c = rw (err_from_is_err_and c.from_residual.result c.from_residual.ensures.1).1 tt

pub returns-in_err-check_known_name-clause-left : goal.returns-in_err-check_known_name-clause-left
returns-in_err-check_known_name-clause-left c = rw (err_from_is_err_and c.from_residual.result c.from_residual.ensures.1).1 refl

pub returns-in_err-tree-clause-marks : goal.returns-in_err-tree-clause-marks
returns-in_err-tree-clause-marks c = rw (err_from_is_err_and c.from_residual-in_err-tree.result c.from_residual-in_err-tree.ensures.1).1 tt

pub returns-in_err-tree-clause-left : goal.returns-in_err-tree-clause-left
returns-in_err-tree-clause-left c = rw (err_from_is_err_and c.from_residual-in_err-tree.result c.from_residual-in_err-tree.ensures.1).1 refl

pub returns-in_err-name-clause-marks : goal.returns-in_err-name-clause-marks
returns-in_err-name-clause-marks c = rw (err_from_is_err_and c.from_residual-in_err-name.result c.from_residual-in_err-name.ensures.1).1 tt

pub returns-in_err-name-clause-left : goal.returns-in_err-name-clause-left
returns-in_err-name-clause-left c = rw (err_from_is_err_and c.from_residual-in_err-name.result c.from_residual-in_err-name.ensures.1).1 refl
