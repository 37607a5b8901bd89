use Rattle.std.proofs.Common.{◌≡◌, ◌≢◌, ◌||◌, ◌∙◌, sym, subst, refl, true, is_some, Some}
use Rattle.cell_addr.specs.declared.place.TheConstants.{NO_SHEET}
use Rattle.kept_book.specs.Kept.{name_change}
use Rattle.kept_steps.specs.Turned.{to_undo}
use Rattle.name_table.specs.declared.key.NameKey.{NameKey}
use Rattle.session_values.specs.Naming.{FollowsTurn, MarksTurn, had_formula, has_formula, turn_of}
use Rattle.session_values.specs.declared.naming.NameTurn.{NameTurn}
use Rattle.session_values.proofs.NamedBetween.{turn_had, turn_has}
use Rattle.session_operations.proofs.Following.{follow_renamed, follow_state, more_as}
use Rattle.session_operations.proofs.TurnedMarks.{name_parts_back, not_of_cells}
use Rattle.session_operations.proofs.parts.Parts.name_back.Goals as goal

pub name_turned-requires : goal.name_turned-requires
name_turned-requires c =
    let name = c.args.name.now in
    let had = is_some name.after in
    let has = is_some name.before in
    λ some.
    subst (λ (k : NameKey). k.scope ≢ Some NO_SHEET) (sym c.key_of.ensures)
    ((c.in_ok-undo.ensures.name (name_change name).0 name.before name.after c.requires.name).scoped
    ((λ i. sym (turn_had had has) i || sym (turn_has had has) i) ∙ subst (λ (t : NameTurn). (had_formula t || has_formula t) ≡ true) c.turn_back.ensures some))

pub returns-in_err-undo-clause-follow : goal.returns-in_err-undo-clause-follow
returns-in_err-undo-clause-follow c = follow_state c.args.self.now (record { session = c.undo.new.self; values = c.args.self.now.values }) (more_as c.undo.ensures.words) refl c.in_err-undo.ensures.err

pub returns-clause-follow : goal.returns-clause-follow
returns-clause-follow c =
    let name = c.args.name.now in
    let key = (name_change name).0 in
    let new = c.undo.new.self in
    let before = c.args.self.now.values.values in
    let after = c.name_turned.new.self.values in
    follow_renamed key (is_some name.after) (is_some name.before) c.args.self.now (record { session = new; values = c.name_turned.new.self }) c.undo.ensures.words
    (c.in_ok-undo.ensures.name key name.before name.after c.requires.name)
    (subst (λ (k : NameKey). FollowsTurn k (turn_of (is_some name.after) (is_some name.before)) new before after) c.key_of.ensures
    (subst (λ (t : NameTurn). FollowsTurn c.key_of.result t new before after) c.turn_back.ensures c.name_turned.ensures.follows))

pub returns-in_err-undo-clause-marks : goal.returns-in_err-undo-clause-marks
returns-in_err-undo-clause-marks c = λ cells. absurd (not_of_cells _ _ c.requires.name cells)

pub returns-clause-marks : goal.returns-clause-marks
returns-clause-marks c = λ cells. absurd (not_of_cells _ _ c.requires.name cells)

pub returns-clause-parts : goal.returns-clause-parts
returns-clause-parts c =
    let name = c.args.name.now in
    let key = (name_change name).0 in
    let x = c.args.self.now.session in
    let new = c.undo.new.self in
    let before = c.args.self.now.values.values in
    let after = c.name_turned.new.self.values in
    name_parts_back x new (to_undo x) key name.before name.after before after c.requires.name c.undo.ensures.words
    (subst (λ (k : NameKey). MarksTurn k (turn_of (is_some name.after) (is_some name.before)) new before after) c.key_of.ensures
    (subst (λ (t : NameTurn). MarksTurn c.key_of.result t new before after) c.turn_back.ensures c.name_turned.ensures.marks))
