use Rattle.std.proofs.Common.{refl, true, not, ◌∷◌, [], None}
use Rattle.std.proofs.lemmas.Result.{err_from_is_err_and}
use Rattle.book_values.specs.Names.{key_of}
use Rattle.book_model.specs.Workbook.{has_name, has_scope}
use Rattle.book_model.specs.declared.refusal.Refusal.TheVariants as refusals
use Rattle.book_model.specs.Operation as op
use Rattle.session_operations.specs.Seen.{state_of}
use Rattle.session_operations.proofs.Causes.{scoped, second_holds}
use Rattle.session_operations.proofs.Turning.{done_sound}
use Rattle.session_operations.proofs.Following.{follow_named, follow_state}
use Rattle.session_operations.proofs.parts.Parts.remove_name.Goals as goal

pub returns-clause-fits : goal.returns-clause-fits
returns-clause-fits c = done_sound (op.remove_name c.args.name.now c.args.scope) (state_of c.args.self.now) _ c.in_ok-check_known_name.ensures c.in_ok-name.ensures.ok c.requires

pub name-requires-clause-scope : goal.name-requires-clause-scope
name-requires-clause-scope c = scoped (state_of c.args.self.now).book c.args.scope refusals.NoSheet ((not (has_name (state_of c.args.self.now).book (key_of c.args.scope c.args.name.now)), refusals.NoSuchName) ∷ []) c.requires.book.sheets c.in_ok-check_known_name.ensures

pub name_removed-requires : goal.name_removed-requires
name_removed-requires c = scoped (state_of c.args.self.now).book c.args.scope refusals.NoSheet ((not (has_name (state_of c.args.self.now).book (key_of c.args.scope c.args.name.now)), refusals.NoSuchName) ∷ []) c.requires.book.sheets c.in_ok-check_known_name.ensures

pub returns-in_err-name-clause-follow : goal.returns-in_err-name-clause-follow
returns-in_err-name-clause-follow c = follow_state c.args.self.now (record { session = c.name.new.self; values = c.args.self.now.values }) c.name.ensures.words refl c.in_err-name.ensures.err

pub returns-clause-follow : goal.returns-clause-follow
returns-clause-follow c =
    let b = (state_of c.args.self.now).book in
    let key = key_of c.args.scope c.args.name.now in
    follow_named key true None c.args.self.now (record { session = c.name.new.self; values = c.name_removed.new.self }) c.name.ensures.words c.in_ok-name.ensures.ok
    (second_holds (has_scope b c.args.scope) (has_name b key) refusals.NoSheet refusals.NoSuchName c.in_ok-check_known_name.ensures) c.name_removed.ensures.follows

pub returns-clause-marks : goal.returns-clause-marks
returns-clause-marks c = c.name_removed.ensures.marks

pub returns-in_err-check_known_name-clause-marks : goal.returns-in_err-check_known_name-clause-marks
returns-in_err-check_known_name-clause-marks c = rw (err_from_is_err_and c.from_residual.result c.from_residual.ensures.1).1 tt

pub returns-in_err-check_known_name-clause-left : goal.returns-in_err-check_known_name-clause-left
returns-in_err-check_known_name-clause-left c = rw (err_from_is_err_and c.from_residual.result c.from_residual.ensures.1).1 refl

pub returns-in_err-name-clause-marks : goal.returns-in_err-name-clause-marks
returns-in_err-name-clause-marks c = rw (err_from_is_err_and c.from_residual-in_err-name.result c.from_residual-in_err-name.ensures.1).1 tt

pub returns-in_err-name-clause-left : goal.returns-in_err-name-clause-left
returns-in_err-name-clause-left c = rw (err_from_is_err_and c.from_residual-in_err-name.result c.from_residual-in_err-name.ensures.1).1 refl
