use Rattle.std.proofs.Common.{◌∙◌, sym, subst, ap, refl}
use Rattle.book_model.specs.Operation as op
use Rattle.book_model.specs.Sound.{IsSound}
use Rattle.session_operations.specs.Seen.{state_of}
use Rattle.session_operations.proofs.Turning.{done_sound, next_done}
use Rattle.session_operations.proofs.SheetNames.{is_free, is_listed}
use Rattle.book_model.specs.Answers.{valued}
use Rattle.book_model.specs.Changes.{renamed}
use Rattle.book_model.specs.Workbook.{State}
use Rattle.session_operations.proofs.Following.{changed_book, follow_state, follow_values}
use Rattle.session_operations.proofs.parts.Parts.rename_sheet.Goals as goal

pub rename_sheet-requires-clause-listed : goal.rename_sheet-requires-clause-listed
rename_sheet-requires-clause-listed c = is_listed (state_of c.args.self.now) c.args.sheet c.args.name.now c.in_ok-check_rename.ensures

pub rename_sheet-requires-clause-free : goal.rename_sheet-requires-clause-free
rename_sheet-requires-clause-free c = is_free (state_of c.args.self.now) c.args.sheet c.args.name.now c.in_ok-check_rename.ensures

pub returns-in_err-rename_sheet-clause-fits : goal.returns-in_err-rename_sheet-clause-fits
returns-in_err-rename_sheet-clause-fits c = subst IsSound (sym c.in_err-rename_sheet.ensures.err) c.requires

pub returns-clause-turns : goal.returns-clause-turns
returns-clause-turns c =
    let d = state_of c.args.self.now in
    (c.in_ok-check_rename.ensures, tt, c.in_ok-rename_sheet.ensures.ok ∙ sym (next_done (op.rename_sheet c.args.sheet c.args.name.now) d c.in_ok-check_rename.ensures))

pub returns-clause-fits : goal.returns-clause-fits
returns-clause-fits c = done_sound (op.rename_sheet c.args.sheet c.args.name.now) (state_of c.args.self.now) _ c.in_ok-check_rename.ensures c.in_ok-rename_sheet.ensures.ok c.requires

pub returns-in_err-rename_sheet-clause-follow : goal.returns-in_err-rename_sheet-clause-follow
returns-in_err-rename_sheet-clause-follow c = follow_state c.args.self.now (record { session = c.rename_sheet.new.self; values = c.args.self.now.values }) c.rename_sheet.ensures.words refl c.in_err-rename_sheet.ensures.err

pub returns-clause-follow : goal.returns-clause-follow
returns-clause-follow c =
    let d = state_of c.args.self.now in
    follow_values c.args.self.now (record { session = c.rename_sheet.new.self; values = c.args.self.now.values }) c.rename_sheet.ensures.words refl (ap (λ (e : State). valued e.book) c.in_ok-rename_sheet.ensures.ok ∙ ap valued (changed_book (renamed c.args.sheet c.args.name.now d.book) d))
