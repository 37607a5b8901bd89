use Rattle.std.proofs.Common.{◌∙◌, sym, subst, ap, refl}
use Rattle.book_model.specs.Operation as op
use Rattle.book_model.specs.Sound.{IsSound}
use Rattle.session_operations.specs.Seen.{state_of}
use Rattle.session_operations.proofs.Turning.{done_sound, next_done}
use Rattle.session_operations.proofs.SheetNames.{can_join}
use Rattle.book_model.specs.Answers.{valued}
use Rattle.book_model.specs.Changes.{with_sheet}
use Rattle.book_model.specs.Workbook.{State}
use Rattle.session_operations.proofs.Following.{changed_book, follow_state, follow_values}
use Rattle.session_operations.proofs.parts.Parts.add_sheet.Goals as goal

pub add_sheet-requires-clause-joins : goal.add_sheet-requires-clause-joins
add_sheet-requires-clause-joins c = can_join (state_of c.args.self.now) c.args.name.now c.requires c.in_ok-check_add.ensures

pub returns-in_err-number-clause-fits : goal.returns-in_err-number-clause-fits
returns-in_err-number-clause-fits c = subst IsSound (sym c.in_err-number.ensures.err) c.requires

pub returns-clause-turns : goal.returns-clause-turns
returns-clause-turns c =
    let d = state_of c.args.self.now in
    (c.in_ok-check_add.ensures, c.in_ok-number.ensures.number, c.in_ok-number.ensures.ok ∙ sym (next_done (op.add_sheet c.args.name.now) d c.in_ok-check_add.ensures))

pub returns-clause-fits : goal.returns-clause-fits
returns-clause-fits c = done_sound (op.add_sheet c.args.name.now) (state_of c.args.self.now) _ c.in_ok-check_add.ensures c.in_ok-number.ensures.ok c.requires

pub returns-in_err-number-clause-follow : goal.returns-in_err-number-clause-follow
returns-in_err-number-clause-follow c = follow_state c.args.self.now (record { session = c.add_sheet.new.self; values = c.args.self.now.values }) c.add_sheet.ensures.words refl c.in_err-number.ensures.err

pub returns-clause-follow : goal.returns-clause-follow
returns-clause-follow c =
    let d = state_of c.args.self.now in
    follow_values c.args.self.now (record { session = c.add_sheet.new.self; values = c.args.self.now.values }) c.add_sheet.ensures.words refl (ap (λ (e : State). valued e.book) c.in_ok-number.ensures.ok ∙ ap valued (changed_book (with_sheet c.args.self.now.session.next_sheet c.args.name.now d.book) d))
