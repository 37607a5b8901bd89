use Rattle.std.proofs.Common.{◌∙◌, ap}
use Rattle.book_model.specs.Changes.{with_given_content}
use Rattle.book_model.specs.Session.{changed}
use Rattle.kept_book.specs.Kept.{change_of}
use Rattle.kept_steps.specs.Session.{state_of}
use Rattle.kept_steps.proofs.Outcomes.{itself, made, on_err, on_same, unchanged}
use Rattle.kept_steps.proofs.Swept.{kept-behind}
use Rattle.kept_steps.proofs.session.Session.fill_content.Goals as goal

pub returns-in_err-room-clause-err : goal.returns-in_err-room-clause-err
returns-in_err-room-clause-err c = on_err c.from_residual-in_err-room.result ((unchanged c.sweep_where_due.new.self.book c.sweep_where_due.new.self.book c.sweep_where_due.new.self.steps c.sweep_where_due.new.self.batch c.room.new.batch c.sweep_where_due.new.self.suspended c.sweep_where_due.new.self.next_sheet c.sweep_where_due.new.self.fits (itself c.sweep_where_due.new.self.book) c.room.ensures.batch).1 ∙ c.sweep_where_due.ensures.state)

pub invariant_of-self-in-Break-branch-3 : goal.invariant_of-self-in-Break-branch-3
invariant_of-self-in-Break-branch-3 c = record { fits = (unchanged c.sweep_where_due.new.self.book c.fill_content.new.self c.sweep_where_due.new.self.steps c.sweep_where_due.new.self.batch c.room.new.batch c.sweep_where_due.new.self.suspended c.sweep_where_due.new.self.next_sheet c.sweep_where_due.new.self.fits c.in_err-part.ensures.err c.room.ensures.batch).0 }

pub returns-in_err-part-clause-err : goal.returns-in_err-part-clause-err
returns-in_err-part-clause-err c = on_err c.from_residual-in_err-part.result ((unchanged c.sweep_where_due.new.self.book c.fill_content.new.self c.sweep_where_due.new.self.steps c.sweep_where_due.new.self.batch c.room.new.batch c.sweep_where_due.new.self.suspended c.sweep_where_due.new.self.next_sheet c.sweep_where_due.new.self.fits c.in_err-part.ensures.err c.room.ensures.batch).1 ∙ c.sweep_where_due.ensures.state)

pub invariant_of-self-2 : goal.invariant_of-self-2
invariant_of-self-2 c = record { fits = (made c.sweep_where_due.new.self.book c.fill_content.new.self c.sweep_where_due.new.self.steps c.note.new.steps c.sweep_where_due.new.self.batch c.room.new.batch c.note.new.batch c.sweep_where_due.new.self.suspended c.sweep_where_due.new.self.next_sheet (change_of c.in_ok-part.part) c.sweep_where_due.new.self.fits c.room.ensures.batch c.in_ok-part.ensures.makes c.note.ensures (ap (λ t. t.first) c.fill_content.ensures.line) (on_same c.sweep_where_due.new.self.book c.sweep_where_due.new.self.steps c.sweep_where_due.new.self.batch c.sweep_where_due.new.self.fits c.fill_content.new.self c.fill_content.ensures.line)).0 }

pub returns-clause-ok : goal.returns-clause-ok
returns-clause-ok c = (let after = made c.sweep_where_due.new.self.book c.fill_content.new.self c.sweep_where_due.new.self.steps c.note.new.steps c.sweep_where_due.new.self.batch c.room.new.batch c.note.new.batch c.sweep_where_due.new.self.suspended c.sweep_where_due.new.self.next_sheet (change_of c.in_ok-part.part) c.sweep_where_due.new.self.fits c.room.ensures.batch c.in_ok-part.ensures.makes c.note.ensures (ap (λ t. t.first) c.fill_content.ensures.line) (on_same c.sweep_where_due.new.self.book c.sweep_where_due.new.self.steps c.sweep_where_due.new.self.batch c.sweep_where_due.new.self.fits c.fill_content.new.self c.fill_content.ensures.line) in after.1) ∙ ap (λ b. changed b (state_of c.sweep_where_due.new.self)) c.in_ok-part.ensures.ok ∙ ap (λ st. changed (with_given_content c.args.at c.args.content st.book) st) c.sweep_where_due.ensures.state

pub returns-clause-kept : goal.returns-clause-kept
returns-clause-kept c = kept-behind c.args.self.now c.sweep_where_due.new.self c.fill_content.new.self.lazy c.sweep_where_due.ensures.kept c.sweep_where_due.ensures.next c.fill_content.ensures.kept
