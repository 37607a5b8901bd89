use Rattle.std.proofs.Common.{◌≡◌, ◌∙◌, ◌==◌, sym, ap, cond, true, false, length, Some, None, is_some}
use Rattle.book_model.specs.Operation as op
use Rattle.book_model.specs.Refusals.{cause}
use Rattle.book_model.specs.Workbook.{State}
use Rattle.book_model.specs.declared.refusal.Refusal.TheVariants.{BatchOpen, NothingToUndo}
use Rattle.kept_book.specs.Kept.{frame_of}
use Rattle.kept_steps.specs.Fits.{batch_of, start_of}
use Rattle.kept_steps.specs.Timeline.{timeline_of}
use Rattle.session_operations.specs.Seen.{state_of}
use Rattle.session_operations.proofs.Counted.{steps_past}
use Rattle.session_operations.proofs.NamedSlots.{is_some-map}
use Rattle.session_operations.proofs.parts.Parts.check_undo.Goals as goal

open_batch : (d : State) → is_some d.batch ≡ true → cause op.undo d ≡ Some BatchOpen
open_batch d is = ap (λ x. cond x (Some BatchOpen) (cond (length d.undo == 0) (Some NothingToUndo) None)) is

no_step : (d : State) → is_some d.batch ≡ false → (length d.undo == 0) ≡ true → cause op.undo d ≡ Some NothingToUndo
no_step d shut none = ap (λ x. cond x (Some BatchOpen) (cond (length d.undo == 0) (Some NothingToUndo) None)) shut ∙ ap (λ x. cond x (Some NothingToUndo) None) none

-- where no batch is open and there is a step, it is accepted
accepted : (d : State) → is_some d.batch ≡ false → (length d.undo == 0) ≡ false → cause op.undo d ≡ None
accepted d shut some = ap (λ x. cond x (Some BatchOpen) (cond (length d.undo == 0) (Some NothingToUndo) None)) shut ∙ ap (λ x. cond x (Some NothingToUndo) None) some

pub returns-then-is_some : goal.returns-then-is_some
returns-then-is_some c =
    let s = c.args.self.now.session in
    open_batch (state_of c.args.self.now) (sym (is_some-map (batch_of (timeline_of s.book) (frame_of s.book)) s.batch) ∙ sym c.is_some.ensures ∙ c.if-is_some.true)

pub returns-then-is_empty : goal.returns-then-is_empty
returns-then-is_empty c =
    let s = c.args.self.now.session in
    let t = timeline_of s.book in
    let f = frame_of s.book in
    no_step (state_of c.args.self.now) (sym (is_some-map (batch_of t f) s.batch) ∙ sym c.is_some.ensures ∙ c.if-is_some.false)
    (ap (λ k. k == 0) (steps_past t (start_of t s.batch f) s.steps.done ∙ sym (ap length c.done.ensures.result) ∙ sym c.done.result.now.ok.0) ∙ sym c.is_empty.ensures ∙ c.if-is_empty.true)

pub returns : goal.returns
returns c =
    let s = c.args.self.now.session in
    let t = timeline_of s.book in
    let f = frame_of s.book in
    accepted (state_of c.args.self.now) (sym (is_some-map (batch_of t f) s.batch) ∙ sym c.is_some.ensures ∙ c.if-is_some.false)
    (ap (λ k. k == 0) (steps_past t (start_of t s.batch f) s.steps.done ∙ sym (ap length c.done.ensures.result) ∙ sym c.done.result.now.ok.0) ∙ sym c.is_empty.ensures ∙ c.if-is_empty.false)
