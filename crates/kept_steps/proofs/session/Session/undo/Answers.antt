use Rattle.std.proofs.Common.{◌∙◌, ◌≤◌, ◌-◌, ap, length, subst, sym}
use Rattle.std.specs.VecDeque.{deque_len}
use Rattle.std.specs.Prelude.{slice_get}
use Rattle.name_table.specs.Named.{words_of}
use Rattle.kept_book.specs.Frame.{Frame}
use Rattle.kept_book.specs.Kept.{changes_of, frame_of, line_of}
use Rattle.kept_book.specs.Walk.{Leads, back_all}
use Rattle.kept_steps.specs.Fits.{Fits, session_of}
use Rattle.kept_steps.specs.Timeline.{timeline_of}
use Rattle.kept_steps.proofs.Outcomes.{on_err, same_batch, unchanged}
use Rattle.kept_steps.proofs.CellsTurned.{differ-back}
use Rattle.kept_steps.proofs.OperationsTurned.{lost-back, operates-back}
use Rattle.kept_steps.proofs.NamesTurned.{renames-back}
use Rattle.kept_steps.proofs.PartsTurned.{parts-back}
use Rattle.kept_steps.proofs.Turning.{back_leads, back_first, last_entry, newest-step, went_back}
use Rattle.kept_steps.proofs.session.Session.undo.Goals as goal

pub back-requires-in-Some-clause-leads : goal.back-requires-in-Some-clause-leads
back-requires-in-Some-clause-leads c =
    let b = c.args.self.now.book in
    subst (λ cs. (x : Frame) × Leads (line_of b) (words_of b.names) cs x (frame_of b)) (sym (ap changes_of c.deref.ensures.value)) (back_leads c.args.self.now.book c.args.self.now.steps c.args.self.now.batch c.requires.closed c.args.self.now.fits c.in-Some.entry.now (last_entry c.done.result.now.items (deque_len c.done.result.now) c.in-Some.entry.now c.in-Some.ensures.item.3.0 (c.done.result.now.ok.0) c.in-Some.ensures.item.1 ∙ ap (λ l. slice_get l (length l - 1)) c.done.ensures.result))

pub back-requires-in-Some-clause-first : goal.back-requires-in-Some-clause-first
back-requires-in-Some-clause-first c =
    let b = c.args.self.now.book in
    subst (λ cs. b.lazy.line.first ≤ (back_all (line_of b) cs (frame_of b)).position) (sym (ap changes_of c.deref.ensures.value)) (back_first c.args.self.now.book c.args.self.now.steps c.args.self.now.batch c.requires.closed c.args.self.now.fits c.in-Some.entry.now (last_entry c.done.result.now.items (deque_len c.done.result.now) c.in-Some.entry.now c.in-Some.ensures.item.3.0 (c.done.result.now.ok.0) c.in-Some.ensures.item.1 ∙ ap (λ l. slice_get l (length l - 1)) c.done.ensures.result))

pub invariant_of-self : goal.invariant_of-self
invariant_of-self c =
    let s = c.args.self.now in
    record { fits = (unchanged s.book c.back-in-Some.new.self s.steps s.batch s.batch s.suspended s.next_sheet s.fits c.in_err-back.ensures.err (same_batch s.batch)).0 }

pub returns-in_err-back-clause-err : goal.returns-in_err-back-clause-err
returns-in_err-back-clause-err c =
    let s = c.args.self.now in
    on_err c.from_residual.result (unchanged s.book c.back-in-Some.new.self s.steps s.batch s.batch s.suspended s.next_sheet s.fits c.in_err-back.ensures.err (same_batch s.batch)).1

pub invariant_of-self-in-Some : goal.invariant_of-self-in-Some
invariant_of-self-in-Some c =
    let s = c.args.self.now in
    let after = went_back c.args.self.now.book c.args.self.now.steps c.args.self.now.batch c.requires.closed c.args.self.now.fits c.in-Some.entry.now c.back-in-Some.new.self s.suspended s.next_sheet c.in_ok-back.ensures.line c.in_ok-back.ensures.standings c.in_ok-back.ensures.words (last_entry c.done.result.now.items (deque_len c.done.result.now) c.in-Some.entry.now c.in-Some.ensures.item.3.0 (c.done.result.now.ok.0) c.in-Some.ensures.item.1 ∙ ap (λ l. slice_get l (length l - 1)) c.done.ensures.result)
    (c.in_ok-back.ensures.ok ∙ ap (λ cs. back_all (line_of s.book) cs (frame_of s.book)) (ap changes_of c.deref.ensures.value)) in
    record { fits = subst (λ h. Fits c.back-in-Some.new.self h s.batch) (sym c.step_back.ensures.moved) after.0 }

pub returns-in_ok-back-clause-ok : goal.returns-in_ok-back-clause-ok
returns-in_ok-back-clause-ok c =
    let s = c.args.self.now in
    let after = went_back c.args.self.now.book c.args.self.now.steps c.args.self.now.batch c.requires.closed c.args.self.now.fits c.in-Some.entry.now c.back-in-Some.new.self s.suspended s.next_sheet c.in_ok-back.ensures.line c.in_ok-back.ensures.standings c.in_ok-back.ensures.words (last_entry c.done.result.now.items (deque_len c.done.result.now) c.in-Some.entry.now c.in-Some.ensures.item.3.0 (c.done.result.now.ok.0) c.in-Some.ensures.item.1 ∙ ap (λ l. slice_get l (length l - 1)) c.done.ensures.result)
    (c.in_ok-back.ensures.ok ∙ ap (λ cs. back_all (line_of s.book) cs (frame_of s.book)) (ap changes_of c.deref.ensures.value)) in
    ap (λ h. session_of (timeline_of c.back-in-Some.new.self) (frame_of c.back-in-Some.new.self) h s.batch s.suspended s.next_sheet) c.step_back.ensures.moved ∙ after.1

pub returns-in_ok-back-clause-others : goal.returns-in_ok-back-clause-others
returns-in_ok-back-clause-others c =
    let s = c.args.self.now in
    let step = newest-step s.steps.done c.in-Some.entry.now (last_entry c.done.result.now.items (deque_len c.done.result.now) c.in-Some.entry.now c.in-Some.ensures.item.3.0 (c.done.result.now.ok.0) c.in-Some.ensures.item.1 ∙ ap (λ l. slice_get l (length l - 1)) c.done.ensures.result) in
    differ-back s.book c.back-in-Some.new.self s.steps s.batch s.fits c.in_ok-back.ensures.standings c.in_ok-back.ensures.words c.requires.closed
    (c.in_ok-back.ensures.ok ∙ ap (λ cs. back_all (line_of s.book) cs (frame_of s.book)) (ap changes_of c.deref.ensures.value ∙ sym step))

pub returns-in_ok-back-clause-operation : goal.returns-in_ok-back-clause-operation
returns-in_ok-back-clause-operation c =
    let s = c.args.self.now in
    let step = newest-step s.steps.done c.in-Some.entry.now (last_entry c.done.result.now.items (deque_len c.done.result.now) c.in-Some.entry.now c.in-Some.ensures.item.3.0 (c.done.result.now.ok.0) c.in-Some.ensures.item.1 ∙ ap (λ l. slice_get l (length l - 1)) c.done.ensures.result) in
    operates-back s.book c.back-in-Some.new.self s.steps s.batch s.fits c.in_ok-back.ensures.standings c.in_ok-back.ensures.words c.requires.closed
    (c.in_ok-back.ensures.ok ∙ ap (λ cs. back_all (line_of s.book) cs (frame_of s.book)) (ap changes_of c.deref.ensures.value ∙ sym step))

pub returns-in_ok-back-clause-lost : goal.returns-in_ok-back-clause-lost
returns-in_ok-back-clause-lost c =
    let s = c.args.self.now in
    let step = newest-step s.steps.done c.in-Some.entry.now (last_entry c.done.result.now.items (deque_len c.done.result.now) c.in-Some.entry.now c.in-Some.ensures.item.3.0 (c.done.result.now.ok.0) c.in-Some.ensures.item.1 ∙ ap (λ l. slice_get l (length l - 1)) c.done.ensures.result) in
    lost-back s.book c.back-in-Some.new.self s.steps s.batch s.fits c.in_ok-back.ensures.standings c.in_ok-back.ensures.words c.requires.closed
    (c.in_ok-back.ensures.ok ∙ ap (λ cs. back_all (line_of s.book) cs (frame_of s.book)) (ap changes_of c.deref.ensures.value ∙ sym step))

pub returns-in_ok-back-clause-name : goal.returns-in_ok-back-clause-name
returns-in_ok-back-clause-name c =
    let s = c.args.self.now in
    let step = newest-step s.steps.done c.in-Some.entry.now (last_entry c.done.result.now.items (deque_len c.done.result.now) c.in-Some.entry.now c.in-Some.ensures.item.3.0 (c.done.result.now.ok.0) c.in-Some.ensures.item.1 ∙ ap (λ l. slice_get l (length l - 1)) c.done.ensures.result) in
    renames-back s.book c.back-in-Some.new.self s.steps s.batch s.fits c.in_ok-back.ensures.standings c.in_ok-back.ensures.words c.requires.closed
    (c.in_ok-back.ensures.ok ∙ ap (λ cs. back_all (line_of s.book) cs (frame_of s.book)) (ap changes_of c.deref.ensures.value ∙ sym step))

pub returns-in_ok-back-clause-parts : goal.returns-in_ok-back-clause-parts
returns-in_ok-back-clause-parts c =
    let s = c.args.self.now in
    let step = newest-step s.steps.done c.in-Some.entry.now (last_entry c.done.result.now.items (deque_len c.done.result.now) c.in-Some.entry.now c.in-Some.ensures.item.3.0 (c.done.result.now.ok.0) c.in-Some.ensures.item.1 ∙ ap (λ l. slice_get l (length l - 1)) c.done.ensures.result) in
    parts-back s.book c.back-in-Some.new.self s.steps s.batch c.requires.closed s.fits c.in_ok-back.ensures.standings c.in_ok-back.ensures.words
    (c.in_ok-back.ensures.ok ∙ ap (λ cs. back_all (line_of s.book) cs (frame_of s.book)) (ap changes_of c.deref.ensures.value ∙ sym step))
