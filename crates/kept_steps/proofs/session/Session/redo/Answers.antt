use Rattle.std.proofs.Common.{◌∙◌, ◌≤◌, ◌-◌, ap, length, subst, sym}
use Rattle.std.specs.Prelude.{slice_get}
use Rattle.shift_line.specs.Track.{last}
use Rattle.name_table.specs.Named.{words_of}
use Rattle.kept_book.specs.Frame.{Frame}
use Rattle.kept_book.specs.Kept.{changes_of, frame_of, line_of}
use Rattle.kept_book.specs.Walk.{Leads, forth_all}
use Rattle.kept_steps.specs.Fits.{Fits, session_of}
use Rattle.kept_steps.specs.Timeline.{timeline_of}
use Rattle.kept_steps.proofs.Outcomes.{on_err, same_batch, unchanged}
use Rattle.kept_steps.proofs.CellsTurned.{differ-forth}
use Rattle.kept_steps.proofs.OperationsTurned.{lost-forth, operates-forth}
use Rattle.kept_steps.proofs.NamesTurned.{renames-forth}
use Rattle.kept_steps.proofs.PartsTurned.{parts-forth}
use Rattle.kept_steps.proofs.Turning.{forth_leads, forth_last, newest-step, went_forth}
use Rattle.kept_steps.proofs.session.Session.redo.Goals as goal

pub forth-requires-clause-leads : goal.forth-requires-clause-leads
forth-requires-clause-leads c =
    let b = c.args.self.now.book in
    subst (λ cs. (x : Frame) × Leads (line_of b) (words_of b.names) cs (frame_of b) x) (sym (ap changes_of c.deref.ensures.value)) (forth_leads c.args.self.now.book c.args.self.now.steps c.args.self.now.batch c.requires.closed c.args.self.now.fits c.in-Some.entry.now (c.in-Some.ensures.value ∙ ap (λ l. slice_get l (length l - 1)) c.undone.ensures.result))

pub forth-requires-clause-last : goal.forth-requires-clause-last
forth-requires-clause-last c =
    let b = c.args.self.now.book in
    subst (λ cs. (forth_all (line_of b) cs (frame_of b)).position ≤ last b.lazy.line) (sym (ap changes_of c.deref.ensures.value)) (forth_last c.args.self.now.book c.args.self.now.steps c.args.self.now.batch c.requires.closed c.args.self.now.fits c.in-Some.entry.now (c.in-Some.ensures.value ∙ ap (λ l. slice_get l (length l - 1)) c.undone.ensures.result))

pub invariant_of-self : goal.invariant_of-self
invariant_of-self c =
    let s = c.args.self.now in
    record { fits = (unchanged s.book c.forth.new.self s.steps s.batch s.batch s.suspended s.next_sheet s.fits c.in_err-forth.ensures.err (same_batch s.batch)).0 }

pub returns-in_err-forth-clause-err : goal.returns-in_err-forth-clause-err
returns-in_err-forth-clause-err c =
    let s = c.args.self.now in
    on_err c.from_residual.result (unchanged s.book c.forth.new.self s.steps s.batch s.batch s.suspended s.next_sheet s.fits c.in_err-forth.ensures.err (same_batch s.batch)).1

pub invariant_of-self-in-Some : goal.invariant_of-self-in-Some
invariant_of-self-in-Some c =
    let s = c.args.self.now in
    let after = went_forth c.args.self.now.book c.args.self.now.steps c.args.self.now.batch c.requires.closed c.args.self.now.fits c.in-Some.entry.now c.forth.new.self s.suspended s.next_sheet c.in_ok-forth.ensures.line c.in_ok-forth.ensures.standings c.in_ok-forth.ensures.words (c.in-Some.ensures.value ∙ ap (λ l. slice_get l (length l - 1)) c.undone.ensures.result)
    (c.in_ok-forth.ensures.ok ∙ ap (λ cs. forth_all (line_of s.book) cs (frame_of s.book)) (ap changes_of c.deref.ensures.value)) in
    record { fits = subst (λ h. Fits c.forth.new.self h s.batch) (sym c.step_forward.ensures.moved) after.0 }

pub returns-in_ok-forth-clause-ok : goal.returns-in_ok-forth-clause-ok
returns-in_ok-forth-clause-ok c =
    let s = c.args.self.now in
    let after = went_forth c.args.self.now.book c.args.self.now.steps c.args.self.now.batch c.requires.closed c.args.self.now.fits c.in-Some.entry.now c.forth.new.self s.suspended s.next_sheet c.in_ok-forth.ensures.line c.in_ok-forth.ensures.standings c.in_ok-forth.ensures.words (c.in-Some.ensures.value ∙ ap (λ l. slice_get l (length l - 1)) c.undone.ensures.result)
    (c.in_ok-forth.ensures.ok ∙ ap (λ cs. forth_all (line_of s.book) cs (frame_of s.book)) (ap changes_of c.deref.ensures.value)) in
    ap (λ h. session_of (timeline_of c.forth.new.self) (frame_of c.forth.new.self) h s.batch s.suspended s.next_sheet) c.step_forward.ensures.moved ∙ after.1

pub returns-in_ok-forth-clause-others : goal.returns-in_ok-forth-clause-others
returns-in_ok-forth-clause-others c =
    let s = c.args.self.now in
    let step = newest-step s.steps.undone c.in-Some.entry.now (c.in-Some.ensures.value ∙ ap (λ l. slice_get l (length l - 1)) c.undone.ensures.result) in
    differ-forth s.book c.forth.new.self s.steps s.batch s.fits c.in_ok-forth.ensures.standings c.in_ok-forth.ensures.words
    (c.in_ok-forth.ensures.ok ∙ ap (λ cs. forth_all (line_of s.book) cs (frame_of s.book)) (ap changes_of c.deref.ensures.value ∙ sym step))

pub returns-in_ok-forth-clause-operation : goal.returns-in_ok-forth-clause-operation
returns-in_ok-forth-clause-operation c =
    let s = c.args.self.now in
    let step = newest-step s.steps.undone c.in-Some.entry.now (c.in-Some.ensures.value ∙ ap (λ l. slice_get l (length l - 1)) c.undone.ensures.result) in
    operates-forth s.book c.forth.new.self s.steps s.batch s.fits c.in_ok-forth.ensures.standings c.in_ok-forth.ensures.words
    (c.in_ok-forth.ensures.ok ∙ ap (λ cs. forth_all (line_of s.book) cs (frame_of s.book)) (ap changes_of c.deref.ensures.value ∙ sym step))

pub returns-in_ok-forth-clause-lost : goal.returns-in_ok-forth-clause-lost
returns-in_ok-forth-clause-lost c =
    let s = c.args.self.now in
    let step = newest-step s.steps.undone c.in-Some.entry.now (c.in-Some.ensures.value ∙ ap (λ l. slice_get l (length l - 1)) c.undone.ensures.result) in
    lost-forth s.book c.forth.new.self s.steps s.batch s.fits c.in_ok-forth.ensures.standings c.in_ok-forth.ensures.words
    (c.in_ok-forth.ensures.ok ∙ ap (λ cs. forth_all (line_of s.book) cs (frame_of s.book)) (ap changes_of c.deref.ensures.value ∙ sym step))

pub returns-in_ok-forth-clause-name : goal.returns-in_ok-forth-clause-name
returns-in_ok-forth-clause-name c =
    let s = c.args.self.now in
    let step = newest-step s.steps.undone c.in-Some.entry.now (c.in-Some.ensures.value ∙ ap (λ l. slice_get l (length l - 1)) c.undone.ensures.result) in
    renames-forth s.book c.forth.new.self s.steps s.batch s.fits c.in_ok-forth.ensures.standings c.in_ok-forth.ensures.words
    (c.in_ok-forth.ensures.ok ∙ ap (λ cs. forth_all (line_of s.book) cs (frame_of s.book)) (ap changes_of c.deref.ensures.value ∙ sym step))

pub returns-in_ok-forth-clause-parts : goal.returns-in_ok-forth-clause-parts
returns-in_ok-forth-clause-parts c =
    let s = c.args.self.now in
    let step = newest-step s.steps.undone c.in-Some.entry.now (c.in-Some.ensures.value ∙ ap (λ l. slice_get l (length l - 1)) c.undone.ensures.result) in
    parts-forth s.book c.forth.new.self s.steps s.batch c.requires.closed s.fits c.in_ok-forth.ensures.standings c.in_ok-forth.ensures.words
    (c.in_ok-forth.ensures.ok ∙ ap (λ cs. forth_all (line_of s.book) cs (frame_of s.book)) (ap changes_of c.deref.ensures.value ∙ sym step))
