-- What a call that changes a workbook comes to, where it did and where it wanted memory. Serves the changes of a session.
use Rattle.std.proofs.Common.{◌≡◌, ◌∙◌, sym, ap, subst, refl, arith, ℕ, ◌+◌, ◌-◌, ◌≤◌, Bool, [], ◌∷◌, ◌++◌, length, Option, Some, None, Result, Ok, Err}
use Rattle.std.specs.Prelude.{OnErr}
use Rattle.std.proofs.lemmas.List.{length-take-le, length_push}
use Rattle.shift_core.specs.declared.shift.Shift.{Shift}
use Rattle.shift_line.specs.Track.{last, passed, pushed, shift_at, with_spare}
use Rattle.undo_book.specs.History.{History}
use Rattle.book_model.specs.Session.{changed}
use Rattle.kept_book.specs.Change.{Change}
use Rattle.kept_book.specs.Kept.{Makes, SameBook, frame_of, workbook}
use Rattle.kept_book.specs.declared.book.Book.{Book}
use Rattle.kept_steps.specs.Fits.{AreSteps, Fits, open_changes, session_of, start_of, steps_of}
use Rattle.kept_steps.specs.Timeline.{Agree, timeline_of}
use Rattle.kept_steps.specs.declared.entry.Entry.{Entry}
use Rattle.kept_steps.specs.internal.Noted.{Notes, SameBatch}
use Rattle.kept_steps.proofs.Agreeing.{furthest_last, oldest_first}
use Rattle.kept_steps.proofs.GridCells.{grid-inside}
use Rattle.kept_steps.proofs.Sessions.{any_formula, noted, stays}
use Rattle.kept_steps.proofs.Walks.{earlier}

-- the same workbook is on the same line
same_line : (old new : Book) → SameBook old new → (high : ℕ) → Agree any_formula 0 high (timeline_of old) (timeline_of new)
same_line old new same high = record {
  line = λ j l h. ap (λ t. shift_at t j) same.line;
  at = λ id j x any l h e. same.standings id j ∙ e;
  words = same.known;
}

-- a workbook is as it is
pub itself : (b : Book) → SameBook b b
itself b = record { frame = refl; line = refl; standings = λ id k. refl; known = λ i w e. e }

pub same_batch : (b : Option Entry) → SameBatch b b
same_batch None = refl
same_batch (Some b) = (b, refl, refl)

-- where nothing changed the session is as it was
pub unchanged : (old new : Book) (h : History Entry) (b b2 : Option Entry) (s : Bool) (n : ℕ) → Fits old h b → SameBook old new → SameBatch b b2
    → Fits new h b2 × (session_of (timeline_of new) (frame_of new) h b2 s n ≡ session_of (timeline_of old) (frame_of old) h b s n)
unchanged old new h b b2 s n fits same batch =
    let f = frame_of old in
    let u = timeline_of new in
    let after = stays (timeline_of old) u old.lazy.line.first (last old.lazy.line) f h b b2 s n (same_line old new same) fits batch in
    let first : old.lazy.line.first ≡ new.lazy.line.first = sym (ap (λ t. t.first) same.line) in
    let end : last old.lazy.line ≡ last new.lazy.line = sym (ap last same.line) in (
      subst (λ g. AreSteps u new.lazy.line.first (last new.lazy.line) g h b2) (sym same.frame)
          (subst (λ k. AreSteps u new.lazy.line.first k f h b2) end (subst (λ k. AreSteps u k (last old.lazy.line) f h b2) first after.0)),
      ap (λ g. session_of u g h b2 s n) same.frame ∙ after.1,
    )

-- a change that was made and noted leads on; before it room was made in the batch
pub made : (old new : Book) (h h2 : History Entry) (b room b2 : Option Entry) (s : Bool) (n : ℕ) (c : Change) → Fits old h b → SameBatch b room → Makes old new c → Notes c room h b2 h2
    → new.lazy.line.first ≡ old.lazy.line.first → new.lazy.line.cursor ≤ last new.lazy.line
    → Fits new h2 b2 × (session_of (timeline_of new) (frame_of new) h2 b2 s n ≡ changed (workbook new) (session_of (timeline_of old) (frame_of old) h b s n))
made old new h h2 b room b2 s n c fits batch makes notes first top =
    let t = timeline_of old in
    let u = timeline_of new in
    let agree : Agree any_formula 0 (frame_of old).position t u = record {
      line = λ j l k. makes.keeps.below j k;
      at = λ id j x any l k e. makes.keeps.stays id j x k e;
      words = makes.keeps.known;
    } in
    let ready = unchanged old old h b room s n fits (itself old) batch in
    let after = noted t u old.lazy.line.first (last new.lazy.line) (last old.lazy.line) (frame_of old) (frame_of new) c agree makes.joins (record { stand = makes.stand; inside = grid-inside new.grid }) s n h h2 room b2 ready.0 notes top in (
      subst (λ k. AreSteps u k (last new.lazy.line) (frame_of new) h2 b2) (sym first) after.0,
      after.1 ∙ ap (changed (workbook new)) ready.1,
    )

-- where it is answered that something failed
pub on_err : {X E P : Type 0} (r : Result X E) → P → OnErr r P
on_err (Ok x) p = tt
on_err (Err e) p = p

-- ---- the cursor of a workbook whose steps fit is on the line

module _ (old : Book) (h : History Entry) (b : Option Entry) (fits : Fits old h b) where
  pub upto_last : old.lazy.line.cursor ≤ last old.lazy.line
  upto_last =
      let ahead = furthest_last (timeline_of old) (frame_of old) (steps_of h.undone) fits.ahead in
      let top = fits.top in
      omega (arith, ahead, top)

  pub from_first : old.lazy.line.first ≤ old.lazy.line.cursor
  from_first =
      let t = timeline_of old in
      let past = oldest_first t (start_of t b (frame_of old)) (steps_of h.done) fits.past in
      let start = earlier t (open_changes b) (frame_of old) fits.led in
      let base = fits.base in
      omega (arith, past, start, base)

  -- it stays so where the line stays, and where an operation is put on it
  pub on_same : (new : Book) → {m : ℕ} → new.lazy.line ≡ with_spare m old.lazy.line → new.lazy.line.cursor ≤ last new.lazy.line
  on_same new same = subst (λ l. l.cursor ≤ last l) (sym same) upto_last

  pub on_pushed : (new : Book) (s : Shift) → {m : ℕ} → new.lazy.line ≡ with_spare m (pushed s old.lazy.line) → new.lazy.line.cursor ≤ last new.lazy.line
  on_pushed new s same =
      let track = old.lazy.line in
      let n = track.cursor - track.first in
      let low = from_first in
      let high = upto_last in
      let within : n ≤ length track.shifts = omega (arith, low, high) in
      let front = length-take-le n track.shifts within in
      let long : length (passed track ++ s ∷ []) ≡ length (passed track) + 1 = length_push (passed track) s in
      subst (λ l. l.cursor ≤ last l) (sym same) (omega (arith, front, long, low))
