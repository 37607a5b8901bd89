-- A step that is taken back or done again: what its parts need, and the session after it. Serves undo and redo.
use Rattle.std.proofs.Common.{◌≡◌, ◌∙◌, sym, ap, subst, refl, arith, inl, inr, ℕ, zero, suc, ◌<◌, ◌≤◌, ◌-◌, Bool, List, [], ◌∷◌, ◌++◌, length, get_or, Option, None, Some}
use Rattle.std.specs.Prelude.{slice_get}
use Rattle.std.proofs.lemmas.Option.{same_Some}
use Rattle.shift_line.specs.Track.{last, shift_at}
use Rattle.undo_book.specs.History.{History, stepped_back, stepped_forward}
use Rattle.undo_book.proofs.LastEntries.{ends_in, last_one-end}
use Rattle.book_model.specs.Session.{redone, undone}
use Rattle.kept_book.specs.Frame.{Frame}
use Rattle.kept_book.specs.Kept.{at_of, frame_of, line_of}
use Rattle.kept_book.specs.Walk.{Leads, back_all, forth_all}
use Rattle.kept_book.specs.declared.book.Book.{Book}
use Rattle.name_table.specs.Named.{words_of}
use Rattle.kept_steps.specs.Fits.{AreSteps, Fits, changes_in, session_of, steps_of}
use Rattle.kept_steps.specs.Steps.{AreAhead, ArePast, furthest, oldest}
use Rattle.kept_steps.specs.Timeline.{Agree, timeline_of}
use Rattle.kept_steps.specs.Turned.{first_step}
use Rattle.kept_steps.specs.declared.entry.Entry.{Entry}
use Rattle.kept_steps.proofs.Agreeing.{furthest_last, oldest_first}
use Rattle.kept_steps.proofs.Lists.{steps_end}
use Rattle.kept_steps.proofs.Outcomes.{same_batch}
use Rattle.kept_steps.proofs.Sessions.{any_formula, goes_back, goes_forth, stays}
use Rattle.kept_steps.proofs.Walks.{leads_here, leads_on}

found_at : (es : List Entry) (k : ℕ) (d : Entry) → k < length es → slice_get es k ≡ Some (get_or es k d)
found_at [] k d l = absurd (omega (arith, l))
found_at (e ∷ es) zero d l = refl
found_at (e ∷ es) (suc k) d l = found_at es k d (omega (arith, l))

-- the last of a list, by the number of its entries
pub last_entry : (es : List Entry) (n : ℕ) (e : Entry) → 0 < length es → n ≡ length es → e ≡ get_or es (n - 1) e → Some e ≡ slice_get es (length es - 1)
last_entry es n e some long is = ap Some (is ∙ ap (λ k. get_or es (k - 1) e) long) ∙ sym (found_at es (length es - 1) e (omega (arith, some)))

-- a list ends in its last one
ends : (xs : List Entry) (e : Entry) → Some e ≡ slice_get xs (length xs - 1) → (ys : List Entry) × (xs ≡ ys ++ e ∷ [])
ends xs e h =
    elim (ends_in xs) [
      | inl none ↦ absurd (nothing (h ∙ ap (λ l. slice_get l (length l - 1)) none))
      | inr s ↦ (s.1, s.2 ∙ ap (λ z. s.1 ++ z ∷ []) (same_Some s.0 e (sym (last_one-end s.1 s.0) ∙ sym (ap (λ l. slice_get l (length l - 1)) s.2) ∙ sym h)))
    ]
  where
    nothing : Some e ≡ None → ⊥
    nothing x = cc

-- the last one is the first step to turn
pub newest-step : (xs : List Entry) (e : Entry) → Some e ≡ slice_get xs (length xs - 1) → first_step (steps_of xs) ≡ changes_in e
newest-step xs e is = let split = ends xs e is in ap first_step (ap steps_of split.1 ∙ steps_end split.0 e)

module _ (old : Book) (h : History Entry) (b : Option Entry) (none : b ≡ None) (fits : Fits old h b) (e : Entry) where
  alone : AreSteps (timeline_of old) old.lazy.line.first (last old.lazy.line) (frame_of old) h None
  alone = subst (AreSteps (timeline_of old) old.lazy.line.first (last old.lazy.line) (frame_of old) h) none fits

  -- the newest step led to the frame
  newest : Some e ≡ slice_get h.done (length h.done - 1) → (ys : List Entry) × (h.done ≡ ys ++ e ∷ []) × ArePast (timeline_of old) (frame_of old) (changes_in e ∷ steps_of ys)
  newest last_is =
      let split = ends h.done e last_is in
      (split.0, split.1, subst (ArePast (timeline_of old) (frame_of old)) (ap steps_of split.1 ∙ steps_end split.0 e) alone.past)

  pub back_leads : Some e ≡ slice_get h.done (length h.done - 1) → (g : Frame) × Leads (line_of old) (words_of old.names) (changes_in e) g (frame_of old)
  back_leads last_is = (back_all (line_of old) (changes_in e) (frame_of old), leads_here (timeline_of old) (changes_in e) (frame_of old) (newest last_is).2.0)

  pub back_first : Some e ≡ slice_get h.done (length h.done - 1) → old.lazy.line.first ≤ (back_all (line_of old) (changes_in e) (frame_of old)).position
  back_first last_is =
      let n = newest last_is in
      let base = subst (λ l. old.lazy.line.first ≤ (oldest (timeline_of old) (frame_of old) l).position) (ap steps_of n.1 ∙ steps_end n.0 e) alone.base in
      let past = oldest_first (timeline_of old) (back_all (line_of old) (changes_in e) (frame_of old)) (steps_of n.0) n.2.2 in
      omega (arith, base, past)

  -- the next step leads on from it
  next : Some e ≡ slice_get h.undone (length h.undone - 1) → (ys : List Entry) × (h.undone ≡ ys ++ e ∷ []) × AreAhead (timeline_of old) (frame_of old) (changes_in e ∷ steps_of ys)
  next last_is =
      let split = ends h.undone e last_is in
      (split.0, split.1, subst (AreAhead (timeline_of old) (frame_of old)) (ap steps_of split.1 ∙ steps_end split.0 e) alone.ahead)

  pub forth_leads : Some e ≡ slice_get h.undone (length h.undone - 1) → (g : Frame) × Leads (line_of old) (words_of old.names) (changes_in e) (frame_of old) g
  forth_leads last_is = (forth_all (line_of old) (changes_in e) (frame_of old), leads_on (timeline_of old) (changes_in e) (frame_of old) (next last_is).2.0)

  pub forth_last : Some e ≡ slice_get h.undone (length h.undone - 1) → (forth_all (line_of old) (changes_in e) (frame_of old)).position ≤ last old.lazy.line
  forth_last last_is =
      let n = next last_is in
      let top = subst (λ l. (furthest (timeline_of old) (frame_of old) l).position ≤ last old.lazy.line) (ap steps_of n.1 ∙ steps_end n.0 e) alone.top in
      let ahead = furthest_last (timeline_of old) (forth_all (line_of old) (changes_in e) (frame_of old)) (steps_of n.0) n.2.2 in
      omega (arith, top, ahead)

  -- the workbook that the cursor was moved in
  module _ (new : Book) (s : Bool) (n : ℕ) (line : new.lazy.line ≡ record old.lazy.line { cursor = new.lazy.line.cursor }) (standings : (id k : ℕ) → at_of new id k ≡ at_of old id k) (words : words_of new.names ≡ words_of old.names) where
    along : (high : ℕ) → Agree any_formula 0 high (timeline_of old) (timeline_of new)
    along high = record {
      line = λ j l h. ap (λ x. shift_at x j) line;
      at = λ id j x any l h g. standings id j ∙ g;
      words = λ i w g. ap (λ l. slice_get l i) words ∙ g;
    }

    moved : (g : Frame) (h2 : History Entry) → AreSteps (timeline_of old) old.lazy.line.first (last old.lazy.line) g h2 None → frame_of new ≡ g
        → Fits new h2 b × (session_of (timeline_of new) (frame_of new) h2 b s n ≡ session_of (timeline_of old) g h2 None s n)
    moved g h2 steps is =
        let u = timeline_of new in
        let after = stays (timeline_of old) u old.lazy.line.first (last old.lazy.line) g h2 None None s n along steps (same_batch None) in
        let first : old.lazy.line.first ≡ new.lazy.line.first = sym (ap (λ x. x.first) line) in
        let end : last old.lazy.line ≡ last new.lazy.line = sym (ap last line) in (
          subst (AreSteps u new.lazy.line.first (last new.lazy.line) (frame_of new) h2) (sym none)
              (subst (λ y. AreSteps u new.lazy.line.first (last new.lazy.line) y h2 None) (sym is)
              (subst (λ k. AreSteps u new.lazy.line.first k g h2 None) end (subst (λ k. AreSteps u k (last old.lazy.line) g h2 None) first after.0))),
          (λ i. session_of u (is i) h2 (none i) s n) ∙ after.1,
        )

    pub went_back : Some e ≡ slice_get h.done (length h.done - 1) → frame_of new ≡ back_all (line_of old) (changes_in e) (frame_of old)
        → Fits new (stepped_back h) b × (session_of (timeline_of new) (frame_of new) (stepped_back h) b s n ≡ undone (session_of (timeline_of old) (frame_of old) h b s n).undo (session_of (timeline_of old) (frame_of old) h b s n))
    went_back last_is is =
        let m = newest last_is in
        let g = back_all (line_of old) (changes_in e) (frame_of old) in
        let turned = goes_back (timeline_of old) old.lazy.line.first (last old.lazy.line) (frame_of old) g h s n e m.0 alone m.1 refl in
        let after = moved g (stepped_back h) turned.0 is in (
          after.0,
          after.1 ∙ turned.1 ∙ ap (λ o. undone (session_of (timeline_of old) (frame_of old) h o s n).undo (session_of (timeline_of old) (frame_of old) h o s n)) (sym none),
        )

    pub went_forth : Some e ≡ slice_get h.undone (length h.undone - 1) → frame_of new ≡ forth_all (line_of old) (changes_in e) (frame_of old)
        → Fits new (stepped_forward h) b × (session_of (timeline_of new) (frame_of new) (stepped_forward h) b s n ≡ redone (session_of (timeline_of old) (frame_of old) h b s n).redo (session_of (timeline_of old) (frame_of old) h b s n))
    went_forth last_is is =
        let m = next last_is in
        let g = forth_all (line_of old) (changes_in e) (frame_of old) in
        let turned = goes_forth (timeline_of old) old.lazy.line.first (last old.lazy.line) (frame_of old) g h s n e m.0 alone m.1 refl in
        let after = moved g (stepped_forward h) turned.0 is in (
          after.0,
          after.1 ∙ turned.1 ∙ ap (λ o. redone (session_of (timeline_of old) (frame_of old) h o s n).redo (session_of (timeline_of old) (frame_of old) h o s n)) (sym none),
        )
