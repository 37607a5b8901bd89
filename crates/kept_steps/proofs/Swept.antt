-- A session whose store keeps the listed formulas alone. Serves the sweep and the changes that begin with it.
use Rattle.std.proofs.Common.{◌≡◌, ◌∙◌, sym, ap, subst, arith, inl, inr, ℕ, ◌<◌, Bool, true, false, ◌⊎◌, Option, Some, None, is_some, if◌then◌else◌}
use Rattle.std.specs.Prelude.{option_and_then, option_map, slice_get}
use Rattle.lazy_store.specs.Kept.{Kept, at}
use Rattle.lazy_store.specs.Store.{kept_in}
use Rattle.lazy_store.specs.declared.lazy.Lazy.{Lazy}
use Rattle.name_table.specs.Named.{words_of}
use Rattle.shift_line.specs.Track.{last, shift_at}
use Rattle.undo_book.specs.History.{History}
use Rattle.kept_book.specs.Ids.{AreBelow, AreLive, KeepsBelow}
use Rattle.kept_book.specs.Kept.{frame_of}
use Rattle.kept_book.specs.declared.book.Book.{Book}
use Rattle.kept_steps.specs.Fits.{AreSteps, Fits, session_of}
use Rattle.kept_steps.specs.InUse.{HasAny}
use Rattle.kept_steps.specs.Kept.{KeepsInUse}
use Rattle.kept_steps.specs.Timeline.{Agree, timeline_of}
use Rattle.kept_steps.specs.declared.entry.Entry.{Entry}
use Rattle.kept_steps.specs.declared.session.Session.{Session}
use Rattle.kept_steps.proofs.Outcomes.{same_batch}
use Rattle.kept_steps.proofs.Sessions.{stays_in_use}

-- where each formula is kept as it was or dropped, none is new and none removed
module _ (n : ℕ) (old new : Lazy) (or_none : (id : ℕ) → (kept_in new id ≡ kept_in old id) ⊎ (kept_in new id ≡ None)) where
  pub still-below : AreBelow n old → AreBelow n new
  still-below below id from = by (or_none id)
    where
      by : (kept_in new id ≡ kept_in old id) ⊎ (kept_in new id ≡ None) → is_some (kept_in new id) ≡ false
      by (inl e) = ap is_some e ∙ below id from
      by (inr e) = ap is_some e

  pub still-live : AreLive old → AreLive new
  still-live live id removed = by (or_none id)
    where
      by : (kept_in new id ≡ kept_in old id) ⊎ (kept_in new id ≡ None) → ⊥
      by (inl e) = live id (ap (option_map (λ h. h.live)) (sym e) ∙ removed)
      by (inr e) = let none : None ≡ Some false = ap (option_map (λ (h : Kept). h.live)) (sym e) ∙ removed in cc

-- by a test
pub kept-or-none : (old new : Lazy) (test : ℕ → Bool) → ((id : ℕ) → kept_in new id ≡ (if test id then kept_in old id else None)) → (id : ℕ) → (kept_in new id ≡ kept_in old id) ⊎ (kept_in new id ≡ None)
kept-or-none old new test kept id = by (test id) (kept id)
  where
    by : (b : Bool) → kept_in new id ≡ (if b then kept_in old id else None) → (kept_in new id ≡ kept_in old id) ⊎ (kept_in new id ≡ None)
    by true e = inl e
    by false e = inr e

pub kept-where : (old new : Lazy) (test : ℕ → Bool) → ((id : ℕ) → kept_in new id ≡ (if test id then kept_in old id else None)) → (id : ℕ) → test id ≡ true → kept_in new id ≡ kept_in old id
kept-where old new test kept id passes = kept id ∙ ap (λ b. if b then kept_in old id else None) passes

-- a workbook that keeps the formulas in use as they were
module _ (old new : Book) (h : History Entry) (b : Option Entry) (s : Bool) (n : ℕ) (fits : Fits old h b) (in_use : (id : ℕ) → HasAny (timeline_of old) (frame_of old) h b id → kept_in new.lazy id ≡ kept_in old.lazy id)
    (line : new.lazy.line ≡ old.lazy.line) (frame : frame_of new ≡ frame_of old) (names : new.names ≡ old.names) where
  agree : (high : ℕ) → Agree (HasAny (timeline_of old) (frame_of old) h b) 0 high (timeline_of old) (timeline_of new)
  agree high = record {
    line = λ j l k. ap (λ t. shift_at t j) line;
    at = λ id j x used l k e. (λ i. option_and_then (λ g. at (line i) g j) (in_use id used i)) ∙ e;
    words = λ i w e. ap (λ x. slice_get (words_of x) i) names ∙ e;
  }

  pub swept : Fits new h b × (session_of (timeline_of new) (frame_of new) h b s n ≡ session_of (timeline_of old) (frame_of old) h b s n)
  swept =
      let f = frame_of old in
      let u = timeline_of new in
      let after = stays_in_use (HasAny (timeline_of old) f h b) 0 (timeline_of old) u old.lazy.line.first old.lazy.line.first (last old.lazy.line) f h b b s n agree fits (λ id x. x) (omega arith) fits.base (same_batch b) in
      let first : old.lazy.line.first ≡ new.lazy.line.first = sym (ap (λ t. t.first) line) in
      let end : last old.lazy.line ≡ last new.lazy.line = sym (ap last line) in (
        subst (λ g. AreSteps u new.lazy.line.first (last new.lazy.line) g h b) (sym frame)
            (subst (λ k. AreSteps u new.lazy.line.first k f h b) end (subst (λ k. AreSteps u k (last old.lazy.line) f h b) first after.0)),
        ap (λ g. session_of u g h b s n) frame ∙ after.1,
      )

-- a sweep, and a change behind it that keeps what was there
pub kept-behind : (old mid : Session) (new : Lazy) → KeepsInUse old mid.book.lazy → mid.book.next_id ≡ old.book.next_id → KeepsBelow mid.book.next_id mid.book.lazy new → KeepsInUse old new
kept-behind old mid new first same after = record {
  in_use = λ id l used. after id (subst (λ k. id < k) (sym same) l) ∙ first.in_use id l used;
  others = λ id l. by id l (first.others id l);
}
  where
    by : (id : ℕ) → id < old.book.next_id → (kept_in mid.book.lazy id ≡ kept_in old.book.lazy id) ⊎ (kept_in mid.book.lazy id ≡ None) → (kept_in new id ≡ kept_in old.book.lazy id) ⊎ (kept_in new id ≡ None)
    by id l (inl e) = inl (after id (subst (λ k. id < k) (sym same) l) ∙ e)
    by id l (inr e) = inr (after id (subst (λ k. id < k) (sym same) l) ∙ e)
