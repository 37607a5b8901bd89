-- A coherent formula that has a standing at a position goes along the line up to there. Serves the reads and settling.
use Rattle.std.proofs.Common.{◌≡◌, ◌≢◌, ◌∙◌, sym, ap, refl, subst, arith, ℕ, zero, suc, ◌+◌, ◌-◌, ◌<◌, ◌≤◌, max, ◌⊎◌, inl, inr, Option, Some, None, option_and_then, unwrap_or}
use Rattle.std.proofs.lemmas.Bool.{cases_lt}
use Rattle.shift_line.specs.Track.{Track, last}
use Rattle.lazy_store.specs.Kept.{IsAlong, IsCoherent, IsSoundLine, Kept, at, history, later, lowest, over, standing}
use Rattle.lazy_store.specs.Standing.{IsFit}
use Rattle.lazy_store.specs.internal.Steps.{GoesAlong}
use Rattle.lazy_store.proofs.Histories.{at-next, at-up, coherent-from, fit-over, later-more, same-at}

-- what is there is what it would be unwrapped
there-is : {A : Type 0} (o : Option A) (d : A) → o ≢ None → o ≡ Some (unwrap_or o d)
there-is None d some = absurd (some refl)
there-is (Some x) d some = refl

module _ (line : Track) (h : Kept) where
  -- a standing later has standings before it
  later-has : (n m : ℕ) → m ≤ n → later line h.position (standing h) n ≢ None → later line h.position (standing h) m ≢ None
  later-has n m less some none =
      let parts : n ≡ m + (n - m) = omega (arith, less) in
      some (ap (later line h.position (standing h)) parts ∙ later-more line h.position (standing h) m (n - m) ∙ ap (option_and_then (λ y. later line (h.position + m) y (n - m))) none)

  pub at-has : (k to : ℕ) → h.position ≤ k → k ≤ to → at line h to ≢ None → at line h k ≢ None
  at-has k to from less some none =
      later-has (to - h.position) (k - h.position) (omega (arith, less)) (λ e. some (at-up line h to (omega (arith, from, less)) ∙ e)) (sym (at-up line h k from) ∙ none)

  -- the standings upward are one after the other
  up-runs : (k : ℕ) → h.position ≤ k → at line h k ≢ None → at line h (k + 1) ≢ None → over line k (history line h k) ≡ Some (history line h (k + 1))
  up-runs k from some next =
      sym (at-next line h k from ∙ ap (option_and_then (over line k)) (there-is (at line h k) (standing h) some)) ∙ there-is (at line h (k + 1)) (standing h) next

  module _ (sound : IsSoundLine line) (coherent : IsCoherent line h) where
    up-fits : (n to : ℕ) → h.position + n ≤ to → at line h to ≢ None → IsFit (history line h (h.position + n))
    up-fits zero to less some =
        let start : h.position ≡ h.position + 0 = omega arith in
        subst (λ k. IsFit (history line h k)) start (coherent.along.fits h.position coherent.along.from (omega arith))
    up-fits (suc n) to less some =
        let next : h.position + n + 1 ≡ h.position + suc n = omega arith in
        subst (λ k. IsFit (history line h k)) next
        (fit-over line (h.position + n) (history line h (h.position + n)) (history line h (h.position + n + 1)) sound (up-fits n to (omega (arith, less)) some)
        (up-runs (h.position + n) (omega arith) (at-has (h.position + n) to (omega arith) (omega (arith, less)) some) (at-has (h.position + n + 1) to (omega arith) (omega (arith, less)) some)))

    -- it goes along up to a position at which it has a standing
    pub reaches : (to : ℕ) → at line h to ≢ None → IsAlong line (lowest line h) (max h.position to) (history line h) h
    reaches to some = record {
      runs = λ k from under. run k from under (cases_lt k h.position);
      fits = λ k from under. fit k from under (cases_lt h.position k);
      from = coherent.along.from;
      to = omega arith;
      here = coherent.along.here;
      saved = coherent.along.saved;
      below = coherent.along.below;
      above = coherent.along.above;
    }
      where
        run : (k : ℕ) → lowest line h ≤ k → k < max h.position to → (k < h.position) ⊎ (h.position ≤ k) → over line k (history line h k) ≡ Some (history line h (k + 1))
        run k from under (inl down) = coherent.along.runs k from down
        run k from under (inr up) = up-runs k up (at-has k to up (omega (arith, under, up)) some) (at-has (k + 1) to (omega (arith, up)) (omega (arith, under, up)) some)

        fit : (k : ℕ) → lowest line h ≤ k → k ≤ max h.position to → (h.position < k) ⊎ (k ≤ h.position) → IsFit (history line h k)
        fit k from under (inl up) =
            let place : h.position + (k - h.position) ≡ k = omega (arith, up) in
            subst (λ j. IsFit (history line h j)) place (up-fits (k - h.position) to (omega (arith, up, under)) some)
        fit k from under (inr down) = coherent.along.fits k from down

-- a formula that went along from a coherent one has the same standings, and is coherent
pub went-along : (line : Track) (to : ℕ) (h g : Kept) → IsSoundLine line → IsCoherent line h → at line h to ≢ None → to ≤ last line → IsAlong line (lowest line h) (max h.position to) (history line h) g → g.birth ≡ h.birth → g.live ≡ h.live
    → GoesAlong line h g
went-along line to h g sound coherent some within along birth live =
    let lows : lowest line h ≡ lowest line g = ap (λ b. max line.first b) (sym birth) in
    let least = along.to in
    let place = coherent.within in
    record {
      at = same-at line (lowest line h) (max h.position to) (history line h) h g sound (reaches line h sound coherent to some) along refl lows;
      coherent = coherent-from line sound (lowest line h) (max h.position to) (history line h) g along lows (omega (arith, within, place, least));
      birth = birth;
      live = live;
    }
