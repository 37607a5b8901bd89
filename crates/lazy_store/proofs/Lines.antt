-- What one more operation, and forgetting the oldest ones, do to the standings of a formula that is kept as of a
-- position of the line which stays. Serves the promises on cutting and settling.
use Rattle.std.proofs.Common.{◌≡◌, ◌∙◌, sym, ap, refl, subst, arith, ℕ, zero, suc, ◌+◌, ◌-◌, ◌<◌, ◌≤◌, max, ◌⊎◌, inl, inr, leb, le-leb, List, [], ◌∷◌, ◌++◌, length, take, drop, slice_get, Option, Some, None, MatchOption, option_and_then}
use Rattle.std.proofs.lemmas.Bool.{cases_lt, cases_order, cond-true, cond-false, lt-leb}
use Rattle.std.proofs.lemmas.Option.{none-some, same_Some}
use Rattle.std.proofs.lemmas.List.{length-drop}
use Rattle.formula_tree.specs.Term.{Term}
use Rattle.formula_tree.specs.declared.reference.Ref.{Ref}
use Rattle.shift_core.specs.Sound.{IsSound}
use Rattle.shift_core.specs.declared.shift.Shift.{Shift}
use Rattle.shift_line.specs.Track.{Track, forgotten, last, pushed, shift_at, with_spare}
use Rattle.lazy_store.specs.Kept.{IsAlong, IsCoherent, IsSavedAt, IsSoundLine, Kept, at, history, later, lowest, standing, standing_at}
use Rattle.lazy_store.specs.Standing.{IsSavedOver, Standing, after}
use Rattle.lazy_store.specs.internal.Steps.{CutsOff}
use Rattle.lazy_store.proofs.Histories.{at-is, at-low, at-next, at-up, coherent-from, later-same}

-- ---- lists with their end cut off and one item more

module _ {A : Type 0} (x : A) where
  get-kept : (n : ℕ) (xs : List A) (i : ℕ) → n ≤ length xs → i < n → slice_get (take n xs ++ x ∷ []) i ≡ slice_get xs i
  get-kept zero xs i whole under = absurd (omega (arith, under))
  get-kept (suc n) [] i whole under = absurd (omega (arith, whole))
  get-kept (suc n) (y ∷ xs) zero whole under = refl
  get-kept (suc n) (y ∷ xs) (suc i) whole under = get-kept n xs i (omega (arith, whole)) (omega (arith, under))

  get-added : (n : ℕ) (xs : List A) → n ≤ length xs → slice_get (take n xs ++ x ∷ []) n ≡ Some x
  get-added zero xs whole = refl
  get-added (suc n) [] whole = absurd (omega (arith, whole))
  get-added (suc n) (y ∷ xs) whole = get-added n xs (omega (arith, whole))

  get-past : (n : ℕ) (xs : List A) (i : ℕ) → n ≤ length xs → n < i → slice_get (take n xs ++ x ∷ []) i ≡ None
  get-past n xs zero whole past = absurd (omega (arith, past))
  get-past zero xs (suc i) whole past = refl
  get-past (suc n) [] (suc i) whole past = absurd (omega (arith, whole))
  get-past (suc n) (y ∷ xs) (suc i) whole past = get-past n xs i (omega (arith, whole)) (omega (arith, past))

  length-kept : (n : ℕ) (xs : List A) → n ≤ length xs → length (take n xs ++ x ∷ []) ≡ n + 1
  length-kept zero xs whole = refl
  length-kept (suc n) [] whole = absurd (omega (arith, whole))
  length-kept (suc n) (y ∷ xs) whole = let rest = length-kept n xs (omega (arith, whole)) in omega (arith, rest)

get-behind : {A : Type 0} (d : ℕ) (xs : List A) (i j : ℕ) → j ≡ d + i → slice_get (drop d xs) i ≡ slice_get xs j
get-behind zero xs i j e = let same : i ≡ j = omega (arith, e) in ap (slice_get xs) same
get-behind (suc d) [] i j e = refl
get-behind (suc d) (y ∷ xs) i zero e = absurd (omega (arith, e))
get-behind (suc d) (y ∷ xs) i (suc j) e = get-behind d xs i j (omega (arith, e))

-- ---- one more operation at the cursor

pub record IsPushed (s : Shift) (line new : Track) : Type 0 where
  pub first : new.first ≡ line.first
  pub end : last new ≡ line.cursor + 1
  pub before : (k : ℕ) → k < line.cursor → shift_at new k ≡ shift_at line k
  pub here : shift_at new line.cursor ≡ Some s
  pub past : (k : ℕ) → line.cursor < k → shift_at new k ≡ None

pub shift-from : (line : Track) (k : ℕ) → line.first ≤ k → shift_at line k ≡ slice_get line.shifts (k - line.first)
shift-from line k from = cond-true (leb line.first k) _ _ (le-leb line.first k from)

pub shift-below : (line : Track) (k : ℕ) → k < line.first → shift_at line k ≡ None
shift-below line k under = cond-false (leb line.first k) _ _ (lt-leb line.first k under)

pub is-pushed : (spare : ℕ) (s : Shift) (line : Track) → line.first ≤ line.cursor → line.cursor ≤ last line → IsPushed s line (with_spare spare (pushed s line))
is-pushed spare s line from within = record {
  first = refl;
  end = let count = length-kept s (line.cursor - line.first) line.shifts whole in omega (arith, count, from);
  before = λ k under. before k under (cases_lt k line.first);
  here = shift-from (pushed s line) line.cursor from ∙ get-added s (line.cursor - line.first) line.shifts whole;
  past = λ k past. shift-from (pushed s line) k (omega (arith, from, past)) ∙ get-past s (line.cursor - line.first) line.shifts (k - line.first) whole (omega (arith, from, past));
}
  where
    whole : line.cursor - line.first ≤ length line.shifts
    whole = omega (arith, within, from)

    before : (k : ℕ) → k < line.cursor → (k < line.first) ⊎ (line.first ≤ k) → shift_at (pushed s line) k ≡ shift_at line k
    before k under (inl low) = shift-below (pushed s line) k low ∙ sym (shift-below line k low)
    before k under (inr high) =
        shift-from (pushed s line) k high ∙ get-kept s (line.cursor - line.first) line.shifts (k - line.first) whole (omega (arith, under, high)) ∙ sym (shift-from line k high)

-- lines with the same operation at a position want the same saved there
saved-by : (line new : Track) (k : ℕ) (x : Standing) (saved : Option (Term Ref)) → shift_at new k ≡ shift_at line k → IsSavedAt line k x saved → IsSavedAt new k x saved
saved-by line new k x saved same h = subst (λ o. MatchOption o ⊥ (λ t. IsSavedOver t x saved)) (sym same) h

module _ (s : Shift) (line new : Track) (push : IsPushed s line new) where
  pub pushed-sound : IsSound s → IsSoundLine line → IsSoundLine new
  pushed-sound sound all k t is = by (cases_order k line.cursor)
    where
      by : (k ≡ line.cursor) ⊎ ((k < line.cursor) ⊎ (line.cursor < k)) → IsSound t
      by (inl e) = let same : Some s ≡ Some t = sym push.here ∙ ap (shift_at new) (sym e) ∙ is in subst IsSound (same_Some s t same) sound
      by (inr (inl under)) = all k t (sym (push.before k under) ∙ is)
      by (inr (inr past)) = absurd (none-some t (sym (push.past k past) ∙ is))

  module _ (h : Kept) (behind : h.position ≤ line.cursor) where
    -- before the cursor the operations are as they were, so a formula that is kept as of there goes along the new line
    pushed-along : (low : ℕ) (f : ℕ → Standing) → IsAlong line low h.position f h → IsAlong new low h.position f h
    pushed-along low f along = record {
      runs = λ k from under. ap (option_and_then (λ t. after t (f k))) (push.before k (omega (arith, under, behind))) ∙ along.runs k from under;
      fits = along.fits;
      from = along.from;
      to = along.to;
      here = along.here;
      saved = λ k from under. saved-by line new k (f k) (h.saved k) (push.before k (omega (arith, under, behind))) (along.saved k from under);
      below = along.below;
      above = along.above;
    }

    pub pushed-coherent : IsSoundLine new → IsCoherent line h → IsCoherent new h
    pushed-coherent sound coherent =
        let end = push.end in
        coherent-from new sound (lowest line h) h.position (history line h) h (pushed-along (lowest line h) (history line h) coherent.along) (ap (λ f. max f h.birth) (sym push.first)) (omega (arith, end, behind))

    pub pushed-before : IsSoundLine line → IsSoundLine new → IsCoherent line h → (k : ℕ) → k ≤ line.cursor → at new h k ≡ at line h k
    pushed-before sound other coherent k within = by (cases_lt k h.position) (cases_lt k (lowest line h))
      where
        lows : lowest line h ≡ lowest new h
        lows = ap (λ f. max f h.birth) (sym push.first)

        moved : IsAlong new (lowest line h) h.position (history line h) h
        moved = pushed-along (lowest line h) (history line h) coherent.along

        by : (k < h.position) ⊎ (h.position ≤ k) → (k < lowest line h) ⊎ (lowest line h ≤ k) → at new h k ≡ at line h k
        by (inl down) (inl under) =
            at-low new other (lowest line h) h.position (history line h) h moved lows k under ∙ sym (at-low line sound (lowest line h) h.position (history line h) h coherent.along refl k under)
        by (inl down) (inr from) =
            at-is new other (lowest line h) h.position (history line h) h moved lows k from (omega (arith, down)) ∙ sym (at-is line sound (lowest line h) h.position (history line h) h coherent.along refl k from (omega (arith, down)))
        by (inr up) any =
            at-up new h k up ∙ later-same line new h.position (standing h) (k - h.position) (λ j from under. push.before j (omega (arith, under, within, up))) ∙ sym (at-up line h k up)

    pub pushed-next : IsSoundLine line → IsSoundLine new → IsCoherent line h → at new h (line.cursor + 1) ≡ option_and_then (after s) (at line h line.cursor)
    pushed-next sound other coherent =
        at-next new h line.cursor behind ∙ ap (λ o. option_and_then (λ x. option_and_then (λ t. after t x) o) (at new h line.cursor)) push.here
        ∙ ap (option_and_then (after s)) (pushed-before sound other coherent line.cursor (omega arith))

    pub pushed-past : (k : ℕ) → line.cursor + 1 < k → at new h k ≡ None
    pushed-past k past =
        let step : k ≡ k - 1 + 1 = omega (arith, past) in
        ap (at new h) step ∙ at-next new h (k - 1) (omega (arith, past, behind)) ∙ ap (λ o. option_and_then (λ x. option_and_then (λ t. after t x) o) (at new h (k - 1))) (push.past (k - 1) (omega (arith, past))) ∙ nowhere (at new h (k - 1))
      where
        nowhere : (o : Option Standing) → option_and_then (λ x. option_and_then (λ (t : Shift). after t x) None) o ≡ None
        nowhere None = refl
        nowhere (Some x) = refl

-- ---- the oldest operations forgotten

pub record IsForgotten (k : ℕ) (line new : Track) : Type 0 where
  pub first : new.first ≡ k
  pub end : last new ≡ last line
  pub from : (j : ℕ) → k ≤ j → shift_at new j ≡ shift_at line j
  pub below : (j : ℕ) → j < k → shift_at new j ≡ None

pub is-forgotten : (spare k : ℕ) (line : Track) → line.first ≤ k → k ≤ last line → IsForgotten k line (with_spare spare (forgotten k line))
is-forgotten spare k line from within = record {
  first = refl;
  end = let count = length-drop (k - line.first) line.shifts in omega (arith, count, from, within);
  from = λ j above. shift-from (forgotten k line) j above ∙ get-behind (k - line.first) line.shifts (j - k) (j - line.first) (omega (arith, above, from)) ∙ sym (shift-from line j (omega (arith, above, from)));
  below = λ j under. shift-below (forgotten k line) j under;
}

-- home and tree are as they were
same-here : (k : ℕ) (h g : Kept) → CutsOff k h g → standing g ≡ standing h
same-here k h g cuts = ap (λ home. standing_at home g.tree) cuts.home ∙ ap (standing_at h.home) cuts.tree

module _ (k : ℕ) (line new : Track) (cut : IsForgotten k line new) where
  pub forgotten-sound : IsSoundLine line → IsSoundLine new
  forgotten-sound all j t is = by (cases_lt j k)
    where
      by : (j < k) ⊎ (k ≤ j) → IsSound t
      by (inl under) = absurd (none-some t (sym (cut.below j under) ∙ is))
      by (inr from) = all j t (sym (cut.from j from) ∙ is)

  module _ (h g : Kept) (behind : line.first ≤ k) (placed : k ≤ h.position) (cuts : CutsOff k h g) where
    -- from the position on the formula goes along the new line, with what is saved from there
    forgotten-along : (f : ℕ → Standing) → IsAlong line (lowest line h) h.position f h → IsAlong new (lowest new g) g.position f g
    forgotten-along f along = record {
      runs = λ j from under. ap (option_and_then (λ t. after t (f j))) (cut.from j (omega (arith, from, first))) ∙ along.runs j (omega (arith, from, first, birth, behind)) (omega (arith, under, same));
      fits = λ j from under. along.fits j (omega (arith, from, first, birth, behind)) (omega (arith, under, same));
      from = let low = along.from in omega (arith, low, placed, first, birth, same);
      to = omega arith;
      here = same-here k h g cuts ∙ along.here ∙ ap f (sym same);
      saved = λ j from under. saved-by line new j (f j) (g.saved j) (cut.from j (omega (arith, from, first))) (subst (IsSavedAt line j (f j)) (sym (cuts.others j (omega (arith, from, first)))) (along.saved j (omega (arith, from, first, birth, behind)) (omega (arith, under, same))));
      below = λ j under. below j under (cases_lt j k);
      above = λ j above. cuts.others j (omega (arith, above, placed, same)) ∙ along.above j (omega (arith, above, same));
    }
      where
        first : new.first ≡ k
        first = cut.first

        birth : g.birth ≡ h.birth
        birth = cuts.birth

        same : g.position ≡ h.position
        same = cuts.position

        below : (j : ℕ) → j < lowest new g → (j < k) ⊎ (k ≤ j) → g.saved j ≡ None
        below j under (inl low) = cuts.below j low
        below j under (inr high) = cuts.others j high ∙ along.below j (omega (arith, under, high, first, birth))

    pub forgotten-coherent : IsSoundLine new → IsCoherent line h → IsCoherent new g
    forgotten-coherent sound coherent =
        let end = cut.end in
        let within = coherent.within in
        let same = cuts.position in
        coherent-from new sound (lowest new g) g.position (history line h) g (forgotten-along (history line h) coherent.along) refl (omega (arith, end, within, same))

    pub forgotten-at : IsSoundLine line → IsSoundLine new → IsCoherent line h → (j : ℕ) → k ≤ j → at new g j ≡ at line h j
    forgotten-at sound other coherent j from = by (cases_lt j h.position) (cases_lt j (lowest line h)) (cases_lt j (lowest new g))
      where
        first : new.first ≡ k
        first = cut.first

        birth : g.birth ≡ h.birth
        birth = cuts.birth

        same : g.position ≡ h.position
        same = cuts.position

        moved : IsAlong new (lowest new g) g.position (history line h) g
        moved = forgotten-along (history line h) coherent.along

        by : (j < h.position) ⊎ (h.position ≤ j) → (j < lowest line h) ⊎ (lowest line h ≤ j) → (j < lowest new g) ⊎ (lowest new g ≤ j) → at new g j ≡ at line h j
        by (inl down) (inl under) (inl low) =
            at-low new other (lowest new g) g.position (history line h) g moved refl j low ∙ sym (at-low line sound (lowest line h) h.position (history line h) h coherent.along refl j under)
        by (inl down) (inr high) (inr above) =
            at-is new other (lowest new g) g.position (history line h) g moved refl j above (omega (arith, down, same)) ∙ sym (at-is line sound (lowest line h) h.position (history line h) h coherent.along refl j high (omega (arith, down)))
        by (inl down) (inl under) (inr above) = absurd (omega (arith, under, above, from, first, birth, behind))
        by (inl down) (inr high) (inl low) = absurd (omega (arith, high, low, from, first, birth, behind))
        by (inr up) any other_any =
            at-up new g j (omega (arith, up, same))
            ∙ ap (λ x. later new g.position x (j - g.position)) (same-here k h g cuts)
            ∙ ap (λ p. later new p (standing h) (j - p)) same
            ∙ later-same line new h.position (standing h) (j - h.position) (λ i above under. cut.from i (omega (arith, above, placed)))
            ∙ sym (at-up line h j up)
