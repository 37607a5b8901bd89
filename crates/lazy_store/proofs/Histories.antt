-- A formula that goes along the line has its standings at each position, and no other history has them. Serves the
-- promise that reads leave every standing as it was.
use Rattle.std.proofs.Common.{◌≡◌, ◌∙◌, sym, ap, refl, subst, arith, ℕ, zero, suc, ◌+◌, ◌-◌, ◌<◌, ◌≤◌, ⊎_elim, ltb, le-ltb, lt-ltb, Option, Some, None, MatchOption, option_map, option_and_then, unwrap_or}
use Rattle.std.proofs.lemmas.Bool.{cases_lt, cond-true, cond-false}
use Rattle.std.proofs.lemmas.Option.{none-some, same_Some}
use Rattle.formula_tree.specs.Term.{Term}
use Rattle.formula_tree.specs.declared.reference.Corner.{Corner}
use Rattle.formula_tree.specs.declared.reference.Home.{Home}
use Rattle.formula_tree.specs.declared.reference.Ref.{Ref}
use Rattle.shift_core.specs.Sound.{IsSound}
use Rattle.shift_core.specs.declared.shift.Shift.{Shift}
use Rattle.shift_line.specs.Track.{Track, last, shift_at}
use Rattle.tree_rewrite.specs.Rewritten.{home_after, home_before, rewritten}
use Rattle.tree_rewrite.proofs.CallerLemmas.{fit-stays, homes-follow}
use Rattle.lazy_store.specs.Kept.{IsAlong, IsCoherent, IsSavedAt, IsSoundLine, Kept, at, back_over, earlier, history, later, lowest, over, standing}
use Rattle.lazy_store.specs.Standing.{IsFit, IsSavedOver, Standing, after, before, returned_at, rewritten_at, tree_before}

-- ---- one operation

-- a standing by its parts
abbrev pub at_tree : Home → Term Corner → Standing
at_tree home tree = record { home = home; tree = tree }

-- what was saved over an operation, or the way back, gives the tree from before it
tree-back : (s : Shift) (x : Standing) (saved : Option (Term Ref)) → IsSavedOver s x saved → tree_before s saved x.home (rewritten s x.tree) ≡ x.tree
tree-back s x None h = h
tree-back s x (Some t) h = h.1

-- so the standing comes back
pub before-after : (s : Shift) (x y : Standing) (saved : Option (Term Ref)) → IsSound s → IsFit x → after s x ≡ Some y → IsSavedOver s x saved → before s saved y ≡ Some x
before-after s x y saved sound fit e h = go (home_after s x.home) refl e
  where
    go : (o : Option Home) → home_after s x.home ≡ o → option_map (rewritten_at s x) o ≡ Some y → before s saved y ≡ Some x
    go None is f = absurd (none-some y f)
    go (Some home) is f =
        let same : y ≡ rewritten_at s x home = sym (same_Some (rewritten_at s x home) y f) in
        let back : home_before s home ≡ Some x.home = homes-follow.come_back s x.home home sound fit.home is in
        ap (before s saved) same ∙ ap (option_map (returned_at s saved (rewritten_at s x home))) back ∙ ap (λ t. Some (at_tree x.home t)) (tree-back s x saved h)

-- and it fits a sheet afterwards
pub fit-after : (s : Shift) (x y : Standing) → IsSound s → IsFit x → after s x ≡ Some y → IsFit y
fit-after s x y sound fit e = go (home_after s x.home) refl e
  where
    go : (o : Option Home) → home_after s x.home ≡ o → option_map (rewritten_at s x) o ≡ Some y → IsFit y
    go None is f = absurd (none-some y f)
    go (Some home) is f =
        let same : rewritten_at s x home ≡ y = same_Some (rewritten_at s x home) y f in
        subst IsFit same (record { home = homes-follow.inside_after s x.home home sound fit.home is; tree = (fit-stays s x.tree sound fit.tree).0 })

-- the same of the operation at a position of the line
pub back-over : (line : Track) (saved : ℕ → Option (Term Ref)) (k : ℕ) (x y : Standing) → IsSoundLine line → IsFit x → over line k x ≡ Some y → IsSavedAt line k x (saved k) → back_over line saved k y ≡ Some x
back-over line saved k x y sound fit e h = go (shift_at line k) refl e h
  where
    go : (o : Option Shift) → shift_at line k ≡ o → option_and_then (λ s. after s x) o ≡ Some y → MatchOption o ⊥ (λ s. IsSavedOver s x (saved k)) → option_and_then (λ s. before s (saved k) y) o ≡ Some x
    go None is f g = absurd g
    go (Some s) is f g = before-after s x y (saved k) (sound k s is) fit f g

pub fit-over : (line : Track) (k : ℕ) (x y : Standing) → IsSoundLine line → IsFit x → over line k x ≡ Some y → IsFit y
fit-over line k x y sound fit e = go (shift_at line k) refl e
  where
    go : (o : Option Shift) → shift_at line k ≡ o → option_and_then (λ s. after s x) o ≡ Some y → IsFit y
    go None is f = absurd (none-some y f)
    go (Some s) is f = fit-after s x y (sound k s is) fit f

-- ---- where a formula is at a position

pub at-up : (line : Track) (h : Kept) (k : ℕ) → h.position ≤ k → at line h k ≡ later line h.position (standing h) (k - h.position)
at-up line h k up = cond-false (ltb k h.position) _ _ (le-ltb k h.position up)

at-down : (line : Track) (h : Kept) (k : ℕ) → k < h.position → lowest line h ≤ k → at line h k ≡ earlier line h.saved h.position (standing h) (h.position - k)
at-down line h k down from = cond-true (ltb k h.position) _ _ (lt-ltb k h.position down) ∙ cond-false (ltb k (lowest line h)) _ _ (le-ltb k (lowest line h) from)

pub at-below : (line : Track) (h : Kept) (k : ℕ) → k < h.position → k < lowest line h → at line h k ≡ None
at-below line h k down low = cond-true (ltb k h.position) _ _ (lt-ltb k h.position down) ∙ cond-true (ltb k (lowest line h)) _ _ (lt-ltb k (lowest line h) low)

-- ---- steps upward, one after the other

all_of : {A : Type 0} (o : Option A) → option_and_then (λ y. Some y) o ≡ o
all_of None = refl
all_of (Some x) = refl

in_turn : {A B C : Type 0} (f : A → Option B) (g : B → Option C) (o : Option A) → option_and_then g (option_and_then f o) ≡ option_and_then (λ x. option_and_then g (f x)) o
in_turn f g None = refl
in_turn f g (Some x) = refl

-- so many operations later, and then so many more
pub later-more : (line : Track) (p : ℕ) (x : Standing) (a b : ℕ) → later line p x (a + b) ≡ option_and_then (λ y. later line (p + a) y b) (later line p x a)
later-more line p x a zero = ap (later line p x) (let e : a + 0 ≡ a = omega arith in e) ∙ sym (all_of (later line p x a))
later-more line p x a (suc b) =
    let next : a + suc b ≡ suc (a + b) = omega arith in
    let there : p + (a + b) ≡ p + a + b = omega arith in
    ap (later line p x) next ∙ ap (option_and_then (over line (p + (a + b)))) (later-more line p x a b)
    ∙ ap (λ k. option_and_then (over line k) (option_and_then (λ y. later line (p + a) y b) (later line p x a))) there
    ∙ in_turn (λ y. later line (p + a) y b) (over line (p + a + b)) (later line p x a)

-- two lines with the same operations on the way lead to the same standing
pub later-same : (line other : Track) (p : ℕ) (x : Standing) (n : ℕ) → ((k : ℕ) → p ≤ k → k < p + n → shift_at other k ≡ shift_at line k) → later other p x n ≡ later line p x n
later-same line other p x zero same = refl
later-same line other p x (suc n) same =
    ap (option_and_then (over other (p + n))) (later-same line other p x n (λ k from to. same k from (omega (arith, to))))
    ∙ ap (λ o. option_and_then (λ y. option_and_then (λ s. after s y) o) (later line p x n)) (same (p + n) (omega arith) (omega arith))

-- from the position as of which it is kept each standing is the one before it over the operation there
pub at-next : (line : Track) (h : Kept) (k : ℕ) → h.position ≤ k → at line h (k + 1) ≡ option_and_then (over line k) (at line h k)
at-next line h k up =
    let step : k + 1 - h.position ≡ suc (k - h.position) = omega (arith, up) in
    let place : h.position + (k - h.position) ≡ k = omega (arith, up) in
    at-up line h (k + 1) (omega (arith, up)) ∙ ap (later line h.position (standing h)) step
    ∙ ap (λ j. option_and_then (over line j) (later line h.position (standing h) (k - h.position))) place
    ∙ ap (option_and_then (over line k)) (sym (at-up line h k up))

-- ---- a formula that goes along the line

module _ (line : Track) (sound : IsSoundLine line) (low high : ℕ) (f : ℕ → Standing) (h : Kept) (along : IsAlong line low high f h) where
  up-is : (n : ℕ) → h.position + n ≤ high → later line h.position (standing h) n ≡ Some (f (h.position + n))
  up-is zero le = let e : h.position ≡ h.position + 0 = omega arith in ap (λ x. Some x) (along.here ∙ ap f e)
  up-is (suc n) le =
      let from = along.from in
      let next : h.position + n + 1 ≡ h.position + suc n = omega arith in
      ap (option_and_then (over line (h.position + n))) (up-is n (omega (arith, le))) ∙ along.runs (h.position + n) (omega (arith, from)) (omega (arith, le)) ∙ ap (λ k. Some (f k)) next

  down-is : (n : ℕ) → n + low ≤ h.position → earlier line h.saved h.position (standing h) n ≡ Some (f (h.position - n))
  down-is zero le = let e : h.position ≡ h.position - 0 = omega arith in ap (λ x. Some x) (along.here ∙ ap f e)
  down-is (suc n) le =
      let to = along.to in
      let q = h.position - suc n in
      let next : h.position - n ≡ q + 1 = omega (arith, le) in
      let from : low ≤ q = omega (arith, le) in
      let under : q < h.position = omega (arith, le) in
      ap (option_and_then (back_over line h.saved q)) (down-is n (omega (arith, le)) ∙ ap (λ k. Some (f k)) next)
      ∙ back-over line h.saved q (f q) (f (q + 1)) sound (along.fits q from (omega (arith, to, under))) (along.runs q from (omega (arith, to, under))) (along.saved q from under)

  module _ (lows : low ≡ lowest line h) where
    pub at-is : (k : ℕ) → low ≤ k → k ≤ high → at line h k ≡ Some (f k)
    at-is k from to = ⊎_elim
        (λ (down : k < h.position).
        let back : h.position - (h.position - k) ≡ k = omega (arith, down) in
        at-down line h k down (omega (arith, lows, from)) ∙ down-is (h.position - k) (omega (arith, down, from)) ∙ ap (λ j. Some (f j)) back)
        (λ (up : h.position ≤ k).
        let there : h.position + (k - h.position) ≡ k = omega (arith, up) in
        at-up line h k up ∙ up-is (k - h.position) (omega (arith, up, to)) ∙ ap (λ j. Some (f j)) there)
        (cases_lt k h.position)

    pub at-low : (k : ℕ) → k < low → at line h k ≡ None
    at-low k under = let from = along.from in at-below line h k (omega (arith, under, from)) (omega (arith, lows, under))

    at-beyond : (k : ℕ) → high ≤ k → at line h k ≡ later line high (f high) (k - high)
    at-beyond k up =
        let to = along.to in
        let parts : k - h.position ≡ (high - h.position) + (k - high) = omega (arith, up, to) in
        let there : h.position + (high - h.position) ≡ high = omega (arith, to) in
        at-up line h k (omega (arith, up, to)) ∙ ap (later line h.position (standing h)) parts ∙ later-more line h.position (standing h) (high - h.position) (k - high)
        ∙ ap (option_and_then (λ y. later line (h.position + (high - h.position)) y (k - high))) (up-is (high - h.position) (omega (arith, there)))
        ∙ ap (λ j. later line j (f j) (k - high)) there

  -- it goes along with every other history that has the same standings, and less far
  pub along-with : (g : ℕ → Standing) (to : ℕ) → h.position ≤ to → to ≤ high → ((k : ℕ) → low ≤ k → k ≤ to → g k ≡ f k) → IsAlong line low to g h
  along-with g to within less same = record {
    runs = λ k from under. ap (over line k) (same k from (omega (arith, under))) ∙ along.runs k from (omega (arith, under, less)) ∙ ap (λ x. Some x) (sym (same (k + 1) (omega (arith, from)) (omega (arith, under))));
    fits = λ k from under. subst IsFit (sym (same k from under)) (along.fits k from (omega (arith, under, less)));
    from = along.from;
    to = within;
    here = along.here ∙ sym (same h.position along.from within);
    saved = λ k from under. subst (λ x. IsSavedAt line k x (h.saved k)) (sym (same k from (omega (arith, under, within)))) (along.saved k from under);
    below = along.below;
    above = along.above;
  }

  pub coherent-from : low ≡ lowest line h → h.position ≤ last line → IsCoherent line h
  coherent-from lows within = record {
    along = subst (λ l. IsAlong line l h.position (history line h) h) lows (along-with (history line h) h.position (omega arith) along.to (λ k from under. let to = along.to in ap (λ o. unwrap_or o (standing h)) (at-is lows k from (omega (arith, under, to)))));
    within = within;
  }

-- two formulas that go along the line with the same history have the same standing at each position
pub same-at : (line : Track) (low high : ℕ) (f : ℕ → Standing) (h g : Kept) → IsSoundLine line → IsAlong line low high f h → IsAlong line low high f g → low ≡ lowest line h → low ≡ lowest line g → (k : ℕ) → at line g k ≡ at line h k
same-at line low high f h g sound a b la lb k = ⊎_elim
    (λ (under : k < low). at-low line sound low high f g b lb k under ∙ sym (at-low line sound low high f h a la k under))
    (λ (from : low ≤ k). ⊎_elim
    (λ (past : high < k). at-beyond line sound low high f g b lb k (omega (arith, past)) ∙ sym (at-beyond line sound low high f h a la k (omega (arith, past))))
    (λ (to : k ≤ high). at-is line sound low high f g b lb k from to ∙ sym (at-is line sound low high f h a la k from to))
    (cases_lt high k))
    (cases_lt k low)
