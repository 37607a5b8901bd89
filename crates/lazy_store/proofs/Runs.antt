-- A run of operations that loses nothing of a formula keeps every history of it, as each of them alone does; so does the
-- way back over one over which nothing is saved. Serves the walks over all of them at once.
use Rattle.std.proofs.Common.{◌≡◌, ◌≢◌, ◌∙◌, sym, ap, refl, subst, arith, ℕ, zero, suc, ◌+◌, ◌-◌, ◌<◌, ◌≤◌, ◌⊎◌, inl, inr, List, [], ◌∷◌, ◌++◌, length, take, drop, Option, Some, None, option_map, option_and_then}
use Rattle.std.proofs.lemmas.Bool.{cases_eq, cases_lt}
use Rattle.std.proofs.lemmas.Option.{none-some, same_Some, slice_get_past}
use Rattle.formula_tree.specs.Term.{Term}
use Rattle.formula_tree.specs.declared.reference.Corner.{Corner}
use Rattle.formula_tree.specs.declared.reference.Home.{Home}
use Rattle.run_walk.specs.Run.{AreSound, NoneLoses, home_back, home_over, tree_back, tree_over}
use Rattle.shift_core.specs.declared.shift.Shift.{Shift}
use Rattle.shift_line.specs.Track.{IsRun, Track, last, shift_at}
use Rattle.tree_rewrite.specs.Rewritten.{home_after, home_before, returned, rewritten}
use Rattle.lazy_store.specs.Kept.{IsAlong, IsSavedAt, IsSoundLine, Kept, at, later, over, standing}
use Rattle.lazy_store.specs.Standing.{IsFit, Standing, after, before, returned_at, rewritten_at}
use Rattle.lazy_store.specs.internal.Steps.{GoesBackOver, GoesOver}
use Rattle.lazy_store.proofs.Histories.{at-up, at_tree, back-over, later-more}
use Rattle.lazy_store.proofs.Lines.{shift-below, shift-from}
use Rattle.lazy_store.proofs.Passing.{saved-at}

-- the front of a run
pub run-front : (line : Track) (n k : ℕ) (run : List Shift) → IsRun line k run → IsRun line k (take n run)
run-front line zero k run is = tt
run-front line (suc n) k [] is = tt
run-front line (suc n) k (s ∷ run) is = (is.0, run-front line n (k + 1) run is.1)

pub run-sound : (line : Track) (k : ℕ) (run : List Shift) → IsSoundLine line → IsRun line k run → AreSound run
run-sound line k [] sound is = tt
run-sound line k (s ∷ run) sound is = (sound k s is.0, run-sound line (k + 1) run sound is.1)

-- one operation more
pub run-push : (line : Track) (run : List Shift) (k : ℕ) (s : Shift) → IsRun line k run → shift_at line (k + length run) ≡ Some s → IsRun line k (run ++ s ∷ [])
run-push line [] k s is there = let e : k + 0 ≡ k = omega arith in (subst (λ j. shift_at line j ≡ Some s) e there, tt)
run-push line (z ∷ run) k s is there = let e : k + suc (length run) ≡ k + 1 + length run = omega arith in (is.0, run-push line run (k + 1) s is.1 (subst (λ j. shift_at line j ≡ Some s) e there))

-- those behind some of them
pub run-behind : (line : Track) (n k : ℕ) (run : List Shift) → IsRun line k run → IsRun line (k + n) (drop n run)
run-behind line zero k run is = let e : k ≡ k + 0 = omega arith in subst (λ j. IsRun line j run) e is
run-behind line (suc n) k [] is = tt
run-behind line (suc n) k (s ∷ run) is = let e : k + 1 + n ≡ k + suc n = omega arith in subst (λ j. IsRun line j (drop n run)) e (run-behind line n (k + 1) run is.1)

-- home and tree after an operation
after-parts : (s : Shift) (x y : Standing) → after s x ≡ Some y → (home_after s x.home ≡ Some y.home) × (y.tree ≡ rewritten s x.tree)
after-parts s x y goes = by (home_after s x.home) refl goes
  where
    by : (o : Option Home) → home_after s x.home ≡ o → option_map (rewritten_at s x) o ≡ Some y → (home_after s x.home ≡ Some y.home) × (y.tree ≡ rewritten s x.tree)
    by None is e = absurd (none-some y e)
    by (Some home) is e =
        let same = same_Some (rewritten_at s x home) y e in
        (is ∙ ap (λ (z : Standing). Some z.home) same, sym (ap (λ (z : Standing). z.tree) same))

module _ (line : Track) (f : ℕ → Standing) where
  step-parts : (k : ℕ) (s : Shift) → shift_at line k ≡ Some s → over line k (f k) ≡ Some (f (k + 1)) → (home_after s (f k).home ≡ Some (f (k + 1)).home) × ((f (k + 1)).tree ≡ rewritten s (f k).tree)
  step-parts k s is goes = after-parts s (f k) (f (k + 1)) (sym (ap (option_and_then (λ t. after t (f k))) is) ∙ goes)

  -- behind the run
  pub run-home : (run : List Shift) (k : ℕ) → IsRun line k run → ((j : ℕ) → k ≤ j → j < k + length run → over line j (f j) ≡ Some (f (j + 1))) → home_over run (f k).home ≡ Some (f (k + length run)).home
  run-home [] k is goes = let e : k ≡ k + 0 = omega arith in ap (λ j. Some (f j).home) e
  run-home (s ∷ run) k is goes =
      let one = step-parts k s is.0 (goes k (omega arith) (omega arith)) in
      let e : k + 1 + length run ≡ k + suc (length run) = omega arith in
      ap (option_and_then (home_over run)) one.0 ∙ run-home run (k + 1) is.1 (λ j from to. goes j (omega (arith, from)) (omega (arith, to))) ∙ ap (λ j. Some (f j).home) e

  pub run-tree : (run : List Shift) (k : ℕ) → IsRun line k run → ((j : ℕ) → k ≤ j → j < k + length run → over line j (f j) ≡ Some (f (j + 1))) → tree_over run (f k).tree ≡ (f (k + length run)).tree
  run-tree [] k is goes = let e : k ≡ k + 0 = omega arith in ap (λ j. (f j).tree) e
  run-tree (s ∷ run) k is goes =
      let one = step-parts k s is.0 (goes k (omega arith) (omega arith)) in
      let e : k + 1 + length run ≡ k + suc (length run) = omega arith in
      ap (tree_over run) (sym one.1) ∙ run-tree run (k + 1) is.1 (λ j from to. goes j (omega (arith, from)) (omega (arith, to))) ∙ ap (λ j. (f j).tree) e

  -- over each operation of it there is nothing to save
  pub run-saved : (run : List Shift) (k : ℕ) → IsRun line k run → ((j : ℕ) → k ≤ j → j < k + length run → over line j (f j) ≡ Some (f (j + 1))) → NoneLoses run (f k).tree
      → (j : ℕ) → k ≤ j → j < k + length run → (j ≡ k) ⊎ (j ≡ k → ⊥) → IsSavedAt line j (f j) None
  run-saved [] k is goes free j from to any = absurd (omega (arith, from, to))
  run-saved (s ∷ run) k is goes free j from to (inl e) = subst (λ i. IsSavedAt line i (f i) None) (sym e) (saved-at line k s (f k) None is.0 free.0)
  run-saved (s ∷ run) k is goes free j from to (inr apart) =
      let one = step-parts k s is.0 (goes k (omega arith) (omega arith)) in
      run-saved run (k + 1) is.1 (λ i above below. goes i (omega (arith, above)) (omega (arith, below))) (subst (NoneLoses run) (sym one.1) free.1) j (omega (arith, from, apart)) (omega (arith, to)) (cases_eq j (k + 1))

module _ (line : Track) (low high : ℕ) (f : ℕ → Standing) (h : Kept) (run : List Shift) (along : IsAlong line low high f h) (is : IsRun line h.position run) (fits : h.position + length run ≤ high) where
  each : (j : ℕ) → h.position ≤ j → j < h.position + length run → over line j (f j) ≡ Some (f (j + 1))
  each j from to = let start = along.from in along.runs j (omega (arith, start, from)) (omega (arith, to, fits))

  -- no operation of the run loses the home
  pub over-home : home_over run h.home ≢ None
  over-home none = none-some (f (h.position + length run)).home (sym (ap (λ (x : Standing). home_over run x.home) (sym along.here) ∙ none) ∙ run-home line f run h.position is each)

  pub goes-over : (g : Kept) → NoneLoses run (standing h).tree → GoesOver run h g → IsAlong line low high f g
  goes-over g free goes = record {
    runs = along.runs;
    fits = along.fits;
    from = let from = along.from in let p = goes.position in omega (arith, from, p);
    to = let p = goes.position in omega (arith, fits, p);
    here = here;
    saved = λ k from under. saved k from under (cases_lt k h.position);
    below = λ k under. goes.saved k ∙ along.below k under;
    above = λ k ahead. let p = goes.position in goes.saved k ∙ along.above k (omega (arith, ahead, p));
  }
    where
      place : g.position ≡ h.position + length run
      place = goes.position

      home : g.home ≡ (f g.position).home
      home =
          same_Some g.home (f (h.position + length run)).home (sym goes.home ∙ ap (λ (x : Standing). home_over run x.home) along.here ∙ run-home line f run h.position is each)
          ∙ ap (λ j. (f j).home) (sym place)

      tree : (standing g).tree ≡ (f g.position).tree
      tree = goes.tree ∙ ap (λ (x : Standing). tree_over run x.tree) along.here ∙ run-tree line f run h.position is each ∙ ap (λ j. (f j).tree) (sym place)

      here : standing g ≡ f g.position
      here = λ i. record { home = home i; tree = tree i }

      saved : (k : ℕ) → low ≤ k → k < g.position → (k < h.position) ⊎ (h.position ≤ k) → IsSavedAt line k (f k) (g.saved k)
      saved k from under (inl before) = subst (IsSavedAt line k (f k)) (sym (goes.saved k)) (along.saved k from before)
      saved k from under (inr ahead) =
          let p = goes.position in
          subst (IsSavedAt line k (f k)) (sym (goes.saved k ∙ along.above k ahead))
          (run-saved line f run h.position is each (subst (λ (x : Standing). NoneLoses run x.tree) along.here free) k ahead (omega (arith, under, p)) (cases_eq k h.position))

-- ---- back

-- home and tree before an operation over which nothing is saved
before-parts : (s : Shift) (x y : Standing) → before s None y ≡ Some x → (home_before s y.home ≡ Some x.home) × (returned s y.tree ≡ x.tree)
before-parts s x y goes = by (home_before s y.home) refl goes
  where
    by : (o : Option Home) → home_before s y.home ≡ o → option_map (returned_at s None y) o ≡ Some x → (home_before s y.home ≡ Some x.home) × (returned s y.tree ≡ x.tree)
    by None is e = absurd (none-some x e)
    by (Some home) is e =
        let same = same_Some (returned_at s None y home) x e in
        (is ∙ ap (λ (z : Standing). Some z.home) same, ap (λ (z : Standing). z.tree) same)

module _ (line : Track) (sound : IsSoundLine line) (f : ℕ → Standing) where
  -- the operation of a position leads from one standing to the next, and nothing is to be saved over it
  record Leads (k : ℕ) : Type 0 where
    pub fit : IsFit (f k)
    pub goes : over line k (f k) ≡ Some (f (k + 1))
    pub saved : IsSavedAt line k (f k) None

  step-back : (k : ℕ) (s : Shift) → shift_at line k ≡ Some s → Leads k → (home_before s (f (k + 1)).home ≡ Some (f k).home) × (returned s (f (k + 1)).tree ≡ (f k).tree)
  step-back k s is leads =
      before-parts s (f k) (f (k + 1)) (sym (ap (option_and_then (λ t. before t None (f (k + 1)))) is) ∙ back-over line (λ _. None) k (f k) (f (k + 1)) sound leads.fit leads.goes leads.saved)

  -- in front of the run
  run-home-back : (run : List Shift) (k : ℕ) → IsRun line k run → ((j : ℕ) → k ≤ j → j < k + length run → Leads j) → home_back run (f (k + length run)).home ≡ Some (f k).home
  run-home-back [] k is leads = let e : k + 0 ≡ k = omega arith in ap (λ j. Some (f j).home) e
  run-home-back (s ∷ run) k is leads =
      let e : k + suc (length run) ≡ k + 1 + length run = omega arith in
      ap (λ j. home_back (s ∷ run) (f j).home) e
      ∙ ap (option_and_then (home_before s)) (run-home-back run (k + 1) is.1 (λ j from to. leads j (omega (arith, from)) (omega (arith, to))))
      ∙ (step-back k s is.0 (leads k (omega arith) (omega arith))).0

  run-tree-back : (run : List Shift) (k : ℕ) → IsRun line k run → ((j : ℕ) → k ≤ j → j < k + length run → Leads j) → tree_back run (f (k + length run)).tree ≡ (f k).tree
  run-tree-back [] k is leads = let e : k + 0 ≡ k = omega arith in ap (λ j. (f j).tree) e
  run-tree-back (s ∷ run) k is leads =
      let e : k + suc (length run) ≡ k + 1 + length run = omega arith in
      ap (λ j. tree_back (s ∷ run) (f j).tree) e
      ∙ ap (returned s) (run-tree-back run (k + 1) is.1 (λ j from to. leads j (omega (arith, from)) (omega (arith, to))))
      ∙ (step-back k s is.0 (leads k (omega arith) (omega arith))).1

-- from a position of a formula that goes along the line, back over a run over which it has saved nothing
module _ (line : Track) (sound : IsSoundLine line) (low high : ℕ) (f : ℕ → Standing) (h : Kept) (along : IsAlong line low high f h) (run : List Shift) (k here : ℕ) (x : Standing)
    (is : IsRun line k run) (ends : k + length run ≡ here) (from : low ≤ k) (to : here ≤ h.position) (none : (j : ℕ) → k ≤ j → j < here → h.saved j ≡ None) (found : x ≡ f here) where
  leads-each : (j : ℕ) → k ≤ j → j < k + length run → Leads line sound f j
  leads-each j above under =
      let least = along.to in
      record {
        fit = along.fits j (omega (arith, from, above)) (omega (arith, under, ends, to, least));
        goes = along.runs j (omega (arith, from, above)) (omega (arith, under, ends, to, least));
        saved = subst (IsSavedAt line j (f j)) (none j above (omega (arith, under, ends))) (along.saved j (omega (arith, from, above)) (omega (arith, under, ends, to)));
      }

  behind : x ≡ f (k + length run)
  behind = found ∙ ap f (sym ends)

  home-behind : home_back run x.home ≡ Some (f k).home
  home-behind = ap (λ (y : Standing). home_back run y.home) behind ∙ run-home-back line sound f run k is leads-each

  tree-behind : tree_back run x.tree ≡ (f k).tree
  tree-behind = ap (λ (y : Standing). tree_back run y.tree) behind ∙ run-tree-back line sound f run k is leads-each

  -- the home came from somewhere
  pub back_over-home : home_back run x.home ≢ None
  back_over-home lost = none-some (f k).home (sym lost ∙ home-behind)

  -- what the way back makes of the standing is the one in front of the run
  pub back_over-found : (y : Standing) → home_back run x.home ≡ Some y.home → y.tree ≡ tree_back run x.tree → y ≡ f k
  back_over-found y home tree = λ i. record { home = homes i; tree = (tree ∙ tree-behind) i }
    where
      homes : y.home ≡ (f k).home
      homes = same_Some y.home (f k).home (sym home ∙ home-behind)

module _ (line : Track) (sound : IsSoundLine line) (low high : ℕ) (f : ℕ → Standing) (h : Kept) (along : IsAlong line low high f h) (run : List Shift)
    (is : IsRun line (h.position - length run) run) (room : length run ≤ h.position) (from : low ≤ h.position - length run) (none : (j : ℕ) → h.position - length run ≤ j → j < h.position → h.saved j ≡ None) where
  -- the home came from somewhere
  pub over_back-home : home_back run h.home ≢ None
  over_back-home = let ends : h.position - length run + length run ≡ h.position = omega (arith, room) in
      back_over-home line sound low high f h along run (h.position - length run) h.position (standing h) is ends from (omega arith) none along.here

  pub goes-back-over : (g : Kept) → GoesBackOver run h g → IsAlong line low high f g
  goes-back-over g goes = record {
    runs = along.runs;
    fits = along.fits;
    from = omega (arith, from, place);
    to = let to = along.to in omega (arith, to, place);
    here = here ∙ ap f (sym place);
    saved = λ k above under. subst (IsSavedAt line k (f k)) (sym (goes.saved k)) (along.saved k above (omega (arith, under, place)));
    below = λ k under. goes.saved k ∙ along.below k under;
    above = λ k ahead. goes.saved k ∙ above k ahead (cases_lt k h.position);
  }
    where
      place : g.position ≡ h.position - length run
      place = let p = goes.position in omega (arith, p)

      here : standing g ≡ f (h.position - length run)
      here = let ends : h.position - length run + length run ≡ h.position = omega (arith, room) in
          back_over-found line sound low high f h along run (h.position - length run) h.position (standing h) is ends from (omega arith) none along.here (standing g) goes.home goes.tree

      above : (k : ℕ) → g.position ≤ k → (k < h.position) ⊎ (h.position ≤ k) → h.saved k ≡ None
      above k ahead (inl under) = none k (omega (arith, ahead, place)) under
      above k ahead (inr past) = along.above k past

-- ---- looked up

-- where no run begins in front of a later position, the line has no operation
pub no-run : (line : Track) (k to : ℕ) (run : List Shift) → (line.first ≤ k → k < to → k < last line → 0 < length run) → k < to → length run ≡ 0 → shift_at line k ≡ None
no-run line k to run some under none = by (cases_lt k line.first) (cases_lt k (last line))
  where
    by : (k < line.first) ⊎ (line.first ≤ k) → (k < last line) ⊎ (last line ≤ k) → shift_at line k ≡ None
    by (inl low) any = shift-below line k low
    by (inr from) (inl inside) = let more = some from under inside in absurd (omega (arith, more, none))
    by (inr from) (inr past) = shift-from line k from ∙ slice_get_past line.shifts (k - line.first) (omega (arith, past, from))

-- a standing over a run, losing or not
each-later : (line : Track) (s : Shift) (run : List Shift) (k : ℕ) (x : Standing) → ((y : Standing) → later line (k + 1) y (length run) ≡ option_map (λ home. at_tree home (tree_over run y.tree)) (home_over run y.home)) → (o : Option Home)
    → option_and_then (λ y. later line (k + 1) y (length run)) (option_map (rewritten_at s x) o) ≡ option_map (λ home. at_tree home (tree_over run (rewritten s x.tree))) (option_and_then (home_over run) o)
each-later line s run k x each None = refl
each-later line s run k x each (Some home) = each (rewritten_at s x home)

run-later : (line : Track) (run : List Shift) (k : ℕ) (x : Standing) → IsRun line k run → later line k x (length run) ≡ option_map (λ home. at_tree home (tree_over run x.tree)) (home_over run x.home)
run-later line [] k x is = refl
run-later line (s ∷ run) k x is =
    let start : k + 0 ≡ k = omega arith in
    let count : suc (length run) ≡ 1 + length run = omega arith in
    ap (later line k x) count
    ∙ later-more line k x 1 (length run)
    ∙ ap (λ j. option_and_then (λ y. later line (k + 1) y (length run)) (over line j x)) start
    ∙ ap (λ o. option_and_then (λ y. later line (k + 1) y (length run)) (option_and_then (λ t. after t x) o)) is.0
    ∙ each-later line s run k x (λ y. run-later line run (k + 1) y is.1) (home_after s x.home)

module _ (line : Track) (h : Kept) (k : ℕ) (run : List Shift) (x : Standing) (from : h.position ≤ k) (there : at line h k ≡ Some x) (is : IsRun line k run) where
  at-behind : at line h (k + length run) ≡ option_map (λ home. at_tree home (tree_over run x.tree)) (home_over run x.home)
  at-behind =
      let p = h.position in
      let parts : k + length run - p ≡ k - p + length run = omega (arith, from) in
      let same : p + (k - p) ≡ k = omega (arith, from) in
      at-up line h (k + length run) (omega (arith, from))
      ∙ ap (later line p (standing h)) parts
      ∙ later-more line p (standing h) (k - p) (length run)
      ∙ ap (option_and_then (λ y. later line (p + (k - p)) y (length run))) (sym (at-up line h k from) ∙ there)
      ∙ ap (λ j. later line j x (length run)) same
      ∙ run-later line run k x is

  pub run-found : (home : Home) (tree : Term Corner) → home_over run x.home ≡ Some home → tree ≡ tree_over run x.tree → at line h (k + length run) ≡ Some (at_tree home tree)
  run-found home tree goes same = at-behind ∙ ap (option_map (λ z. at_tree z (tree_over run x.tree))) goes ∙ ap (λ t. Some (at_tree home t)) (sym same)

  -- where the home is lost there is none
  pub run-lost : home_over run x.home ≡ None → at line h (k + length run) ≡ None
  run-lost lost = at-behind ∙ ap (option_map (λ z. at_tree z (tree_over run x.tree))) lost
