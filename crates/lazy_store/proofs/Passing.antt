-- A step over an operation, in either direction, keeps every history of a formula that goes along the line. Serves the
-- reads, which are made of such steps.
use Rattle.std.proofs.Common.{◌≡◌, ◌≢◌, ◌∙◌, sym, ap, subst, arith, ℕ, ◌+◌, ◌-◌, ◌<◌, ◌≤◌, ◌⊎◌, inl, inr, Option, Some, None, MatchOption, option_map, option_and_then}
use Rattle.std.proofs.lemmas.Bool.{cases_eq}
use Rattle.std.proofs.lemmas.Option.{none-some, same_Some}
use Rattle.formula_tree.specs.declared.reference.Ref.{Ref}
use Rattle.formula_tree.specs.Term.{Term}
use Rattle.shift_core.specs.declared.shift.Shift.{Shift}
use Rattle.shift_line.specs.Track.{Track, shift_at}
use Rattle.tree_rewrite.specs.Rewritten.{home_after, home_before}
use Rattle.lazy_store.specs.Kept.{IsAlong, IsSavedAt, IsSoundLine, Kept, back_over, over, standing}
use Rattle.lazy_store.specs.Standing.{IsSavedOver, Standing, after, before, returned_at, rewritten_at}
use Rattle.lazy_store.specs.internal.Steps.{GoesBack, GoesOn}
use Rattle.lazy_store.proofs.Histories.{back-over}

-- what is saved over the operation of a position is saved at that position
pub saved-at : (line : Track) (k : ℕ) (s : Shift) (x : Standing) (saved : Option (Term Ref)) → shift_at line k ≡ Some s → IsSavedOver s x saved → IsSavedAt line k x saved
saved-at line k s x saved is h = subst (λ o. MatchOption o ⊥ (λ t. IsSavedOver t x saved)) (sym is) h

module _ (line : Track) (low high : ℕ) (f : ℕ → Standing) (h g : Kept) (s : Shift) where
  pub goes-on : IsAlong line low high f h → shift_at line h.position ≡ Some s → h.position < high → GoesOn s h g → IsAlong line low high f g
  goes-on along is less goes = record {
    runs = along.runs;
    fits = along.fits;
    from = let from = along.from in let p = goes.position in omega (arith, from, p);
    to = let p = goes.position in omega (arith, less, p);
    here = here;
    saved = λ k from under. at_each k from (cases_eq k h.position) under;
    below = λ k under. let from = along.from in goes.others k (omega (arith, under, from)) ∙ along.below k under;
    above = λ k ahead. let p = goes.position in goes.others k (omega (arith, ahead, p)) ∙ along.above k (omega (arith, ahead, p));
  }
    where
      here : standing g ≡ f g.position
      here =
          let there : Some (standing g) ≡ Some (f (h.position + 1)) = sym goes.here ∙ ap (after s) along.here ∙ ap (option_and_then (λ t. after t (f h.position))) (sym is) ∙ along.runs h.position along.from less in
          let same : standing g ≡ f (h.position + 1) = same_Some (standing g) (f (h.position + 1)) there in
          same ∙ ap f (sym goes.position)

      at_each : (k : ℕ) → low ≤ k → (k ≡ h.position) ⊎ (k ≡ h.position → ⊥) → k < g.position → IsSavedAt line k (f k) (g.saved k)
      at_each k from (inl e) under =
          subst (λ j. IsSavedAt line j (f j) (g.saved j)) (sym e) (saved-at line h.position s (f h.position) (g.saved h.position) is (subst (λ x. IsSavedOver s x (g.saved h.position)) along.here goes.saved))
      at_each k from (inr apart) under =
          let p = goes.position in
          let before : k < h.position = omega (arith, under, p, apart) in
          subst (IsSavedAt line k (f k)) (sym (goes.others k apart)) (along.saved k from before)

  pub goes-back : IsSoundLine line → IsAlong line low high f h → shift_at line g.position ≡ Some s → low < h.position → GoesBack s h g → IsAlong line low high f g
  goes-back sound along is more goes = record {
    runs = along.runs;
    fits = along.fits;
    from = let p = goes.position in omega (arith, more, p);
    to = let to = along.to in let p = goes.position in omega (arith, to, p);
    here = here;
    saved = λ k from under. let p = goes.position in subst (IsSavedAt line k (f k)) (sym (goes.others k (omega (arith, under)))) (along.saved k from (omega (arith, under, p)));
    below = λ k under. let p = goes.position in goes.others k (omega (arith, under, more, p)) ∙ along.below k under;
    above = λ k ahead. above k ahead (cases_eq k g.position);
  }
    where
      here : standing g ≡ f g.position
      here =
          let p = goes.position in
          let to = along.to in
          let there : Some (standing g) ≡ Some (f g.position) =
          sym goes.here
          ∙ ap (before s (h.saved g.position)) (along.here ∙ ap f goes.position)
          ∙ ap (option_and_then (λ t. before t (h.saved g.position) (f (g.position + 1)))) (sym is)
          ∙ back-over line h.saved g.position (f g.position) (f (g.position + 1)) sound (along.fits g.position (omega (arith, more, p)) (omega (arith, to, p))) (along.runs g.position (omega (arith, more, p)) (omega (arith, to, p))) (along.saved g.position (omega (arith, more, p)) (omega (arith, p))) in
          same_Some (standing g) (f g.position) there

      above : (k : ℕ) → g.position ≤ k → (k ≡ g.position) ⊎ (k ≡ g.position → ⊥) → g.saved k ≡ None
      above k ahead (inl e) = ap g.saved e ∙ goes.saved
      above k ahead (inr apart) = let p = goes.position in goes.others k apart ∙ along.above k (omega (arith, ahead, p, apart))

-- a formula that goes on has a home after the operation, and one that goes back a home before it
pub home-kept : (line : Track) (k : ℕ) (s : Shift) (x y : Standing) → shift_at line k ≡ Some s → over line k x ≡ Some y → home_after s x.home ≢ None
home-kept line k s x y is e none =
    none-some y (sym (ap (option_map (rewritten_at s x)) none) ∙ ap (option_and_then (λ t. after t x)) (sym is) ∙ e)

pub home-back : (line : Track) (saved : ℕ → Option (Term Ref)) (k : ℕ) (s : Shift) (x y : Standing) → shift_at line k ≡ Some s → back_over line saved k y ≡ Some x → home_before s y.home ≢ None
home-back line saved k s x y is e none =
    none-some x (sym (ap (option_map (returned_at s (saved k) y)) none) ∙ ap (option_and_then (λ t. before t (saved k) y)) (sym is) ∙ e)

-- the line has an operation where it leads from one standing to another
pub operation-there : (line : Track) (k : ℕ) (x y : Standing) → over line k x ≡ Some y → shift_at line k ≢ None
operation-there line k x y e none = none-some y (sym (ap (option_and_then (λ t. after t x)) none) ∙ e)

-- on the way back from a position the operation in front of it leads to the standing before it
module _ (line : Track) (sound : IsSoundLine line) (low high : ℕ) (f : ℕ → Standing) (h : Kept) (along : IsAlong line low high f h) (here : ℕ) (s : Shift) (x : Standing)
    (from : low < here) (to : here ≤ h.position) (is : shift_at line (here - 1) ≡ Some s) (found : x ≡ f here) where
  back-there : back_over line h.saved (here - 1) x ≡ Some (f (here - 1))
  back-there =
      let above = along.to in
      let next : here ≡ here - 1 + 1 = omega (arith, from) in
      ap (back_over line h.saved (here - 1)) (found ∙ ap f next)
      ∙ back-over line h.saved (here - 1) (f (here - 1)) (f (here - 1 + 1)) sound (along.fits (here - 1) (omega (arith, from)) (omega (arith, to, above)))
      (along.runs (here - 1) (omega (arith, from)) (omega (arith, from, to, above))) (along.saved (here - 1) (omega (arith, from)) (omega (arith, from, to)))

  pub back-home : home_before s x.home ≢ None
  back-home = home-back line h.saved (here - 1) s (f (here - 1)) x is back-there

  pub back-found : (y : Standing) → before s (h.saved (here - 1)) x ≡ Some y → y ≡ f (here - 1)
  back-found y e = same_Some y (f (here - 1)) (sym e ∙ ap (option_and_then (λ t. before t (h.saved (here - 1)) x)) (sym is) ∙ back-there)
