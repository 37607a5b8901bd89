-- The laws, for the proofs of callers.
use Rattle.std.proofs.Common.{◌≡◌, ◌≢◌, ◌∙◌, sym, ap, refl, subst, arith, ℕ, ◌+◌, ◌-◌, ◌<◌, ◌≤◌, ◌⊎◌, inl, inr, Option, Some, None, MatchOption, option_and_then}
use Rattle.std.proofs.lemmas.Bool.{cases_lt}
use Rattle.std.proofs.lemmas.Option.{none-some, same_Some, slice_get_past}
use Rattle.formula_tree.specs.Term.{Term}
use Rattle.formula_tree.specs.declared.reference.Ref.{Ref}
use Rattle.shift_core.specs.declared.shift.Shift.{Shift}
use Rattle.shift_line.specs.Track.{Track, last, shift_at}
use Rattle.tree_rewrite.specs.Rewritten.{Loses}
use Rattle.lazy_store.specs.Kept.{IsCoherent, IsSoundLine, Kept, at, history, lowest, over}
use Rattle.lazy_store.specs.Laws.{HistoriesAreStandings, SavedWhereLost, StandingsFollow}
use Rattle.lazy_store.specs.Standing.{IsSavedOver, Standing, after}
use Rattle.lazy_store.proofs.Histories.{at-is, at-low, at-next}
use Rattle.lazy_store.proofs.Lines.{shift-from}

-- behind the last operation there is none
shift-past : (line : Track) (k : ℕ) → last line ≤ k → shift_at line k ≡ None
shift-past line k past = shift-from line k (omega (arith, past)) ∙ slice_get_past line.shifts (k - line.first) (omega (arith, past))

nowhere : (o : Option Standing) → option_and_then (λ x. option_and_then (λ (t : Shift). after t x) None) o ≡ None
nowhere None = refl
nowhere (Some x) = refl

pub standings-follow : StandingsFollow
standings-follow = record {
  next = λ line h k sound coherent from. next line h k sound coherent from (cases_lt k h.position);
  before = λ line h k sound coherent under. at-low line sound (lowest line h) h.position (history line h) h coherent.along refl k under;
  beyond = λ line h k coherent past.
      let within = coherent.within in
      let step : k ≡ k - 1 + 1 = omega (arith, past) in
      ap (at line h) step ∙ at-next line h (k - 1) (omega (arith, past, within)) ∙ ap (λ o. option_and_then (λ x. option_and_then (λ t. after t x) o) (at line h (k - 1))) (shift-past line (k - 1) (omega (arith, past))) ∙ nowhere (at line h (k - 1));
}
  where
    next : (line : Track) (h : Kept) (k : ℕ) → IsSoundLine line → IsCoherent line h → lowest line h ≤ k → (k < h.position) ⊎ (h.position ≤ k) → at line h (k + 1) ≡ option_and_then (over line k) (at line h k)
    next line h k sound coherent from (inl down) =
        at-is line sound (lowest line h) h.position (history line h) h coherent.along refl (k + 1) (omega (arith, from)) (omega (arith, down)) ∙ sym (coherent.along.runs k from down)
        ∙ ap (option_and_then (over line k)) (sym (at-is line sound (lowest line h) h.position (history line h) h coherent.along refl k from (omega (arith, down))))
    next line h k sound coherent from (inr up) = at-next line h k up

pub histories-are-standings : HistoriesAreStandings
histories-are-standings line high f h k sound along from to = at-is line sound (lowest line h) high f h along refl k from to

pub saved-where-lost : SavedWhereLost
saved-where-lost line h k s x sound coherent is there = by (cases_lt k h.position) (cases_lt k (lowest line h))
  where
    by : (k < h.position) ⊎ (h.position ≤ k) → (k < lowest line h) ⊎ (lowest line h ≤ k) → (h.saved k ≢ None → (k < h.position) × Loses s x.tree) × ((k < h.position) × Loses s x.tree → h.saved k ≢ None)
    by (inr up) any = (λ some. absurd (some (coherent.along.above k up)), λ lost. let down = lost.0 in absurd (omega (arith, up, down)))
    by (inl down) (inl under) = absurd (none-some x (sym (at-low line sound (lowest line h) h.position (history line h) h coherent.along refl k under) ∙ there))
    by (inl down) (inr from) = (λ some. (down, only (h.saved k) here some), λ lost. wanted (h.saved k) here lost.1)
      where
        same : history line h k ≡ x
        same = same_Some (history line h k) x (sym (at-is line sound (lowest line h) h.position (history line h) h coherent.along refl k from (omega (arith, down))) ∙ there)

        here : IsSavedOver s x (h.saved k)
        here = subst (λ y. IsSavedOver s y (h.saved k)) same (subst (λ o. MatchOption o ⊥ (λ t. IsSavedOver t (history line h k) (h.saved k))) is (coherent.along.saved k from down))

        only : (saved : Option (Term Ref)) → IsSavedOver s x saved → saved ≢ None → Loses s x.tree
        only None back some = absurd (some refl)
        only (Some t) lost some = lost.0

        wanted : (saved : Option (Term Ref)) → IsSavedOver s x saved → Loses s x.tree → saved ≢ None
        wanted None back lost e = lost back
        wanted (Some t) lost any e = none-some t (sym e)
