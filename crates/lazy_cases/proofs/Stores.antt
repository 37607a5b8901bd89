-- Stores in which formulas were dropped one after the other.
use Rattle.std.proofs.Common.{◌≡◌, ◌≢◌, ◌∙◌, sym, ap, subst, arith, ℕ, ◌+◌, ◌<◌, ◌≤◌, ◌⊎◌, inl, inr, true, Some, None, option_map}
use Rattle.std.proofs.lemmas.Bool.{cases_eq, cases_lt}
use Rattle.std.proofs.lemmas.Option.{none-some}
use Rattle.shift_line.specs.Track.{Track}
use Rattle.lazy_cases.specs.Ways.{AreFew, ComesBack, GoesOn}
use Rattle.lazy_cases.specs.declared.guarded.TheConstants.{IDS}
use Rattle.lazy_store.specs.Kept.{Kept, at}
use Rattle.lazy_store.specs.Store.{CanComeBack, CanGoOn, KeepsOthers, kept_in}
use Rattle.lazy_store.specs.declared.lazy.Lazy.{Lazy}

-- a formula under a small id changed, came or left
pub others-few : (id : ℕ) (old new : Lazy) → KeepsOthers id old new → id < IDS → AreFew old → AreFew new
others-few id old new others under few other from =
    let apart : other ≢ id = λ e. omega (arith, e, under, from) in
    ap (option_map (λ h. h.live)) (others other apart) ∙ few other from

-- what holds of the ids gone by holds of one more
module _ (id : ℕ) (old new : Lazy) (others : KeepsOthers id old new) (line : new.line ≡ old.line) where
  pub come-more : ((k : ℕ) → k < id → ComesBack old k) → ComesBack new id → (k : ℕ) → k < id + 1 → ComesBack new k
  come-more before here k under = by (cases_eq k id)
    where
      by : (k ≡ id) ⊎ (k ≡ id → ⊥) → ComesBack new k
      by (inl e) = subst (ComesBack new) (sym e) here
      by (inr ne) = λ h is. subst (λ (l : Track). l.cursor < h.position → (h.live ≡ true) × (at l h l.cursor ≢ None)) (sym line) (before k (omega (arith, under, ne)) h (sym (others k ne) ∙ is))

  pub go-more : (to : ℕ) → ((k : ℕ) → k < id → GoesOn to old k) → GoesOn to new id → (k : ℕ) → k < id + 1 → GoesOn to new k
  go-more to before here k under = by (cases_eq k id)
    where
      by : (k ≡ id) ⊎ (k ≡ id → ⊥) → GoesOn to new k
      by (inl e) = subst (GoesOn to new) (sym e) here
      by (inr ne) = λ h is. subst (λ (l : Track). h.position < to → at l h to ≢ None) (sym line) (before k (omega (arith, under, ne)) h (sym (others k ne) ∙ is))

-- what holds of all small ids holds of every formula
module _ (n : ℕ) (store : Lazy) (whole : IDS ≤ n) (few : AreFew store) where
  pub all-come : (line : Track) → store.line ≡ line → ((k : ℕ) → k < n → ComesBack store k) → CanComeBack line.cursor store
  all-come line same each id h is = by (cases_lt id IDS)
    where
      by : (id < IDS) ⊎ (IDS ≤ id) → line.cursor < h.position → (h.live ≡ true) × (at store.line h line.cursor ≢ None)
      by (inl under) = subst (λ (l : Track). l.cursor < h.position → (h.live ≡ true) × (at store.line h l.cursor ≢ None)) same (each id (omega (arith, under, whole)) h is)
      by (inr from) = absurd (none-some h.live (sym (few id from) ∙ ap (option_map (λ k. k.live)) is))

  pub all-go : (to : ℕ) → ((k : ℕ) → k < n → GoesOn to store k) → CanGoOn to store
  all-go to each id h is = by (cases_lt id IDS)
    where
      by : (id < IDS) ⊎ (IDS ≤ id) → h.position < to → at store.line h to ≢ None
      by (inl under) = each id (omega (arith, under, whole)) h is
      by (inr from) = absurd (none-some h.live (sym (few id from) ∙ ap (option_map (λ k. k.live)) is))
