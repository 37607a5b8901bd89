-- Operations that lead from a position on, as they lie in the line. Serves the slices of a line.
use Rattle.std.proofs.Common.{◌≡◌, ◌∙◌, sym, ap, subst, arith, ℕ, zero, suc, ◌+◌, ◌-◌, ◌<◌, ◌≤◌, if◌then◌else◌, List, ◌∷◌, ◌++◌, length, get_or, length-append, take, drop, Some, None}
use Rattle.std.proofs.lemmas.Bool.{le-leb}
use Rattle.std.proofs.lemmas.List.{drop-append-le, length-drop, length-take-le, take-append-le}
use Rattle.std.proofs.lemmas.Option.{slice_get-get_or}
use Rattle.std.proofs.Math.Seq.{drop-append-add, drop-cons}
use Rattle.std.specs.List.{slice_get}
use Rattle.shift_core.specs.declared.shift.Shift.{Shift}
use Rattle.shift_core.specs.declared.shift.Shift.TheVariants.{DropSheet}
use Rattle.shift_line.specs.Track.{IsRun, Track, shift_at}

-- the operation at a position of the line, by its index
at-index : (t : Track) (i : ℕ) → i < length t.shifts → shift_at t (t.first + i) ≡ Some (get_or t.shifts i (DropSheet 0))
at-index t i within =
    ap (λ b. if b then slice_get t.shifts (t.first + i - t.first) else None) (le-leb t.first (t.first + i) (omega arith))
    ∙ ap (slice_get t.shifts) (let e : t.first + i - t.first ≡ i = omega arith in e)
    ∙ slice_get-get_or t.shifts i (DropSheet 0) within

-- so many of those from an index on lead from its position on
pub run-at : (t : Track) (n i : ℕ) → i + n ≤ length t.shifts → IsRun t (t.first + i) (take n (drop i t.shifts))
run-at t zero i within = tt
run-at t (suc n) i within =
    let split : get_or t.shifts i (DropSheet 0) ∷ drop (suc i) t.shifts ≡ drop i t.shifts = sym (drop-cons t.shifts i (DropSheet 0) (omega (arith, within))) in
    let place : t.first + suc i ≡ t.first + i + 1 = omega arith in
    subst (λ r. IsRun t (t.first + i) (take (suc n) r)) split
    (at-index t i (omega (arith, within)), subst (λ k. IsRun t k (take n (drop (suc i) t.shifts))) place (run-at t n (suc i) (omega (arith, within))))

module _ (t : Track) (front back : List Shift) (all : front ++ back ≡ t.shifts) (from start end : ℕ) (there : t.first + start ≡ from) (order : start ≤ end) where
  -- those of the first of two slices
  pub run-front : end ≤ length front → end ≤ length t.shifts → IsRun t from (take (end - start) (drop start front))
  run-front within fits =
      let same : take (end - start) (drop start t.shifts) ≡ take (end - start) (drop start front) =
      ap (λ r. take (end - start) (drop start r)) (sym all) ∙ ap (take (end - start)) (drop-append-le start front back (omega (arith, order, within)))
      ∙ take-append-le (end - start) (drop start front) back (omega (arith, order, within, length-drop start front)) in
      subst (λ r. IsRun t from r) same (subst (λ k. IsRun t k (take (end - start) (drop start t.shifts))) there (run-at t (end - start) start (omega (arith, order, fits))))

  -- and of the second one
  pub run-back : length front ≤ start → end ≤ length t.shifts → IsRun t from (take (end - length front - (start - length front)) (drop (start - length front) back))
  run-back past fits =
      let count : end - length front - (start - length front) ≡ end - start = omega (arith, past, order) in
      let index : start ≡ length front + (start - length front) = omega (arith, past) in
      let same : take (end - start) (drop start t.shifts) ≡ take (end - length front - (start - length front)) (drop (start - length front) back) =
      ap (λ r. take (end - start) (drop start r)) (sym all) ∙ ap (λ k. take (end - start) (drop k (front ++ back))) index ∙ ap (take (end - start)) (drop-append-add front back (start - length front))
      ∙ ap (λ n. take n (drop (start - length front) back)) (sym count) in
      subst (λ r. IsRun t from r) same (subst (λ k. IsRun t k (take (end - start) (drop start t.shifts))) there (run-at t (end - start) start (omega (arith, order, fits))))

  -- they end at the position in front of which the last of them leads
  pub run-front-to : (to : ℕ) → t.first + end ≡ to → end ≤ length front → end ≤ length t.shifts → IsRun t (to - length (take (end - start) (drop start front))) (take (end - start) (drop start front))
  run-front-to to is within fits =
      let count : length (take (end - start) (drop start front)) ≡ end - start = length-take-le (end - start) (drop start front) (omega (arith, order, within, length-drop start front)) in
      let place : from ≡ to - length (take (end - start) (drop start front)) = omega (arith, count, is, there, order) in
      subst (λ k. IsRun t k (take (end - start) (drop start front))) place (run-front within fits)

  pub run-back-to : (to : ℕ) → t.first + end ≡ to → length front ≤ start → end ≤ length t.shifts
      → IsRun t (to - length (take (end - length front - (start - length front)) (drop (start - length front) back))) (take (end - length front - (start - length front)) (drop (start - length front) back))
  run-back-to to is past fits =
      let all_of : length front + length back ≡ length t.shifts = sym (length-append front back) ∙ ap length all in
      let some = drop (start - length front) back in
      let n = end - length front - (start - length front) in
      let count : length (take n some) ≡ n = length-take-le n some (omega (arith, order, past, fits, all_of, length-drop (start - length front) back)) in
      let place : from ≡ to - length (take n some) = omega (arith, count, is, there, order, past) in
      subst (λ k. IsRun t k (take n some)) place (run-back past fits)
