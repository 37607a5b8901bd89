-- Steps of cutting lines into segments. Serves the segments of a run of lines.
use Rattle.std.proofs.Common.{◌≡◌, ◌∙◌, sym, ap, subst, arith, ℕ, ◌+◌, ◌-◌, ◌*◌, ◌/◌, ◌%◌, ◌^◌, ◌<◌, ◌≤◌, ⊎_elim, List, [], length}
use Rattle.std.proofs.Math.Nat.{pow-le-pow_right, mul-le-mul_right, mul_assoc}
use Rattle.std.proofs.lemmas.Nat.{pow-add}
use Rattle.std.proofs.lemmas.Bool.{cases_lt}
use Rattle.std.proofs.lemmas.Bool.Decides.{nat_tests}
use Rattle.std.specs.declared.ops.Range.{Range}
use Rattle.block_slots.specs.Segments.{segments_with, in_lines, one_if}
use Rattle.block_slots.specs.declared.segment.Segment.{Segment}
use Rattle.block_slots.specs.internal.Cuts.{Takes, AreCut}
use Rattle.block_slots.proofs.Halves.{next_index, in_halves}

-- nothing is cut yet
pub cut_none : (lines : Range ℕ) (found : List Segment) → found ≡ [] → AreCut lines 0 found lines
cut_none lines found none = subst (λ f. AreCut lines 0 f lines) (sym none) (record {
  exact = λ line. let whole : line / 2 ^ 0 ≡ line = omega arith in let same : one_if (in_lines lines (line / 2 ^ 0)) ≡ one_if (in_lines lines line) = ap (λ x. one_if (in_lines lines x)) whole in omega (arith, same);
  few = omega arith;
  left = omega arith;
  low = λ k h. omega arith;
})

-- a level more is cut
pub cut_more : (lines : Range ℕ) (level : ℕ) (found : List Segment) (rest : Range ℕ) (more : List Segment) (later : Range ℕ) (most : List Segment) (inner : Range ℕ)
    → AreCut lines level found rest → rest.start < rest.end → Takes level rest found more later → Takes level later more most inner → inner.start % 2 ≡ 0 → inner.end % 2 ≡ 0
    → AreCut lines (level + 1) most (record { start = inner.start / 2; end = inner.end / 2 })
cut_more lines level found rest more later most inner cut some first last even even_end = record {
  exact = λ line.
      let half = in_halves inner.start inner.end (line / 2 ^ level) even even_end in
      let index = next_index line level in
      let same : one_if (in_lines (record { start = inner.start / 2; end = inner.end / 2 }) (line / 2 ^ (level + 1))) ≡ one_if (in_lines inner (line / 2 ^ level))
      = ap (λ x. one_if (in_lines (record { start = inner.start / 2; end = inner.end / 2 }) x)) index ∙ ap one_if half in
      omega (arith, same, cut.exact line, first.exact line, last.exact line);
  few = omega (arith, cut.few, first.few, last.few);
  left =
      let fewer : (inner.end / 2 - inner.start / 2) * 2 ≤ rest.end - rest.start = omega (arith, first.less, last.less, last.order) in
      let scaled : (inner.end / 2 - inner.start / 2) * 2 * 2 ^ level ≤ (rest.end - rest.start) * 2 ^ level = mul-le-mul_right (2 ^ level) fewer in
      let turned : (inner.end / 2 - inner.start / 2) * 2 ^ (level + 1) ≡ (inner.end / 2 - inner.start / 2) * 2 * 2 ^ level = ap (λ p. (inner.end / 2 - inner.start / 2) * p) (doubled level) ∙ sym (mul_assoc (inner.end / 2 - inner.start / 2) 2 (2 ^ level)) in
      omega (arith, scaled, turned, cut.left);
  low = λ k below. ⊎_elim
      (λ (under : level < k). omega (arith, under))
      (λ (over : k ≤ level).
      let one : 1 * 2 ^ level ≤ (rest.end - rest.start) * 2 ^ level = mul-le-mul_right (2 ^ level) (omega (arith, some)) in
      let grows : 2 ^ k ≤ 2 ^ level = pow-le-pow_right (omega arith) over in
      absurd (omega (arith, one, grows, below, cut.left)))
      (cases_lt level k);
}
  where
    doubled : (n : ℕ) → 2 ^ (n + 1) ≡ 2 * 2 ^ n
    doubled n = let next : 2 ^ (n + 1) ≡ 2 ^ n * 2 = pow-add 2 n 1 in omega (arith, next)

-- where nothing is left, all is cut
pub all_cut : (lines : Range ℕ) (level : ℕ) (found : List Segment) (rest : Range ℕ) → AreCut lines level found rest → rest.end ≤ rest.start → (line : ℕ) → segments_with found line ≡ one_if (in_lines lines line)
all_cut lines level found rest cut none line =
    let out : one_if (in_lines rest (line / 2 ^ level)) ≡ 0 = empty rest.start rest.end (line / 2 ^ level) none in
    omega (arith, out, cut.exact line)
  where
    empty : (start end x : ℕ) → end ≤ start → one_if (in_lines (record { start = start; end = end }) x) ≡ 0
    empty start end x none = grind (arith, nat_tests)

-- there are at most two segments of each level below the one at which the lines end
pub few_cut : (lines : Range ℕ) (level : ℕ) (found : List Segment) (rest : Range ℕ) → AreCut lines level found rest → (k : ℕ) → lines.end - lines.start < 2 ^ k → length found ≤ 2 * k
few_cut lines level found rest cut k below = omega (arith, cut.few, cut.low k below)
