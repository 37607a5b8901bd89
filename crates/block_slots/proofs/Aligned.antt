-- The lines of a segment stand between two multiples of its length. Serves the law on segments.
use Rattle.std.proofs.Common.{◌≡◌, arith, ap, ℕ, ◌+◌, ◌*◌, ◌/◌, ◌%◌, ◌^◌, ◌<◌, ◌≤◌, eqb-true, eq-eqb}
use Rattle.std.proofs.Math.Nat.{add-mul}
use Rattle.std.proofs.lemmas.Nat.{pow_pos, div-add-mod', mod_below, le-div, div_below}
use Rattle.block_slots.specs.Laws.{SegmentsAreAligned}

divided : (x i p : ℕ) → 0 < p → x / p ≡ i → (i * p ≤ x) × (x < i * p + p)
divided x i p some is =
    let whole = div-add-mod' x p in
    let rest = mod_below x p some in
    let same : x / p * p ≡ i * p = ap (λ n. n * p) is in
    (omega (arith, whole, same), omega (arith, whole, same, rest))

between : (x i p : ℕ) → 0 < p → i * p ≤ x → x < i * p + p → x / p ≡ i
between x i p some from below =
    let low : i ≤ x / p = le-div i x p some from in
    let next : (i + 1) * p ≡ i * p + 1 * p = add-mul i 1 p in
    let high : x / p < i + 1 = div_below x p (i + 1) some (omega (arith, below, next)) in
    omega (arith, low, high)

pub segments_aligned : SegmentsAreAligned
segments_aligned s line = (
  λ is. divided line s.index (2 ^ s.level) (pow_pos s.level) (eqb-true (line / 2 ^ s.level) s.index is),
  λ ends. eq-eqb (line / 2 ^ s.level) s.index (between line s.index (2 ^ s.level) (pow_pos s.level) ends.0 ends.1),
)
