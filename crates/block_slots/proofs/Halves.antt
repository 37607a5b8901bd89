-- Numbers halved: indexes at the next level, and what a range loses at its ends. Serves the segments.
use Rattle.std.proofs.Common.{◌≡◌, ◌∙◌, sym, ap₂, arith, ℕ, ◌+◌, ◌-◌, ◌*◌, ◌/◌, ◌%◌, ◌^◌, ◌<◌, ◌≤◌, ◌⊎◌, ⊎_elim, ◌&&◌}
use Rattle.std.specs.Prelude.{nat_le, nat_lt}
use Rattle.std.proofs.Math.Nat.{pow-le-pow_right}
use Rattle.std.proofs.lemmas.Nat.{pow_pos, div_below, shr-shr}
use Rattle.std.proofs.lemmas.Bool.{cases_lt, le-leb, lt-leb, lt-ltb, le-ltb}

-- a shift past the width of a number leaves nothing
pub shr_past : (line level : ℕ) → line < 2 ^ 64 → 64 ≤ level → line / 2 ^ level ≡ 0
shr_past line level fits past =
    let grows : 2 ^ 64 ≤ 2 ^ level = pow-le-pow_right (omega arith) past in
    let below : line / 2 ^ level < 1 = div_below line (2 ^ level) 1 (pow_pos level) (omega (arith, fits, grows)) in
    omega (arith, below)

-- an index at the next level
pub next_index : (line level : ℕ) → line / 2 ^ (level + 1) ≡ line / 2 ^ level / 2
next_index line level = sym (shr-shr line level 1)

-- halves compare as the numbers do, where the end is even
le_half : (start x : ℕ) → start % 2 ≡ 0 → nat_le (start / 2) (x / 2) ≡ nat_le start x
le_half start x even = ⊎_elim
    (λ (below : x < start). lt-leb (start / 2) (x / 2) (omega (arith, below, even)) ∙ sym (lt-leb start x below))
    (λ (from : start ≤ x). le-leb (start / 2) (x / 2) (omega (arith, from, even)) ∙ sym (le-leb start x from))
    (cases_lt x start)

lt_half : (x end : ℕ) → end % 2 ≡ 0 → nat_lt (x / 2) (end / 2) ≡ nat_lt x end
lt_half x end even = ⊎_elim
    (λ (below : x < end). lt-ltb (x / 2) (end / 2) (omega (arith, below, even)) ∙ sym (lt-ltb x end below))
    (λ (from : end ≤ x). le-ltb (x / 2) (end / 2) (omega (arith, from, even)) ∙ sym (le-ltb x end from))
    (cases_lt x end)

pub in_halves : (start end x : ℕ) → start % 2 ≡ 0 → end % 2 ≡ 0 → (nat_le (start / 2) (x / 2) && nat_lt (x / 2) (end / 2)) ≡ (nat_le start x && nat_lt x end)
in_halves start end x even even_end = ap₂ (λ a b. a && b) (le_half start x even) (lt_half x end even_end)
