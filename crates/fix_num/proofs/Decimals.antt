-- The decimals of a number as they are printed, digit by digit. Serves `text`, and the laws of texts.
use Rattle.std.proofs.Common.{◌≡◌, ◌∙◌, sym, ap, arith, refl, ℕ, zero, suc, ◌+◌, ◌-◌, ◌*◌, ◌/◌, ◌%◌, ◌^◌, ◌<◌, ◌≢◌, List, [], ◌∷◌, ◌++◌}
use Rattle.std.proofs.Math.Nat.{pow-suc, one-le-pow}
use Rattle.std.proofs.lemmas.List.{append-nil, append_assoc}
use Rattle.std.proofs.lemmas.Nat.{div_below, mod_below}
use Rattle.std.proofs.lemmas.Bool.{ne_eqb}
use Rattle.fix_num.specs.Text.{decimals_of}

pub decimals_of-zero : (k : ℕ) → decimals_of k 0 ≡ []
unfolding decimals_of
decimals_of-zero zero = refl
decimals_of-zero (suc k) = refl

pub decimals_of-no_place : (rest : ℕ) → decimals_of 0 rest ≡ []
unfolding decimals_of
decimals_of-no_place rest = refl

pub decimals_of-suc : (k rest : ℕ) → 0 < rest → decimals_of (suc k) rest ≡ (48 + rest / 10 ^ k) ∷ decimals_of k (rest % 10 ^ k)
unfolding decimals_of
decimals_of-suc k rest h = let some : rest ≢ 0 = omega arith in rw (ne_eqb rest 0 some) refl

pub ten_above : (k : ℕ) → 0 < 10 ^ k
ten_above k = one-le-pow k 10 (omega arith)

-- the next place, and what is left after it
place_left : (p k : ℕ) → p < 6 → k ≡ 5 - p → 6 - p ≡ suc k
place_left p k h e = omega arith

place_next : (p : ℕ) → p < 6 → 6 - (p + 1) ≡ 5 - p
place_next p h = omega arith

pub digit_below : (p rest : ℕ) → p < 6 → rest < 10 ^ (6 - p) → rest / 10 ^ (5 - p) < 10
digit_below p rest h r =
    let e : 10 ^ (6 - p) ≡ 10 * 10 ^ (5 - p) = ap (λ n. 10 ^ n) (place_left p (5 - p) h refl) ∙ pow-suc 10 (5 - p) ∙ omega arith in
    div_below rest (10 ^ (5 - p)) 10 (ten_above (5 - p)) (omega (arith, e, r))

pub rest_below : (p rest : ℕ) → p < 6 → rest % 10 ^ (5 - p) < 10 ^ (6 - (p + 1))
rest_below p rest h = rw (place_next p h) (mod_below rest (10 ^ (5 - p)) (ten_above (5 - p)))

-- one more digit is written, and the rest is still to be written
pub written_more : (text now all : List ℕ) (p rest : ℕ) → p < 6 → 0 < rest → text ++ decimals_of (6 - p) rest ≡ all
    → now ≡ text ++ (48 + rest / 10 ^ (5 - p)) ∷ [] → now ++ decimals_of (6 - (p + 1)) (rest % 10 ^ (5 - p)) ≡ all
written_more text now all p rest h r e n =
    rw (n, append_assoc text ((48 + rest / 10 ^ (5 - p)) ∷ []) (decimals_of (6 - (p + 1)) (rest % 10 ^ (5 - p))), place_next p h)
    (ap (λ ds. text ++ ds) (sym (decimals_of-suc (5 - p) rest r) ∙ ap (λ k. decimals_of k rest) (sym (place_left p (5 - p) h refl))) ∙ e)

pub written_all : (text all : List ℕ) (k rest : ℕ) → rest ≡ 0 → text ++ decimals_of k rest ≡ all → text ≡ all
written_all text all k rest z e = sym (append-nil text) ∙ ap (λ ds. text ++ ds) (sym (ap (decimals_of k) z ∙ decimals_of-zero k)) ∙ e

pub written_to_end : (text all : List ℕ) (k rest : ℕ) → k ≡ 0 → text ++ decimals_of k rest ≡ all → text ≡ all
written_to_end text all k rest z e = sym (append-nil text) ∙ ap (λ ds. text ++ ds) (sym (ap (λ n. decimals_of n rest) z ∙ decimals_of-no_place rest)) ∙ e
