-- Near numbers in the hash of what is written. Serves the laws.
use Rattle.std.proofs.Common.{◌≡◌, ◌∙◌, ap, arith, ℕ, ◌+◌, ◌*◌, ◌/◌, ◌%◌, ◌<◌, ◌^◌, bit_xor}
use Rattle.std.specs.Hash.FoldHasher as folding
use Rattle.std.specs.Hash.{le_bytes}
use Rattle.std.proofs.lemmas.Nat.{from_le_bytes-to_le_bytes_8}
use Rattle.near_hash.specs.Hash.{all_of, hash_of, near_hash, with_bytes, with_number}
use Rattle.near_hash.specs.declared.hasher.NearHasher.{NearHasher}

-- what near numbers have in common after what was written
pub shared_hash : NearHasher → ℕ → ℕ
shared_hash h group = folding.finish (with_number (all_of h) group)

-- a number among those near it has their hash, turned by its place among them
pub near_hashes : (h : NearHasher) (group place : ℕ) → 8 * group + 7 < 2 ^ 64 → place < 8 → hash_of (with_bytes h (le_bytes 8 (8 * group + place))) ≡ bit_xor (shared_hash h group) (place * 2 ^ 24)
unfolding le_bytes shared_hash
near_hashes h group place fits low =
    let n = 8 * group + place in
    let back = from_le_bytes-to_le_bytes_8 n (omega (arith, fits, low)) in
    let high : n / 8 ≡ group = omega (arith, low) in
    let rest : n % 8 ≡ place = omega (arith, low) in
    ap (near_hash (all_of h)) back ∙ (ap (λ g. bit_xor (folding.finish (with_number (all_of h) g)) (n % 8 * 2 ^ 24)) high ∙ ap (λ p. bit_xor (folding.finish (with_number (all_of h) group)) (p * 2 ^ 24)) rest)
