-- Laws of hashes.
use Rattle.std.specs.Prelude.{◌≡◌, ℕ, ◌<◌, ◌+◌, ◌*◌, ◌^◌, bit_xor}
use Rattle.std.specs.Hash as fed
use Rattle.std.specs.List.{fold}
use Rattle.near_hash.specs.Hash.{hash_of, with_bytes}
use Rattle.near_hash.specs.declared.hasher.NearHasher.{NearHasher}

-- whatever was written before, eight numbers from a multiple of eight on share a hash, in which bits 24 to 26 are turned by
-- their places among the eight
abbrev pub NearNumbersShareAPlace : Type 0
NearNumbersShareAPlace = (h : NearHasher) (group : ℕ) → 8 * group + 7 < 2 ^ 64 → (shared : ℕ) × ((place : ℕ) → place < 8 → hash_of (fold with_bytes h (fed.u64 (8 * group + place))) ≡ bit_xor shared (place * 2 ^ 24))
