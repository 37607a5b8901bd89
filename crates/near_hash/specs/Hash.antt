-- The hash of what a key writes, under which near numbers have one place. Source: this project's own, over the kit's hash
-- that multiplies and folds.
use Rattle.std.specs.Prelude.{◌≡◌, ℕ, ◌*◌, ◌/◌, ◌%◌, ◌^◌, ◌==◌, None, Some, List, length, if◌then◌else◌, bit_xor, option_map, unwrap_or, fold, Option}
use Rattle.std.specs.Hash as fed
use Rattle.std.specs.Hash.FoldHasher as folding
use Rattle.std.specs.Int.{w64, from_le_bytes}
use Rattle.std.specs.declared.hash.FoldHasher.{FoldHasher}
use Rattle.near_hash.specs.declared.hasher.NearHasher.{NearHasher}

-- the number that eight bytes are, the lowest first
abbrev pub number_in : List ℕ → Option ℕ
number_in bytes = if length bytes == 8 then Some (from_le_bytes w64 bytes) else None

-- what was written, and then a number
abbrev pub with_number : FoldHasher → ℕ → FoldHasher
with_number before number = fold folding.write before (fed.u64 number)

-- the hash of a number after what was written before: that of all eight that are near it, but for three bits
abbrev pub near_hash : FoldHasher → ℕ → ℕ
near_hash before number = bit_xor (folding.finish (with_number before (number / 8))) (number % 8 * 2 ^ 24)

-- all that was written, the last number too
abbrev pub all_of : NearHasher → FoldHasher
all_of h = unwrap_or (option_map (with_number h.before) h.last) h.before

-- the hasher after one write more
abbrev pub with_bytes : NearHasher → List ℕ → NearHasher
with_bytes h bytes = record { before = if length bytes == 8 then all_of h else folding.write (all_of h) bytes; last = number_in bytes }

-- the hash of all that was written
abbrev pub hash_of : NearHasher → ℕ
hash_of h = unwrap_or (option_map (near_hash h.before) h.last) (folding.finish h.before)

-- nothing was written
abbrev pub is_new : NearHasher → Type 0
is_new h = (h.before ≡ folding.initial) × (h.last ≡ None)
