use Rattle.near_hash.proofs.Hashes.{near_hashes, shared_hash}
use Rattle.near_hash.proofs.laws.near_numbers_share_a_place.Goals as goal

-- src/laws.rt:6:1
pub returns : goal.returns
returns c h group fits = (shared_hash h group, λ place low. near_hashes h group place fits low)
