-- How many records a text has. It serves the counts of rows.
use Rattle.std.proofs.Common.{◌≤◌, arith, ℕ, zero, suc, ◌+◌, Bool, true, false, cond, List, [], ◌∷◌, length, Option, Some, None}
use Rattle.csv.specs.declared.parser.State.{State}
use Rattle.csv.specs.declared.parser.State.TheVariants as st
use Rattle.csv.specs.Machine.{Read, next_record}
use Rattle.csv.specs.Reading.{records, records_from, records_next, default_config, strip_bom, is_bom}

long_next : (n : ℕ) (next : Option Read) → ((p : Read) → length (records_from default_config n p.1 p.2) ≤ n) → length (records_next (records_from default_config n) next) ≤ suc n
long_next n None h = omega arith
long_next n (Some p) h = let l = h p in omega arith

long_from : (n : ℕ) (s : State) (xs : List ℕ) → length (records_from default_config n s xs) ≤ n
unfolding records_from
long_from zero s xs = omega arith
long_from (suc n) s xs = long_next n (next_record default_config s [] [] xs) (λ p. long_from n p.1 p.2)

bom-shorter : (b : Bool) (a c d : ℕ) (rest : List ℕ) → length (cond b rest (a ∷ c ∷ d ∷ rest)) ≤ length (a ∷ c ∷ d ∷ rest)
bom-shorter true a c d rest = omega arith
bom-shorter false a c d rest = omega arith

no_longer : (bytes : List ℕ) → length (strip_bom bytes) ≤ length bytes
unfolding strip_bom
no_longer [] = omega arith
no_longer (a ∷ []) = omega arith
no_longer (a ∷ c ∷ []) = omega arith
no_longer (a ∷ c ∷ d ∷ rest) = bom-shorter (is_bom a c d) a c d rest

-- a text has no more records than bytes, and one
pub few_records : (bytes : List ℕ) → length (records default_config (strip_bom bytes)) ≤ length bytes + 1
few_records bytes = let l = long_from (length (strip_bom bytes) + 1) st.StartRecord (strip_bom bytes) in omega (arith, no_longer bytes)
