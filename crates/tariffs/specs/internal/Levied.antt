-- The levy on an amount by the tier that it ends in.
use Rattle.std.specs.Prelude.{ℕ, ◌+◌, ◌-◌, ◌*◌, unsigned_abs, pos}
use Rattle.std.specs.List.{slice_index_or}
use Rattle.fix_num.specs.declared.number.TheConstants.{ONE}
use Rattle.tariffs.specs.declared.tables.TheConstants.{LEVY, LEVIED_BELOW}

-- what the tiers below take, and this one of the rest, in millionths of millionths
abbrev pub total_in : ℕ → ℕ → ℕ
total_in tier amount =
    slice_index_or LEVIED_BELOW tier 0 * ONE
    + unsigned_abs (slice_index_or LEVY tier (pos 0, pos 0)).1 * (amount - unsigned_abs (slice_index_or LEVY tier (pos 0, pos 0)).0)
