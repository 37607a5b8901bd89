-- What bands and tiers answer of a number. Source: this project's own.
use Rattle.std.specs.Prelude.{if◌then◌else◌, ℤ, unsigned_abs, List, Option, Some, None}
use Rattle.cell_value.specs.declared.fault.FaultKind.TheVariants as faults
use Rattle.cell_value.specs.declared.scalar.Scalar.{Scalar}
use Rattle.cell_value.specs.declared.scalar.Scalar.TheVariants.{Number, Fault}
use Rattle.cell_value.specs.Scalar.{scalar_of}
use Rattle.fix_num.specs.Number.{is_negative, near, signed, within}
use Rattle.fix_num.specs.declared.number.TheConstants.{ONE}
use Rattle.custom_fn.specs.Pairs.{tier_total}

-- the value of a band, or #N/A where there is none
abbrev pub banded : Option ℤ → Scalar
banded None = Fault faults.Na
banded (Some value) = Number value

-- millionths of millionths as a number, rounded half away from zero; #NUM! beyond the limits
abbrev pub rounded : ℤ → Scalar
rounded total = scalar_of (within (signed (is_negative total) (near (unsigned_abs total) ONE)))

-- the sum over all tiers; #NUM! of a negative number
abbrev pub tiered : ℤ → List (ℤ × ℤ) → Scalar
tiered x pairs = if is_negative x then Fault faults.Num else rounded (tier_total (unsigned_abs x) pairs)
