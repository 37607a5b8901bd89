-- Absolute values, signs, floors and rounding to decimal places. Source: OpenFormula; the range of
-- numbers is this project's own.
use Rattle.std.specs.Prelude.{◌*◌, ◌/◌, ◌%◌, ◌==◌, Bool, ℤ, pos, ◌*ℤ◌, unsigned_abs, Result}
use Rattle.std.specs.Int.{div_ceil, int_signum}
use Rattle.fix_num.specs.Number.{is_negative, signed, unit, rounded_to}
use Rattle.fix_num.specs.declared.number.TheConstants.{ONE}
use Rattle.cell_value.specs.declared.fault.FaultKind.{FaultKind}
use Rattle.func_args.specs.Answers.{gives}

-- ABS: the absolute value
abbrev pub absolute : ℤ → Result ℤ FaultKind
absolute number = gives (pos (unsigned_abs number))

-- SIGN: -1, 0 or 1
abbrev pub sign_of : ℤ → Result ℤ FaultKind
sign_of number = gives (int_signum number *ℤ pos ONE)

-- ROUND: to the nearest multiple of 10^(-places), a half away from zero
abbrev pub round_to : ℤ → ℤ → Result ℤ FaultKind
round_to number places = gives (rounded_to number places)

-- ROUNDUP: away from zero to a multiple of 10^(-places)
abbrev pub raised_to : ℤ → ℤ → Result ℤ FaultKind
raised_to number places = gives (signed (is_negative number) (div_ceil (unsigned_abs number) (unit places) * unit places))

-- ROUNDDOWN and TRUNC: toward zero to a multiple of 10^(-places)
abbrev pub cut_to : ℤ → ℤ → Result ℤ FaultKind
cut_to number places = gives (signed (is_negative number) (unsigned_abs number / unit places * unit places))

-- a whole number is even
abbrev pub is_even : ℤ → Bool
is_even whole = unsigned_abs whole % 2 == 0
