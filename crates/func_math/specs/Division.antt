-- MOD and QUOTIENT. Source: OpenFormula.
use Rattle.std.specs.Prelude.{suc, ◌==◌, if◌then◌else◌, ℤ, pos, negsuc, neg_ℤ, ◌-ℤ◌, ◌*ℤ◌, unsigned_abs, Result, Err, int_div}
use Rattle.std.specs.Int.{int_div_euclid}
use Rattle.fix_num.specs.declared.number.TheConstants.{ONE}
use Rattle.cell_value.specs.declared.fault.FaultKind.{FaultKind}
use Rattle.cell_value.specs.declared.fault.FaultKind.TheVariants.{Div0}
use Rattle.func_args.specs.Answers.{gives}

-- the greatest whole number that isn't above the exact quotient
abbrev pub floor_quotient : ℤ → ℤ → ℤ
floor_quotient a (pos b) = int_div_euclid a (pos b)
floor_quotient a (negsuc b) = int_div_euclid (neg_ℤ a) (pos (suc b))

-- MOD: what the divisor times the quotient rounded down leaves of the dividend
abbrev pub modulo : ℤ → ℤ → Result ℤ FaultKind
modulo a b = if unsigned_abs b == 0 then Err Div0 else gives (a -ℤ (b *ℤ floor_quotient a b))

-- QUOTIENT: the exact quotient cut toward zero
abbrev pub cut_quotient : ℤ → ℤ → Result ℤ FaultKind
cut_quotient a b = if unsigned_abs b == 0 then Err Div0 else gives (int_div a b *ℤ pos ONE)
