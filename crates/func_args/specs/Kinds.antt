-- Values of one kind beside each other, as criteria and look-ups compare them. Source: this project's own.
use Rattle.std.specs.Prelude.{if◌then◌else◌, Option, None}
use Rattle.std.specs.Result.{result_ok}
use Rattle.std.specs.declared.cmp.Ordering.{Ordering}
use Rattle.cell_value.specs.declared.scalar.Scalar.{Scalar}
use Rattle.cell_value.specs.Scalar.{order_of, same_kind}

-- how the first value compares with the second, where both are of one kind and no faults
abbrev pub order_in_kind : Scalar → Scalar → Option Ordering
order_in_kind x y = if same_kind x y then result_ok (order_of x y) else None
