-- A structural operation together with the one that takes it back.
use Rattle.std.specs.Prelude.{Option, Some, None}
use Rattle.shift_core.specs.Opposite.{opposite_of}
use Rattle.shift_core.specs.declared.shift.Shift.{Shift}

-- an operation and what takes it back; none, where nothing does
abbrev pub paired : Shift → Option Shift → Option (Shift × Shift)
paired s None = None
paired s (Some back) = Some (s, back)

-- and where there may be no operation
abbrev pub with_opposite_of : Option Shift → Option (Shift × Shift)
with_opposite_of None = None
with_opposite_of (Some s) = paired s (opposite_of s)
