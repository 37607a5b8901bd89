-- What the arithmetic of moved lines asks.
use Rattle.std.specs.Prelude.{ℕ, ◌+◌, ◌<◌, ◌^◌, ⊤}
use Rattle.shift_core.specs.declared.edit.Edit.{Edit}
use Rattle.shift_core.specs.declared.edit.Edit.TheVariants.{Move}
use Rattle.shift_core.specs.Lines.{IsSoundMove}

-- if the edit is a move, it is a sound one
abbrev pub MovesSoundly : ℕ → Edit → Type 0
MovesSoundly limit (Move start count before) = IsSoundMove limit start count before
MovesSoundly limit _ = ⊤

-- if the edit is a move, the line after the moved ones has a number of 32 bits
abbrev pub EndFits : Edit → Type 0
EndFits (Move start count before) = start + count < 2 ^ 32
EndFits _ = ⊤
