use Rattle.std.proofs.Common.{take}
use Rattle.sheet_shifts.specs.Listed.{AreListed}
use Rattle.sheet_shifts.proofs.shifts.SheetShifts.of.Given as goal

-- the operations gone by are listed
abbrev pub invariant-operations : goal.invariant-operations
invariant-operations l = AreListed (take l.index l.run.items) l.lists
