use Rattle.std.proofs.Common.{◌≡◌, drop}
use Rattle.std.specs.VecDeque.{deque_capacity}
use Rattle.shift_line.proofs.line.drop_front.Given as goal

-- so many operations are gone
abbrev pub invariant-dropped : goal.invariant-dropped
invariant-dropped l = record {
  shifts : l.shifts.items ≡ drop l.counter l.initial.shifts.items;
  capacity : deque_capacity l.shifts ≡ deque_capacity l.initial.shifts;
}
