-- The bytes read so far were taken from the source, and there is one more than the limit at most.
use Rattle.std.proofs.Common.{◌≤◌, ◌+◌, ◌-◌, vec_len}
use Rattle.std.specs.Io.KnownBytes.{Consumes}
use Rattle.book_files.proofs.input.read_at_most.Given as goal

abbrev pub invariant-reading : goal.invariant-reading
invariant-reading g l = record {
  taken : Consumes (g.I.Source.left l.fn.input) (g.I.Source.left l.input) l.bytes.items;
  limit : vec_len l.bytes ≤ l.limit + 1;
  later : g.I.Source.faults l.fn.input ≤ g.I.Source.faults l.input;
}

abbrev pub decreases-reading : goal.decreases-reading
decreases-reading g l = l.limit + 1 - vec_len l.bytes
