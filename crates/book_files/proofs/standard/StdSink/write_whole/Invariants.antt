-- The bytes up to the place `at` have been written.
use Rattle.std.proofs.Common.{◌≡◌, ◌≤◌, ◌-◌, length, take}
use Rattle.std.specs.Io.KnownBytes.{Appends}
use Rattle.book_files.proofs.standard.StdSink.write_whole.Given as goal

abbrev pub invariant-writing : goal.invariant-writing
invariant-writing g l = record {
  within : l.at ≤ length l.bytes;
  written : Appends (g.W.Write.contents l.fn.self.stream) (g.W.Write.contents l.self-inside.writer) (take l.at l.bytes);
  faults : l.self-inside.faults ≡ l.fn.self.faults;
}

abbrev pub decreases-writing : goal.decreases-writing
decreases-writing g l = length l.bytes - l.at
