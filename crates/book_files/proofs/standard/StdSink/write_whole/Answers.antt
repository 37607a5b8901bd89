-- A write goes on where the one before it stopped.
use Rattle.std.proofs.Common.{◌≡◌, ◌≤◌, ◌-◌, length, take, drop, arith}
use Rattle.std.proofs.lemmas.List.{length-drop}
use Rattle.std.proofs.lemmas.Slice.{between_to_end}
use Rattle.book_files.proofs.StreamFacts.{appends-take}
use Rattle.book_files.proofs.standard.StdSink.write_whole.Goals as goal

pub writing-preserved : goal.writing-preserved
writing-preserved g c =
    let bytes = c.args.bytes.now in
    let at = c.writing.at in
    let n = c.in-Ok.count in
    let rest : take (length bytes - at) (drop at bytes) ≡ drop at bytes = between_to_end bytes at (length bytes) (omega arith) in
    let bound : n ≤ length (drop at bytes) = rw rest at c.in-Ok.ensures.bound in
    record {
      within = omega (arith, length-drop at bytes);
      written = appends-take _ _ _ at n bytes c.writing.invariant.written (rw rest at c.in-Ok.ensures.bytes);
      faults = c.writing.invariant.faults;
    }
