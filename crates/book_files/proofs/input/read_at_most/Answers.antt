-- Where memory runs out, the bytes of the last read are taken too.
use Rattle.std.proofs.Common.{◌++◌, take, arith, length-append}
use Rattle.std.proofs.lemmas.List.{length-take}
use Rattle.book_files.proofs.StreamFacts.{consumes-more}
use Rattle.book_files.proofs.input.read_at_most.Goals as goal

pub returns-in_err-extend_from_slice-clause-at_most : goal.returns-in_err-extend_from_slice-clause-at_most
returns-in_err-extend_from_slice-clause-at_most g c =
    let bytes = c.reading.bytes.items in
    let piece = take c.in_ok-count.count c.read.new.buf in
    let bound = simp length-take at c.in_ok-count.ensures.bound in (
      bytes ++ piece,
      consumes-more _ _ _ bytes piece c.reading.invariant.taken c.in_ok-count.ensures.taken,
      simp (length-append, length-take) (omega (arith, bound)),
    )
