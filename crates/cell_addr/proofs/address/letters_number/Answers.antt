use Rattle.std.proofs.Common.{arith}
use Rattle.cell_addr.proofs.Columns.{letters_number_more}
use Rattle.cell_addr.proofs.address.letters_number.Goals as goal

pub letters-preserved : goal.letters-preserved
letters-preserved c =
    let more = letters_number_more c.args.text.now c.letters.c-index (omega arith) in
    let i = c.letters.invariant in
    let s = c.letter_number.ensures in
    record {
      spelled = omega (arith, more, i.spelled, s.number);
      none = omega arith;
      one = omega (arith, i.none, s.small);
      two = omega (arith, i.one, s.small);
    }
