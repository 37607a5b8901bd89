use Rattle.std.proofs.Common.{◌≢◌, pos}
use Rattle.std.proofs.lemmas.Bool.{iff_false}
use Rattle.fix_num.proofs.Rounded.{quotient_of_nonzero}
use Rattle.fix_num.proofs.number.Fixed.div.Goals as goal

pub returns : goal.returns
returns c =
    let nonzero : c.args.b ≢ pos 0 = iff_false c.is_zero.ensures c.if-is_zero.false in
    let exact = quotient_of_nonzero c.args.self c.args.b nonzero in
    cc
