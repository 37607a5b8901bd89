use Rattle.func_date.proofs.Civil.{serials_begin}
use Rattle.func_date.proofs.laws.serials_begin.Goals as goal

pub returns : goal.returns
returns c = serials_begin
