use Rattle.std.proofs.Common.{sym, ◌==◌}
use Rattle.digits.proofs.Parts.{after_first-Some, after_first-None}
use Rattle.digits.proofs.after_byte.Goals as goal

pub returns-in-Some : goal.returns-in-Some
returns-in-Some c = after_first-Some (λ b. b == c.args.byte) c.args.text.now c.in-Some.at (sym c.in-Some.ensures)

pub returns-in-None : goal.returns-in-None
returns-in-None c = after_first-None (λ b. b == c.args.byte) c.args.text.now (sym c.in-None.ensures)
