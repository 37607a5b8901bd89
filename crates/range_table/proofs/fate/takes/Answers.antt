use Rattle.std.proofs.Common.{sym, subst}
use Rattle.shift_core.specs.Form.{form_of}
use Rattle.shift_core.specs.declared.shift.Shift.{Shift}
use Rattle.touch_index.specs.Touched.{TakesBlock}
use Rattle.range_table.proofs.Moving.{contains-all, covered_in}
use Rattle.range_table.proofs.fate.takes.Goals as goal

pub returns-in-MoveBlock : goal.returns-in-MoveBlock
returns-in-MoveBlock c = (
  λ h. subst (λ (s : Shift). TakesBlock (form_of s) c.args.b) (sym c.in-MoveBlock.is) (contains-all c.in-MoveBlock.source c.args.b c.requires (c.contains.ensures.0 h)),
  λ taken. c.contains.ensures.1 (λ p covered. covered_in c.in-MoveBlock.source c.args.b p (subst (λ (s : Shift). TakesBlock (form_of s) c.args.b) c.in-MoveBlock.is taken) covered),
)
