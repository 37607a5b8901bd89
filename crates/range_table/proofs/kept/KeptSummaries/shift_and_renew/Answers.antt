use Rattle.std.proofs.Common.{subst, sym}
use Rattle.cell_value.specs.declared.summary.Summary.{Summary}
use Rattle.range_table.specs.Blocks.{BlockMap}
use Rattle.range_table.specs.Shifted.{AreMoved}
use Rattle.range_table.specs.Table.{AreFolds}
use Rattle.range_table.specs.internal.Kept.{map_of}
use Rattle.range_table.proofs.Moving.{shifted_right}
use Rattle.range_table.proofs.Numbers.{map_inside}
use Rattle.range_table.proofs.kept.KeptSummaries.shift_and_renew.Goals as goal

pub returns-clause-ok : goal.returns-clause-ok
returns-clause-ok c = subst (λ (m : BlockMap Summary). AreMoved c.args.s.now (map_of c.args.self.now) m) (sym c.renew_worn.ensures) c.in_ok-shift.ensures.ok

pub returns-clause-right : goal.returns-clause-right
returns-clause-right c = λ before now takes right.
    let k = c.args.self.now in
    subst (AreFolds now) (sym c.renew_worn.ensures)
    (shifted_right c.args.s.now before now (map_of k) (map_of c.shift.new.self) c.requires (map_inside k.table k.files k.stands k.found) c.in_ok-shift.ensures.ok takes right)
