use Rattle.std.proofs.Common.{ap, refl, subst, sym}
use Rattle.range_table.specs.Cells.{fold}
use Rattle.range_table.specs.Table.{AreFolds, RangeTable}
use Rattle.range_table.specs.internal.Kept.{map_if, map_of}
use Rattle.range_table.proofs.Staying.{added_right}
use Rattle.range_table.proofs.ranges.Ranges.summary.Goals as goal

pub returns-clause-right : goal.returns-clause-right
returns-clause-right g c =
    let values = g.C.ListedCells.values c.args.cells.now in
    let right : AreFolds values (map_if c.begin.new.self.kept) = subst (λ (t : RangeTable). AreFolds values t.kept) (sym c.begin.ensures.same) c.requires.right in
    let kept : AreFolds values (map_of c.deref_mut.result.now) = subst (AreFolds values) (sym (ap map_of c.deref_mut.ensures.value)) (subst (λ o. AreFolds values (map_if o)) c.in-Some.is right) in
    subst (AreFolds values) (sym c.in_ok-merged-in-Some.ensures.kept) (added_right values (map_of c.deref_mut.result.now) c.args.b (fold values c.args.b) refl kept)
