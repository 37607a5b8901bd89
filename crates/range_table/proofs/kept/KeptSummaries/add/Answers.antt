use Rattle.std.proofs.Common.{◌∙◌, ap, subst, sym}
use Rattle.std.specs.FinMap as map
use Rattle.std.specs.Option.{IfSome}
use Rattle.range_table.specs.internal.Kept.{map_of}
use Rattle.range_table.specs.internal.Rows.{Begins}
use Rattle.range_table.proofs.Rows.{begins}
use Rattle.range_table.proofs.kept.KeptSummaries.add.Goals as goal

pub going_on-requires-clause-right : goal.going_on-requires-clause-right
going_on-requires-clause-right g c =
    let values = g.C.ListedCells.values c.args.cells.now in
    subst (λ o. IfSome o (Begins values c.args.b)) (sym c.begun-begun.ensures.begun) (begins values (map_of c.args.self.now) c.args.b c.requires.right)

pub returns-clause-kept : goal.returns-clause-kept
returns-clause-kept g c =
    c.put.ensures
    ∙ ap (λ m. map.insert m c.args.b c.in_ok-merged.merged.summary) c.know.ensures.same
    ∙ ap (map.insert (map_of c.args.self.now) c.args.b) c.in_ok-merged.ensures.fold
