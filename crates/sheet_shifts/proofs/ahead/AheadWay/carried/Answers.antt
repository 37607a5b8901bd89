use Rattle.std.proofs.Common.{subst}
use Rattle.std.proofs.lemmas.Option.{IfSome_then}
use Rattle.sheet_shifts.specs.internal.Going.{CarriesArea, GoesBy}
use Rattle.sheet_shifts.proofs.Going.{area-goes, part-ahead}
use Rattle.sheet_shifts.proofs.ahead.AheadWay.carried.Goals as goal

pub returns-clause-over : goal.returns-clause-over
returns-clause-over c =
    let w = c.args.self.now in
    let run = w.lists.now.run.items in
    IfSome_then c.area_over.result c.area_over.ensures (λ to goes. (area-goes _ c.args.lines c.args.b to (subst (λ r. GoesBy (CarriesArea c.args.lines) r c.args.b to) (part-ahead w.from c.args.count run) goes)).0)

pub returns-clause-back : goal.returns-clause-back
returns-clause-back c =
    let w = c.args.self.now in
    let run = w.lists.now.run.items in
    IfSome_then c.area_over.result c.area_over.ensures (λ to goes. (area-goes _ c.args.lines c.args.b to (subst (λ r. GoesBy (CarriesArea c.args.lines) r c.args.b to) (part-ahead w.from c.args.count run) goes)).1)
